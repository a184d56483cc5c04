-- Two answers of count and of tree agree in the host's words.
use Rattle.std.proofs.Common.{◌≡◌, sym, ap, ◌∙◌, List, ℕ}
use Rattle.trees.proofs.Agree.{counts_agree, tells_agree}
use Rattle.host.specs.Trees.{number_in, values_in, trees_or, place_or, count_in, CountsIn, TellsIn}

-- Two results that meet a statement agree, in the host's words too.
pub counts_in_agree : {store : List ℕ} {h t p n x y m u v : ℕ} → CountsIn store h t p n x y → CountsIn store h t p m u v → (n ≡ m) × (x ≡ u) × (y ≡ v)
counts_in_agree {t = t} {p = p} one other =
    let same : one.answer ≡ other.answer = counts_agree one.counts other.counts in (
      one.number_is ∙ ap number_in same ∙ sym other.number_is,
      one.trees_is ∙ ap (λ a. trees_or t (values_in a)) same ∙ sym other.trees_is,
      one.place_is ∙ ap (λ a. place_or p (values_in a)) same ∙ sym other.place_is,
    )

pub tells_in_agree : {store before after after' : List ℕ} {h k p n x y m u v : ℕ} → TellsIn store h k before after p n x y
    → TellsIn store h k before after' p m u v → (after ≡ after') × (n ≡ m) × (x ≡ u) × (y ≡ v)
tells_in_agree {p = p} one other =
    let same = tells_agree one.tells other.tells in (
      same.place,
      one.number_is ∙ ap number_in same.answer ∙ sym other.number_is,
      one.count_is ∙ ap (λ a. count_in (values_in a)) same.answer ∙ sym other.count_is,
      one.place_is ∙ ap (λ a. place_or p (values_in a)) same.answer ∙ sym other.place_is,
    )
