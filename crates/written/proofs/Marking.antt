-- What marks are at rest: exactly the symbols that become a string of the kind asked for.
use mathlib.Core.Path.{◌≡◌, subst}
use mathlib.Core.Bool.{Bool, false}
use mathlib.Core.List.{List, [], ◌∷◌, ◌++◌, append-nil}
use Prim.Native.Nat.{ℕ}
use Rattle.written.specs.Written.{Written, Writes, Becomes}
use Rattle.written.specs.Written.Becomes.{nothing, stays, by_rule}
use Rattle.written.proofs.Becoming.{becomes-join}
use Rattle.written.specs.Lists.{Each}
use Rattle.written.specs.Lists.Each.{end, and}
use Rattle.written.specs.Split.{given}
use Rattle.written.specs.Translation.{places}
use Rattle.laws.proofs.Tests.{either_way}

-- A kind of strings: the empty one is of it, and a string is exactly when its parts are.
module _ (w : Written) (P : List ℕ → Type 0) (empty-is : P []) (join : (u v : List ℕ) → P u → P v → P (u ++ v)) (part : (u v : List ℕ) → P (u ++ v) → P u × P v) where
  -- A list of symbols becomes a string of the kind.
  pub record Reaches (α : List ℕ) : Type 0 where
    pub string : List ℕ
    pub kind : P string
    pub becomes : Becomes w α string

  -- Symbols that each become one become one together; and so a rule's left side does.
  pub each-reaches : (α : List ℕ) → Each (λ x. Reaches (x ∷ [])) α → Reaches α
  each-reaches [] end = record { string = []; kind = empty-is; becomes = nothing }
  each-reaches (x ∷ α) (and p q) =
      let r = each-reaches α q in
      record { string = p.string ++ r.string; kind = join p.string r.string p.kind r.kind; becomes = becomes-join p.becomes r.becomes }

  pub fired : {r a : ℕ} {ω : List ℕ} → Writes w r a ω → Each (λ x. Reaches (x ∷ [])) ω → Reaches (a ∷ [])
  fired {a} {ω} h e =
      let r = each-reaches ω e in
      record { string = r.string; kind = r.kind; becomes = subst (Becomes w (a ∷ [])) (append-nil r.string) (by_rule h r.becomes nothing) }

  -- Marks that hold the symbols of the kind and are closed under the rules hold all of what becomes a string of the kind.
  pub all-marked : (Marked : ℕ → Type 0) → ((x : ℕ) → P (x ∷ []) → Marked x) → ((r a : ℕ) (ω : List ℕ) → Writes w r a ω → Each Marked ω → Marked a)
      → {α β : List ℕ} → Becomes w α β → P β → Each Marked α
  all-marked Marked begin closed nothing p = end
  all-marked Marked begin closed (stays {x = x} {β = β} d) p =
      let k = part (x ∷ []) β p in and (begin x k.0) (all-marked Marked begin closed d k.1)
  all-marked Marked begin closed (by_rule {r = r} {a = a} {ω = ω} {γ = u} {β = v} h d e) p =
      let k = part u v p in
      and (closed r a ω h (all-marked Marked begin closed d k.0)) (all-marked Marked begin closed e k.1)

-- Symbols become their places, where the others become nothing.
pub becomes-places : (w : Written) (keep : ℕ → Bool) {Low : ℕ → Type 0} → ((x : ℕ) → Low x → keep x ≡ false → Becomes w (x ∷ []) []) → (α : List ℕ)
    → Each Low α → Becomes w α (places keep α)
unfolding places given
becomes-places w keep gone [] end = nothing
becomes-places w keep gone (x ∷ α) (and h p) = either_way (keep x)
    (λ k. rw (places, k) (stays (becomes-places w keep gone α p)))
    (λ k. rw (places, k) (becomes-join (gone x h k) (becomes-places w keep gone α p)))
