-- The new items of a step are the items with a second symbol that the pass has stored, in rising order.
use mathlib.Core.Path.{◌≡◌, refl, sym, ap, ◌∙◌}
use mathlib.Core.List.{List, [], ◌∷◌}
use Prim.Native.Nat.{ℕ, zero, suc, ◌+◌, ◌-◌, ◌≤◌, ◌<◌}
use native.Mathlib.Omega.{arith}
use native.Mathlib.Decide.{ℕ_discrete}
use lib.ListN.{length, get_or}
use Rattle.item.specs.Item.{Item, item_at}
use Rattle.grammar.specs.Rules.{Rule, none}
use Rattle.parse.specs.WellFormed.{second_of, placing}
use Rattle.advance.specs.NewItems.{items_from, sorted, binary, new_items}
use Rattle.advance.specs.Advance.{greatest_origin}
use Rattle.advance.proofs.Placed.{no_item}
use Rattle.advance.proofs.Ordering.{Among, Rises, Apart, all_among, sorted-there, sorted_rises}
use Rattle.advance.proofs.Sorting.{items-all}
use Rattle.advance.proofs.Advancing.{binary_cases, binary-second, new-all}
use Rattle.advance.proofs.Keeping.{greatest_above}
use Rattle.advance.proofs.Steps.{binary_rises}

-- An item of a list stands at one of its places.
pub record PlaceIn (is : List Item) (i : Item) : Type 0 where
  pub place : ℕ
  pub within : place < length is
  pub at : get_or is place no_item ≡ i

pub among_place : {i : Item} {is : List Item} → Among i is → PlaceIn is i
among_place (Among.here e) = record { place = 0; within = omega arith; at = sym e }
among_place (Among.there m) =
    let found = among_place m in record { place = suc found.place; within = omega (arith, found.within); at = found.at }

pub place_among : (is : List Item) (q : ℕ) → q < length is → Among (get_or is q no_item) is
place_among [] q l = absurd (omega arith)
place_among (i ∷ is) zero l = Among.here refl
place_among (i ∷ is) (suc q) l = Among.there (place_among is q (omega arith))

-- An item that stands at one of the places from `from` up to and without `to`.
pub record Standing (words : List ℕ) (from to : ℕ) (i : Item) : Type 0 where
  pub place : ℕ
  pub from_on : from ≤ place
  pub up_to : place < to
  pub is : item_at words place ≡ i

items_among : (words : List ℕ) (from n p : ℕ) → from ≤ p → p < from + n → Among (item_at words p) (items_from words from n)
unfolding items_from
items_among words from zero p a b = absurd (omega arith)
items_among words from (suc n) p a b = elim (ℕ_discrete p from) [
  | yes e ↦ Among.here (ap (item_at words) e)
  | no d ↦ Among.there (items_among words (from + 1) n p (omega arith) (omega arith))
]

module _ (rs : List Rule) where
  binary-there : {k : Item} {is : List Item} → (second_of rs k ≡ none → ⊥) → Among k is → Among k (binary rs is)
  unfolding binary
  binary-there {k} two (Among.here {j} {is} e) =
      binary_cases rs (Among k) j is (λ one. absurd (two (ap (second_of rs) e ∙ one))) (λ n. Among.here e)
  binary-there {k} two (Among.there {j} {is} m) =
      binary_cases rs (Among k) j is (λ one. binary-there two m) (λ n. Among.there (binary-there two m))

  module _ (words : List ℕ) (from to : ℕ) where
    -- A new item was stored and has a second symbol,
    pub new-standing : {i : Item} → Among i (new_items rs words from to) → Standing words from to i
    new-standing m = all_among rs (new-all rs {P = Standing words from to} words from to (λ p a b. record { place = p; from_on = a; up_to = b; is = refl })) m

    pub new-second : {i : Item} → Among i (new_items rs words from to) → second_of rs i ≡ none → ⊥
    new-second m = all_among rs (binary-second rs (sorted rs (items_from words from (to - from)))) m

    -- and each such item is one.
    pub new-there : (p : ℕ) → from ≤ p → p < to → (second_of rs (item_at words p) ≡ none → ⊥) → Among (item_at words p) (new_items rs words from to)
    new-there p a b two = binary-there two (sorted-there rs (items_among words from (to - from) p a (omega arith)))

  -- Items at different places are apart where no two have one place in the order,
  items_apart : (w : List ℕ) (from n : ℕ)
      → ((p q : ℕ) → from ≤ p → p < q → q < from + n → placing rs (item_at w p) ≡ placing rs (item_at w q) → ⊥) → Apart rs (items_from w from n)
  unfolding items_from
  items_apart w from zero h = Apart.empty
  items_apart w from (suc n) h =
      Apart.also
      (items-all (λ (j : Item). placing rs (item_at w from) ≡ placing rs j → ⊥) w (from + 1) n (λ q a b. h from q (omega arith) (omega arith) (omega arith)))
      (items_apart w (from + 1) n (λ p q a b c. h p q (omega arith) b (omega arith)))

  -- and then the new items rise.
  pub new_rises : (w : List ℕ) (from to : ℕ) → ((p q : ℕ) → from ≤ p → p < q → q < to → placing rs (item_at w p) ≡ placing rs (item_at w q) → ⊥)
      → Rises rs (new_items rs w from to)
  new_rises w from to apart =
      binary_rises rs (sorted_rises rs (items_from w from (to - from)) (items_apart w from (to - from) (λ p q a b c. apart p q a b (omega arith))))

-- No origin is above the greatest.
pub greatest_among : (rs : List Rule) (e : ℕ) (is : List Item) {i : Item} → Among i is → i.origin ≤ greatest_origin e is
greatest_among rs e is m = all_among rs (greatest_above e is) m
