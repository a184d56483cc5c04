-- Of sorted items those with no second stand last.
use Rattle.std.proofs.Common.{◌≡◌, refl, sym, ap, ap₂, ◌∙◌, subst, List, [], ◌∷◌, ◌++◌, ℕ, zero, suc, ◌+◌, ◌-◌, ◌*◌, ◌≤◌, ◌<◌, arith, length, get_or, take, ext_get_or, length-take-le, get_or-take, take-take, eq-eqb, ne_eqb}
use native.Mathlib.Decide.{dec_lt}
use lib.Seq.{take-append-le}
use Rattle.item.specs.Item.{Item, item_words, item_at, rule_at, flat}
use Rattle.grammar.specs.Rules.{Rule, none}
use Rattle.grammar.specs.inner.Decoded.{second_in, rules_in}
use Rattle.parse.specs.inner.Parts.{Clear}
use Rattle.parse.specs.WellFormed.{second_of, placing}
use Rattle.advance.specs.NewItems.{items_from, placed, sorted, binary, new_items}
use Rattle.advance.specs.inner.Order.{All, NeverFalls, Stored}
use Rattle.parse.specs.Words.{padded}
use Rattle.advance.specs.Advance.{ending}
use Rattle.advance.proofs.Placed.{no_item, items-count, items_at, placed-length, placed_at, placed_above, items-placed, take-items}
use Rattle.advance.proofs.Placing.{Narrow, narrow_item, second_in_lem}
use Rattle.advance.proofs.Ordering.{all_at, sorted-length, sorted_all, sorted-never_falls, never_falls_at, second-never_falls}
use Rattle.advance.proofs.Sorting.{items-all}

-- Where the items with a second are the first, they are what is left.
binary-front : (rs : List Rule) (is : List Item) (n : ℕ) → n ≤ length is
    → ((q : ℕ) → q < n → second_of rs (get_or is q no_item) ≡ none → ⊥) → ((q : ℕ) → n ≤ q → q < length is → second_of rs (get_or is q no_item) ≡ none)
    → binary rs is ≡ take n is
unfolding binary
binary-front rs [] zero l before behind = refl
binary-front rs [] (suc n) l before behind = absurd (omega arith)
binary-front rs (i ∷ is) zero l before behind =
    rw (binary, eq-eqb (second_of rs i) none (behind 0 (omega arith) (omega arith)))
    (binary-front rs is zero (omega arith) (λ q m. absurd (omega arith)) (λ q a b. behind (suc q) (omega arith) (omega arith)))
binary-front rs (i ∷ is) (suc n) l before behind =
    rw (binary, ne_eqb (second_of rs i) none (before 0 (omega arith)))
    (ap (λ (js : List Item). i ∷ js) (binary-front rs is n (omega arith) (λ q m. before (suc q) (omega arith)) (λ q a b. behind (suc q) (omega arith) (omega arith))))

-- The first items of a stretch.
items-front : (words : List ℕ) (from k n : ℕ) → n ≤ k → take n (items_from words from k) ≡ items_from words from n
items-front words from k n l =
    ext_get_or no_item (take n (items_from words from k)) (items_from words from n) (long ∙ sym (items-count words from n))
    (λ q m.
    let few : q < n = omega (arith, long) in
    get_or-take n (items_from words from k) q no_item few ∙ items_at words from k q (omega arith) ∙ sym (items_at words from n q few))
  where
    long : length (take n (items_from words from k)) ≡ n
    long = length-take-le n (items_from words from k) (omega (arith, items-count words from k))

module _ (rs : List Rule) (w : List ℕ) (from to : ℕ) where
  -- From place `end` on no item has a second.
  pub record Dropping (end : ℕ) : Type 0 where
    pub above : from ≤ end
    pub below : end ≤ to
    pub unary : (p : ℕ) → end ≤ p → p < to → second_of rs (item_at w p) ≡ none

  pub dropping_next : (end : ℕ) → Dropping end → from < end → second_of rs (item_at w (end - 1)) ≡ none → Dropping (end - 1)
  dropping_next end d l e = record {
    above = omega arith;
    below = omega (arith, d.below);
    unary = λ p a b. elim (dec_lt p end) [ yes m ↦ ap (λ (k : ℕ). second_of rs (item_at w k)) (here p a m) ∙ e | no m ↦ d.unary p (omega arith) b ];
  }
    where
      here : (p : ℕ) → end - 1 ≤ p → p < end → p ≡ end - 1
      here p a m = omega arith

  -- The last before `end` has one, and so has each before it.
  pub dropping_ends : Narrow w → NeverFalls rs (items_from w from (to - from)) → (end : ℕ) → Dropping end → (from < end → second_of rs (item_at w (end - 1)) < none)
      → binary rs (items_from w from (to - from)) ≡ items_from w from (end - from)
  dropping_ends narrow falls end d last =
      binary-front rs is (end - from) (omega (arith, long, d.below))
      (λ q m e. omega (arith, has q m, e))
      (λ q a b. ap (second_of rs) (items_at w from (to - from) q (omega (arith, long))) ∙ d.unary (from + q) (omega arith) (omega (arith, long)))
      ∙ items-front w from (to - from) (end - from) (omega (arith, d.below))
    where
      is : List Item
      is = items_from w from (to - from)

      long : length is ≡ to - from
      long = items-count w from (to - from)

      item : (q : ℕ) → q < to - from → get_or is q no_item ≡ item_at w (from + q)
      item q l = items_at w from (to - from) q l

      has : (q : ℕ) → q < end - from → second_of rs (get_or is q no_item) < none
      has q m =
          let r : ℕ = end - 1 - from in
          let order : placing rs (get_or is q no_item) ≤ placing rs (get_or is r no_item) = never_falls_at rs falls q r (omega arith) (omega (arith, long, d.below)) in
          let at : from + r ≡ end - 1 = omega arith in
          let order' : placing rs (item_at w (from + q)) ≤ placing rs (item_at w (end - 1)) =
          omega (arith, ap (placing rs) (item q (omega (arith, d.below))), ap (placing rs) (item r (omega (arith, d.below)) ∙ ap (item_at w) at)) in
          omega (arith, second-never_falls rs (item_at w (from + q)) (item_at w (end - 1)) (narrow_item w _ narrow) (narrow_item w _ narrow) order', last (omega arith), ap (second_of rs) (item q (omega (arith, d.below))))

-- The second that the code reads of the item at a place.
pub second-read : (rules : List ℕ) (count : ℕ) (w : List ℕ) (from to p : ℕ) → Stored count w from to → from ≤ p → p < to
    → (word s : ℕ) → word ≡ rule_at w p → s ≡ second_in rules word → second_of (rules_in rules count) (item_at w p) ≡ s
second-read rules count w from to p held a b word s e g = second_in_lem rules count (item_at w p) (held.rules p a b) ∙ sym (g ∙ ap (second_in rules) e)

-- Cut behind `end`, and 0 from there on.
pub cut-ending : (w : List ℕ) (from end : ℕ) (is : List Item) → from ≤ end → item_words * end ≤ length w → is ≡ items_from w from (end - from)
    → padded (length w) (take (item_words * end) w) ≡ ending w from is
cut-ending w from end is l m e =
    let at : end ≡ from + (end - from) = omega arith in
    ap (padded (length w))
    (ap (λ (k : ℕ). take (item_words * k) w) at ∙ take-items w from (end - from) (omega arith) ∙ ap (λ (js : List Item). take (item_words * from) w ++ flat js) (sym e))

pub cut-count : (w : List ℕ) (from end : ℕ) (is : List Item) → from ≤ end → is ≡ items_from w from (end - from) → end ≡ from + length is
cut-count w from end is l e = omega (arith, ap length e ∙ items-count w from (end - from))

-- The sorted words: the items never fall, and what was 0 is.
module _ (rs : List Rule) (count : ℕ) (w : List ℕ) (from to : ℕ) (held : Stored count w from to) where
  abbrev is : List Item
  is = items_from w from (to - from)

  abbrev words : List ℕ
  words = placed w from to (sorted rs is)

  long : length (sorted rs is) ≡ to - from
  long = sorted-length rs is ∙ items-count w from (to - from)

  whole : length words ≡ length w
  whole = placed-length w from to (sorted rs is) held.runs held.there long

  pub sorted-items : items_from words from (to - from) ≡ sorted rs is
  sorted-items = ap (items_from words from) (sym long) ∙ items-placed w from to (sorted rs is) held.runs held.there long

  sorted-held : Stored count words from to
  sorted-held = record { few = held.few; runs = held.runs; there = omega (arith, whole, held.there); rules = rule }
    where
      ruled : All (λ (i : Item). i.rule < count) (sorted rs is)
      ruled = sorted_all rs (items-all (λ (i : Item). i.rule < count) w from (to - from) (λ p a b. held.rules p a (omega (arith, held.runs))))

      rule : (p : ℕ) → from ≤ p → p < to → (item_at words p).rule < count
      rule p a b =
          let e : item_at words p ≡ get_or (sorted rs is) (p - from) no_item =
          ap (item_at words) (omega arith) ∙ placed_at w from to (sorted rs is) held.runs held.there long (p - from) (omega (arith, long)) in
          omega (arith, ap (λ (i : Item). i.rule) e, all_at ruled (p - from) (omega (arith, long)))

  -- What the removal asks of them.
  pub sorted_asks : Clear w (item_words * to) → {words' : List ℕ} → words' ≡ words
      → Stored count words' from to × NeverFalls rs (items_from words' from (to - from)) × Clear words' (item_words * to)
  sorted_asks c e =
      subst (λ (x : List ℕ). Stored count x from to × NeverFalls rs (items_from x from (to - from)) × Clear x (item_words * to)) (sym e) (
        sorted-held,
        subst (NeverFalls rs) (sym sorted-items) (sorted-never_falls rs is),
        record { each = λ i l. placed_above w from to (sorted rs is) held.runs held.there long i l ∙ c.each i l },
      )

  -- Then the new items are those of step 4 ..
  pub sorted-new : {words' : List ℕ} → words' ≡ words → binary rs (items_from words' from (to - from)) ≡ new_items rs w from to
  sorted-new e = ap (λ (x : List ℕ). binary rs (items_from x from (to - from))) e ∙ ap (binary rs) sorted-items

  -- .. and before them stands what stood there.
  pub sorted-ending : {words' : List ℕ} → words' ≡ words → ending words' from (binary rs (items_from words' from (to - from))) ≡ ending w from (new_items rs w from to)
  sorted-ending {words'} e =
      ap (ending words' from) (sorted-new e)
      ∙ ap₂ (λ (n : ℕ) (front : List ℕ). padded n (front ++ flat (new_items rs w from to))) (ap length e ∙ whole) (ap (take (item_words * from)) e ∙ front)
    where
      front : take (item_words * from) words ≡ take (item_words * from) w
      front =
          take-append-le (item_words * from) (take (item_words * from) w) _ (omega (arith, length-take-le (item_words * from) w (omega (arith, held.runs, held.there))))
          ∙ take-take (item_words * from) (item_words * from) w (omega arith)
