-- Items at a stretch of places.
use Rattle.std.proofs.Common.{◌≡◌, refl, sym, ap, ◌∙◌, List, [], ◌∷◌, ◌++◌, append_assoc, ℕ, zero, suc, ◌+◌, ◌-◌, ◌*◌, ◌/◌, ◌%◌, ◌≤◌, ◌<◌, arith, length, get_or, set, take, drop, length-append, length-drop, length-set, ext_get_or, length-take-le, get_or-take, get_or-drop, get_or-append-add, get_or-set_same, get_or-set_other, take_at}
use native.Mathlib.Decide.{dec_lt, ℕ_discrete}
use lib.ListN.{get_or-append}
use Rattle.item.specs.Item.{Item, item_words, item_at, origin_at, rule_at, handle_at, flat, stored}
use Rattle.item.proofs.Words.{flat-length, item_of_flat, stored-length, stored_other, stored_item, stored_item_other}
use Rattle.advance.specs.NewItems.{items_from, placed}

-- What stands for an item where there is none.
abbrev pub no_item : Item
no_item = record { origin = 0; rule = 0; handle = 0 }

-- As many as the count says.
pub items-count : (words : List ℕ) (from n : ℕ) → length (items_from words from n) ≡ n
unfolding items_from
items-count words from zero = refl
items-count words from (suc n) = ap suc (items-count words (from + 1) n)

-- Each is the item at its place.
pub items_at : (words : List ℕ) (from n q : ℕ) → q < n → get_or (items_from words from n) q no_item ≡ item_at words (from + q)
unfolding items_from
items_at words from zero q l = absurd (omega arith)
items_at words from (suc n) zero l = ap (item_at words) (omega arith)
items_at words from (suc n) (suc q) l = items_at words (from + 1) n q (omega arith) ∙ ap (item_at words) (omega arith)

-- Items at places that hold a list are that list.
pub items_are : (words : List ℕ) (from : ℕ) (is : List Item) → ((q : ℕ) → q < length is → item_at words (from + q) ≡ get_or is q no_item)
    → items_from words from (length is) ≡ is
items_are words from is h =
    ext_get_or no_item (items_from words from (length is)) is (items-count words from (length is))
    (λ q l. items_at words from (length is) q (omega (arith, items-count words from (length is))) ∙ h q (omega (arith, items-count words from (length is))))

-- An item is its words.
pub item_eq : (words words' : List ℕ) (p p' : ℕ) → origin_at words p ≡ origin_at words' p' → rule_at words p ≡ rule_at words' p'
    → handle_at words p ≡ handle_at words' p' → item_at words p ≡ item_at words' p'
item_eq words words' p p' a b c = λ k. record { origin = a k; rule = b k; handle = c k }

-- Behind other words the places go on.
pub behind-words : (front words : List ℕ) (from q : ℕ) → length front ≡ item_words * from → item_at (front ++ words) (from + q) ≡ item_at words q
behind-words front words from q e =
    item_eq (front ++ words) words (from + q) q (at (item_words * q) (omega arith)) (at (item_words * q + 1) (omega arith)) (at (item_words * q + 2) (omega arith))
  where
    at : (j : ℕ) {i : ℕ} → i ≡ length front + j → get_or (front ++ words) i 0 ≡ get_or words j 0
    at j e' = ap (λ (k : ℕ). get_or (front ++ words) k 0) e' ∙ get_or-append-add front words j 0

module _ (words : List ℕ) (from to : ℕ) (is : List Item) (runs : from ≤ to) (there : item_words * to ≤ length words) (long : length is ≡ to - from) where
  front : length (take (item_words * from) words) ≡ item_words * from
  front = length-take-le (item_words * from) words (omega arith)

  -- They are as many words.
  pub placed-length : length (placed words from to is) ≡ length words
  placed-length =
      length-append (take (item_words * from) words) _
      ∙ (let a : length (flat is ++ drop (item_words * to) words) ≡ length (flat is) + length (drop (item_words * to) words) = length-append (flat is) _ in
      omega (arith, front, a, flat-length is, length-drop (item_words * to) words))

  -- The items stand at their places ..
  pub placed_at : (q : ℕ) → q < length is → item_at (placed words from to is) (from + q) ≡ get_or is q no_item
  placed_at q l = behind-words (take (item_words * from) words) _ from q front ∙ item_of_flat is (drop (item_words * to) words) q no_item l

  -- .. and every other word is as it was.
  pub placed_below : (i : ℕ) → i < item_words * from → get_or (placed words from to is) i 0 ≡ get_or words i 0
  placed_below i l = get_or-append (take (item_words * from) words) _ 0 i (omega (arith, front)) ∙ get_or-take (item_words * from) words i 0 l

  pub placed_above : (i : ℕ) → item_words * to ≤ i → get_or (placed words from to is) i 0 ≡ get_or words i 0
  placed_above i l =
      let j : ℕ = i - item_words * to in
      let e : i ≡ length (take (item_words * from) words) + (length (flat is) + j) = omega (arith, front, flat-length is) in
      let e' : item_words * to + j ≡ i = omega arith in
      ap (λ (k : ℕ). get_or (placed words from to is) k 0) e
      ∙ get_or-append-add (take (item_words * from) words) _ (length (flat is) + j) 0
      ∙ get_or-append-add (flat is) _ j 0
      ∙ get_or-drop (item_words * to) words j 0
      ∙ ap (λ (k : ℕ). get_or words k 0) e'

  -- Words of which this is known are those.
  pub placed_ext : (words' : List ℕ) → length words' ≡ length words
      → ((i : ℕ) → i < item_words * from → get_or words' i 0 ≡ get_or words i 0)
      → ((i : ℕ) → item_words * to ≤ i → get_or words' i 0 ≡ get_or words i 0)
      → ((q : ℕ) → q < length is → item_at words' (from + q) ≡ get_or is q no_item)
      → words' ≡ placed words from to is
  placed_ext words' e below above at =
      ext_get_or 0 words' (placed words from to is) (e ∙ sym placed-length) (λ i l. word i (dec_lt i (item_words * from)) (dec_lt i (item_words * to)))
    where
      inside : (q : ℕ) → q < length is → item_at words' (from + q) ≡ item_at (placed words from to is) (from + q)
      inside q l = at q l ∙ sym (placed_at q l)

      -- A word of the stretch is the first, the second or the third of an item.
      part : (i : ℕ) → item_words * from ≤ i → i < item_words * to → Dec (i % item_words ≡ 0) → Dec (i % item_words ≡ 1) → get_or words' i 0 ≡ get_or (placed words from to is) i 0
      part i a b (yes first) d =
          let q : ℕ = i / item_words - from in
          let i-is : i ≡ item_words * (from + q) = omega arith in
          ap (λ (k : ℕ). get_or words' k 0) i-is ∙ ap (λ (j : Item). j.origin) (inside q (omega arith)) ∙ ap (λ (k : ℕ). get_or (placed words from to is) k 0) (sym i-is)
      part i a b (no n) (yes second) =
          let q : ℕ = i / item_words - from in
          let i-is : i ≡ item_words * (from + q) + 1 = omega arith in
          ap (λ (k : ℕ). get_or words' k 0) i-is ∙ ap (λ (j : Item). j.rule) (inside q (omega arith)) ∙ ap (λ (k : ℕ). get_or (placed words from to is) k 0) (sym i-is)
      part i a b (no n) (no m) =
          let q : ℕ = i / item_words - from in
          let i-is : i ≡ item_words * (from + q) + 2 = omega arith in
          ap (λ (k : ℕ). get_or words' k 0) i-is ∙ ap (λ (j : Item). j.handle) (inside q (omega arith)) ∙ ap (λ (k : ℕ). get_or (placed words from to is) k 0) (sym i-is)

      word : (i : ℕ) → Dec (i < item_words * from) → Dec (i < item_words * to) → get_or words' i 0 ≡ get_or (placed words from to is) i 0
      word i (yes l) d = below i l ∙ sym (placed_below i l)
      word i (no n) (yes l) = part i (omega arith) l (ℕ_discrete (i % item_words) 0) (ℕ_discrete (i % item_words) 1)
      word i (no n) (no m) = above i (omega arith) ∙ sym (placed_above i (omega arith))

  -- The items of the stretch are they.
  pub items-placed : items_from (placed words from to is) from (length is) ≡ is
  items-placed = items_are (placed words from to is) from is placed_at

-- An item stored at one of the places takes its place in the list.
pub placed-stored : (words : List ℕ) (from to : ℕ) (is : List Item) → from ≤ to → item_words * to ≤ length words → length is ≡ to - from
    → (q : ℕ) (i : Item) → q < length is → stored (placed words from to is) (from + q) i ≡ placed words from to (set is q i)
placed-stored words from to is runs there long q i l =
    placed_ext words from to (set is q i) runs there (length-set is q i ∙ long) (stored old (from + q) i)
    (stored-length old (from + q) i ∙ whole)
    (λ k h. stored_other old (from + q) i k (λ e. omega arith) (λ e. omega arith) (λ e. omega arith) ∙ placed_below words from to is runs there long k h)
    (λ k h. stored_other old (from + q) i k (λ e. omega arith) (λ e. omega arith) (λ e. omega arith) ∙ placed_above words from to is runs there long k h)
    (λ r h. at r h (ℕ_discrete r q))
  where
    old : List ℕ
    old = placed words from to is

    whole : length old ≡ length words
    whole = placed-length words from to is runs there long

    at : (r : ℕ) → r < length (set is q i) → Dec (r ≡ q) → item_at (stored old (from + q) i) (from + r) ≡ get_or (set is q i) r no_item
    at r h (yes e) =
        ap (λ (k : ℕ). item_at (stored old (from + q) i) (from + k)) e
        ∙ stored_item old (from + q) i (omega (arith, whole))
        ∙ sym (ap (λ (k : ℕ). get_or (set is q i) k no_item) e ∙ get_or-set_same is q i no_item l)
    at r h (no n) =
        stored_item_other old (from + q) i (from + r) (λ e. n (omega arith))
        ∙ placed_at words from to is runs there long r (omega (arith, length-set is q i))
        ∙ sym (get_or-set_other is q r i no_item n)

-- The items of a stretch, put where they stand, change nothing.
pub placed_self : (words : List ℕ) (from to : ℕ) → from ≤ to → item_words * to ≤ length words
    → words ≡ placed words from to (items_from words from (to - from))
placed_self words from to runs there =
    placed_ext words from to (items_from words from (to - from)) runs there (items-count words from (to - from)) words refl (λ i l. refl) (λ i l. refl)
    (λ q l. sym (items_at words from (to - from) q (omega (arith, items-count words from (to - from)))))

-- A longer stretch over a shorter one.
pub placed-over : (words : List ℕ) (from at to : ℕ) (is js : List Item) → from ≤ at → at ≤ to → item_words * to ≤ length words
    → length is ≡ at - from → length js ≡ to - from
    → placed (placed words from at is) from to js ≡ placed words from to js
placed-over words from at to is js runs on there few long =
    placed_ext words from to js (omega arith) there long (placed old from to js)
    (placed-length old from to js (omega arith) room long ∙ whole)
    (λ i l. placed_below old from to js (omega arith) room long i l ∙ placed_below words from at is runs (omega arith) few i l)
    (λ i l. placed_above old from to js (omega arith) room long i l ∙ placed_above words from at is runs (omega arith) few i (omega arith))
    (placed_at old from to js (omega arith) room long)
  where
    old : List ℕ
    old = placed words from at is

    whole : length old ≡ length words
    whole = placed-length words from at is runs (omega arith) few

    room : item_words * to ≤ length old
    room = omega (arith, whole)

-- The first of the items up to a place, and the others.
pub items_down : (words : List ℕ) (p to : ℕ) → 0 < p → p ≤ to → items_from words (p - 1) (to - (p - 1)) ≡ item_at words (p - 1) ∷ items_from words p (to - p)
unfolding items_from
items_down words p to l m =
    let more : to - (p - 1) ≡ suc (to - p) = omega arith in
    let next : p - 1 + 1 ≡ p = omega arith in
    ap (items_from words (p - 1)) more ∙ ap (λ (q : ℕ). item_at words (p - 1) ∷ items_from words q (to - p)) next

-- No items.
pub items_none : (words : List ℕ) (from n : ℕ) → n ≡ 0 → items_from words from n ≡ []
unfolding items_from
items_none words from n e = ap (items_from words from) e

-- The first words, up to a place, are those before a stretch of items and the items.
pub take-items : (words : List ℕ) (from n : ℕ) → item_words * (from + n) ≤ length words
    → take (item_words * (from + n)) words ≡ take (item_words * from) words ++ flat (items_from words from n)
take-items words from n l =
    ap (take (item_words * (from + n))) (placed_self words from (from + n) (omega arith) l ∙ sym (append_assoc (take (item_words * from) words) (flat (items_from words from (from + n - from))) (drop (item_words * (from + n)) words)))
    ∙ take_at (take (item_words * from) words ++ flat (items_from words from (from + n - from))) (drop (item_words * (from + n)) words) (item_words * (from + n))
    (omega (arith, length-append (take (item_words * from) words) (flat (items_from words from (from + n - from))), length-take-le (item_words * from) words (omega arith), flat-length (items_from words from (from + n - from)), items-count words from (from + n - from)))
    ∙ ap (λ (k : ℕ). take (item_words * from) words ++ flat (items_from words from k)) (omega arith)
