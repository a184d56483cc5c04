-- Items in words: what is read where items were stored.
use Rattle.std.proofs.Common.{◌≡◌, refl, sym, ap, ◌∙◌, List, [], ◌∷◌, ◌++◌, ℕ, suc, ◌+◌, ◌*◌, ◌≤◌, ◌<◌, add-zero, add-one, arith, length, get_or, take, drop, set, length-append, length-set, get_or-set_same, get_or-set_other}
use lib.ListN.{get_or-append}
use lib.Seq.{length-sets}
use Rattle.laws.proofs.Records as records
use Rattle.item.specs.Item.{Item, words_of, item_words, flat, item_at, origin_at, rule_at, handle_at, stored, key_of, key_at, HasPlace}

-- Three words an item.
pub flat-length : (its : List Item) → length (flat its) ≡ item_words * length its
flat-length its = records.flat-length words_of item_words (λ i. refl) its

pub flat_append : (its jts : List Item) → flat (its ++ jts) ≡ flat its ++ flat jts
flat_append its jts = records.flat_append words_of item_words (λ i. refl) its jts

-- The item at a place of the words is the one at that place of the list.
pub item_of_flat : (its : List Item) (rest : List ℕ) (p : ℕ) (d : Item) → p < length its → item_at (flat its ++ rest) p ≡ get_or its p d
item_of_flat its rest p d h = λ k. record { origin = origins k; rule = rules k; handle = handles k }
  where
    origins : origin_at (flat its ++ rest) p ≡ (get_or its p d).origin
    origins =
        ap (λ (n : ℕ). get_or (flat its ++ rest) n 0) (sym (add-zero (item_words * p)))
        ∙ records.flat_at words_of item_words (λ i. refl) its rest p 0 d h (omega arith)

    rules : rule_at (flat its ++ rest) p ≡ (get_or its p d).rule
    rules = records.flat_at words_of item_words (λ i. refl) its rest p 1 d h (omega arith)

    handles : handle_at (flat its ++ rest) p ≡ (get_or its p d).handle
    handles = records.flat_at words_of item_words (λ i. refl) its rest p 2 d h (omega arith)

-- Its key is that item's,
pub key_of-flat : (its : List Item) (rest : List ℕ) (p : ℕ) (d : Item) → p < length its → key_at (flat its ++ rest) p ≡ key_of (get_or its p d)
key_of-flat its rest p d h = ap key_of (item_of_flat its rest p d h)

-- whatever items stand behind it.
pub key_before : (its more : List Item) (rest rest' : List ℕ) (p : ℕ) → p < length its
    → key_at (flat (its ++ more) ++ rest) p ≡ key_at (flat its ++ rest') p
key_before its more rest rest' p h =
    let none : Item = record { origin = 0; rule = 0; handle = 0 } in
    key_of-flat (its ++ more) rest p none (omega (arith, length-append its more))
    ∙ ap key_of (get_or-append its more none p h)
    ∙ sym (key_of-flat its rest' p none h)

-- An item stored behind the others is one item more.
pub stored-behind : (its : List Item) (i : Item) (a b c : ℕ) (rest : List ℕ)
    → stored (flat its ++ (a ∷ b ∷ c ∷ rest)) (length its) i ≡ flat (its ++ (i ∷ [])) ++ rest
stored-behind its i a b c rest = records.flat-stored words_of item_words (λ i. refl) its i (a ∷ b ∷ c ∷ []) rest refl

-- An item stored over another takes its place.
pub stored-over : (its : List Item) (p : ℕ) (i : Item) (rest : List ℕ) → p < length its
    → stored (flat its ++ rest) p i ≡ flat (set its p i) ++ rest
stored-over its p i rest h = records.flat-set words_of item_words (λ i. refl) its p i (record { origin = 0; rule = 0; handle = 0 }) rest h

-- The words of the first items, and those of the others.
pub flat-take : (its : List Item) (p : ℕ) → p ≤ length its → take (item_words * p) (flat its) ≡ flat (take p its)
flat-take its p h = records.flat-take words_of item_words (λ i. refl) its p h

pub flat-drop : (its : List Item) (p : ℕ) → p ≤ length its → drop (item_words * p) (flat its) ≡ flat (drop p its)
flat-drop its p h = records.flat-drop words_of item_words (λ i. refl) its p h

-- A store leaves the number of words.
pub stored-length : (words : List ℕ) (p : ℕ) (i : Item) → length (stored words p i) ≡ length words
stored-length words p i = length-sets words (item_words * p) (words_of i)

-- The words while an item is stored: after its origin, and after its rule.
abbrev origin_stored : List ℕ → ℕ → Item → List ℕ
origin_stored words p i = set words (item_words * p) i.origin

abbrev rule_stored : List ℕ → ℕ → Item → List ℕ
rule_stored words p i = set (origin_stored words p i) (suc (item_words * p)) i.rule

-- A store leaves every word that is not the item's.
pub stored_other : (words : List ℕ) (p : ℕ) (i : Item) (k : ℕ) → (k ≡ item_words * p → ⊥) → (k ≡ item_words * p + 1 → ⊥)
    → (k ≡ item_words * p + 2 → ⊥) → get_or (stored words p i) k 0 ≡ get_or words k 0
stored_other words p i k first second third =
    get_or-set_other (rule_stored words p i) (suc (suc (item_words * p))) k i.handle 0 (λ e. third (omega arith))
    ∙ get_or-set_other (origin_stored words p i) (suc (item_words * p)) k i.rule 0 (λ e. second (omega arith))
    ∙ get_or-set_other words (item_words * p) k i.origin 0 first

-- A store leaves the items at other places, and so their keys.
pub stored_item_other : (words : List ℕ) (p : ℕ) (i : Item) (q : ℕ) → (q ≡ p → ⊥) → item_at (stored words p i) q ≡ item_at words q
stored_item_other words p i q differ = λ k. record { origin = origins k; rule = rules k; handle = handles k }
  where
    origins : origin_at (stored words p i) q ≡ origin_at words q
    origins = stored_other words p i (item_words * q) (λ e. differ (omega arith)) (λ e. omega arith) (λ e. omega arith)

    rules : rule_at (stored words p i) q ≡ rule_at words q
    rules = stored_other words p i (item_words * q + 1) (λ e. omega arith) (λ e. differ (omega arith)) (λ e. omega arith)

    handles : handle_at (stored words p i) q ≡ handle_at words q
    handles = stored_other words p i (item_words * q + 2) (λ e. omega arith) (λ e. omega arith) (λ e. differ (omega arith))

-- Keys of places below n do not change when an item is stored at n or behind it.
pub stored_key_below : (words : List ℕ) (n p : ℕ) (i : Item) (q : ℕ) → n ≤ p → q < n → key_at (stored words p i) q ≡ key_at words q
stored_key_below words n p i q hp hq = ap key_of (stored_item_other words p i q (λ e. omega arith))

-- The item that was stored is the item there.
pub stored_item : (words : List ℕ) (p : ℕ) (i : Item) → HasPlace words p → item_at (stored words p i) p ≡ i
stored_item words p i h = λ k. record { origin = origins k; rule = rules k; handle = handles k }
  where
    -- The third store leaves the two words before it.
    earlier : (k : ℕ) → k < item_words * p + 2 → get_or (stored words p i) k 0 ≡ get_or (rule_stored words p i) k 0
    earlier k l = get_or-set_other (rule_stored words p i) (suc (suc (item_words * p))) k i.handle 0 (λ e. omega arith)

    origins : origin_at (stored words p i) p ≡ i.origin
    origins =
        earlier (item_words * p) (omega arith)
        ∙ get_or-set_other (origin_stored words p i) (suc (item_words * p)) (item_words * p) i.rule 0 (λ e. omega arith)
        ∙ get_or-set_same words (item_words * p) i.origin 0 (omega arith)

    rules : rule_at (stored words p i) p ≡ i.rule
    rules =
        earlier (item_words * p + 1) (omega arith)
        ∙ ap (λ (n : ℕ). get_or (rule_stored words p i) n 0) (add-one (item_words * p))
        ∙ get_or-set_same (origin_stored words p i) (suc (item_words * p)) i.rule 0 (simp length-set (omega arith))

    handles : handle_at (stored words p i) p ≡ i.handle
    handles =
        let third : item_words * p + 2 ≡ suc (suc (item_words * p)) = omega arith in
        ap (λ (n : ℕ). get_or (stored words p i) n 0) third
        ∙ get_or-set_same (rule_stored words p i) (suc (suc (item_words * p))) i.handle 0 (simp length-set (omega arith))

-- A place that the words have they have after a store too.
pub stored-place : (words : List ℕ) (p : ℕ) (i : Item) (q : ℕ) → HasPlace words q → HasPlace (stored words p i) q
stored-place words p i q h = omega (arith, stored-length words p i)
