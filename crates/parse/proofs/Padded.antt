-- Words, and 0 behind them; units, and fillers behind them.
use mathlib.Core.Path.{◌≡◌, refl, sym, ap, ◌∙◌}
use mathlib.Core.List.{List, [], ◌∷◌, ◌++◌}
use Prim.Native.Nat.{ℕ, zero, suc, ◌+◌, ◌-◌, ◌≤◌, ◌<◌}
use native.Mathlib.Decide.{dec_lt, ℕ_discrete}
use native.Mathlib.Omega.{arith}
use lib.ListN.{length, get_or, set, take, drop, replicate, length-drop, length-append, length-take, length-replicate, length-set, get_or-append, get_or-eq_default}
use Rattle.std.proofs.lemmas.List.{get_or-drop, get_or-append_right}
use lib.Seq.{ext_get_or, length-take-le, get_or-take, get_or-append-add, get_or-set_same, get_or-set_other}
use Rattle.node.specs.Reading.{filler}
use Rattle.parse.specs.inner.Parts.{Clear, Filled}
use Rattle.parse.specs.Words.{topped, padded, filled}

-- Words, and the word `d` behind them up to `size` words: `padded` of 0, `filled` of fillers.
module _ {A : Type 0} (d : A) where
  -- Of a number again and again each is that number, there or not.
  each_same : (n i : ℕ) → get_or (replicate n d) i d ≡ d
  each_same zero i = refl
  each_same (suc n) zero = refl
  each_same (suc n) (suc i) = each_same n i

  topped_length : (size : ℕ) (words : List A) → length words ≤ size → length (topped d size words) ≡ size
  topped_length size words l = omega (arith, length-append words (replicate (size - length words) d), length-replicate {A = A} (size - length words) d)

  topped_word : (size : ℕ) (words : List A) (i : ℕ) → get_or (topped d size words) i d ≡ get_or words i d
  topped_word size words i = elim (dec_lt i (length words)) [
    | yes l ↦ get_or-append words _ d i l
    | no m ↦
        ap (λ (k : ℕ). get_or (topped d size words) k d) (at m)
        ∙ get_or-append-add words (replicate (size - length words) d) (i - length words) d
        ∙ each_same (size - length words) (i - length words)
        ∙ sym (get_or-eq_default words d {n = i} (omega arith))
  ]
    where
      at : (i < length words → ⊥) → i ≡ length words + (i - length words)
      at m = omega arith

  topped_ext : (size : ℕ) (words words' : List A) → length words ≤ size → length words' ≡ size → ((i : ℕ) → i < size → get_or words' i d ≡ get_or words i d)
      → words' ≡ topped d size words
  topped_ext size words words' l e h =
      ext_get_or d words' (topped d size words) (e ∙ sym (topped_length size words l)) (λ i m. h i (omega arith) ∙ sym (topped_word size words i))

  front-other : (n : ℕ) (words : List A) (i : ℕ) → n ≤ i → get_or (take n words) i d ≡ d
  front-other n words i l = get_or-eq_default (take n words) d {n = i} (omega (arith, length-take n words))

  pub ends_topped : (words : List A) (n : ℕ) → n ≤ length words → ((i : ℕ) → n ≤ i → get_or words i d ≡ d) → words ≡ topped d (length words) (take n words)
  ends_topped words n l ends =
      topped_ext (length words) (take n words) words (omega (arith, length-take-le n words l)) refl
      (λ i m. elim (dec_lt i n) [ yes b ↦ sym (get_or-take n words i d b) | no b ↦ ends i (omega arith) ∙ sym (front-other n words i (omega arith)) ])

  topped_set : (size : ℕ) (words : List A) (x : A) → length words < size → set (topped d size words) (length words) x ≡ topped d size (words ++ (x ∷ []))
  topped_set size words x l =
      topped_ext size (words ++ (x ∷ [])) (set (topped d size words) (length words) x)
      (omega (arith, length-append words (x ∷ [])))
      (length-set (topped d size words) (length words) x ∙ topped_length size words (omega arith))
      (λ i m. at i (ℕ_discrete i (length words)) (dec_lt i (length words)))
    where
      at : (i : ℕ) → Dec (i ≡ length words) → Dec (i < length words) → get_or (set (topped d size words) (length words) x) i d ≡ get_or (words ++ (x ∷ [])) i d
      at i (yes e) t =
          ap (λ (k : ℕ). get_or (set (topped d size words) (length words) x) k d) e
          ∙ get_or-set_same (topped d size words) (length words) x d (omega (arith, topped_length size words (omega arith)))
          ∙ sym (ap (λ (k : ℕ). get_or (words ++ (x ∷ [])) k d) (e ∙ omega arith) ∙ get_or-append-add words (x ∷ []) 0 d)
      at i (no n) (yes b) = get_or-set_other (topped d size words) (length words) i x d n ∙ topped_word size words i ∙ sym (get_or-append words (x ∷ []) d i b)
      at i (no n) (no b) =
          get_or-set_other (topped d size words) (length words) i x d n ∙ topped_word size words i
          ∙ get_or-eq_default words d {n = i} (omega arith)
          ∙ sym (get_or-eq_default (words ++ (x ∷ [])) d {n = i} (omega (arith, length-append words (x ∷ []))))

  -- The words from `from` up to `to` are `d` now, and those behind were.
  pub topping : (w ys : List A) (from to : ℕ) → from ≤ to → to ≤ length w → ((j : ℕ) → to ≤ j → get_or w j d ≡ d)
      → ys ≡ replicate (length (take (to - from) (drop from w))) d
      → take from w ++ (ys ++ drop (to - from) (drop from w)) ≡ topped d (length w) (take from w)
  topping w ys from to l m ends filled =
      topped_ext (length w) (take from w) (take from w ++ (ys ++ rest)) (omega (arith, front))
      (omega (arith, length-append (take from w) (ys ++ rest), length-append ys rest, front, long, length-drop (to - from) (drop from w), length-drop from w))
      (λ j b. elim (dec_lt j from) [
        | yes a ↦ get_or-append (take from w) (ys ++ rest) d j (omega (arith, front))
        | no a ↦ get_or-append_right (take from w) (ys ++ rest) from j d front (omega arith) ∙ behind (j - from) ∙ sym (front-other from w j (omega arith))
      ])
    where
      rest : List A
      rest = drop (to - from) (drop from w)

      front : length (take from w) ≡ from
      front = length-take-le from w (omega arith)

      long : length ys ≡ to - from
      long = ap length filled ∙ length-replicate {A = A} (length (take (to - from) (drop from w))) d ∙ length-take-le (to - from) (drop from w) (omega (arith, length-drop from w))

      behind : (i : ℕ) → get_or (ys ++ rest) i d ≡ d
      behind i = elim (dec_lt i (length ys)) [
        | yes a ↦ get_or-append ys rest d i a ∙ ap (λ (z : List A). get_or z i d) filled ∙ each_same (length (take (to - from) (drop from w))) i
        | no a ↦
            get_or-append_right ys rest (to - from) i d long (omega (arith, long))
            ∙ get_or-drop (to - from) (drop from w) (i - (to - from)) d
            ∙ get_or-drop from w ((to - from) + (i - (to - from))) d
            ∙ ends (from + ((to - from) + (i - (to - from)))) (omega (arith, long))
      ]

-- They have the size asked for.
pub padded-length : (size : ℕ) (words : List ℕ) → length words ≤ size → length (padded size words) ≡ size
padded-length = topped_length 0

pub filled-length : (size : ℕ) (units : List ℕ) → length units ≤ size → length (filled size units) ≡ size
filled-length = topped_length filler

-- Each word is the word there, or 0; each unit the unit there, or a filler.
pub padded-word : (size : ℕ) (words : List ℕ) (i : ℕ) → get_or (padded size words) i 0 ≡ get_or words i 0
padded-word = topped_word 0

pub filled-unit : (size : ℕ) (units : List ℕ) (i : ℕ) → get_or (filled size units) i filler ≡ get_or units i filler
filled-unit = topped_word filler

-- Words of that size of which each is the word there, or 0, are they; so are units.
pub padded_ext : (size : ℕ) (words words' : List ℕ) → length words ≤ size → length words' ≡ size → ((i : ℕ) → i < size → get_or words' i 0 ≡ get_or words i 0)
    → words' ≡ padded size words
padded_ext = topped_ext 0

pub filled_ext : (size : ℕ) (units units' : List ℕ) → length units ≤ size → length units' ≡ size
    → ((i : ℕ) → i < size → get_or units' i filler ≡ get_or units i filler) → units' ≡ filled size units
filled_ext = topped_ext filler

-- A word of the first words is the word there, or 0.
pub front-word : (n : ℕ) (words : List ℕ) (i : ℕ) → n ≤ i → get_or (take n words) i 0 ≡ 0
front-word = front-other 0

-- Words that are 0 from a place on, and units that are fillers.
pub clear_padded : (words : List ℕ) (n : ℕ) → n ≤ length words → Clear words n → words ≡ padded (length words) (take n words)
clear_padded words n l c = ends_topped 0 words n l c.each

pub filled-behind : (units : List ℕ) (n : ℕ) → n ≤ length units → Filled units n → units ≡ filled (length units) (take n units)
filled-behind units n l f = ends_topped filler units n l f.each

-- Another word is stored behind.
pub padded-set : (size : ℕ) (words : List ℕ) (x : ℕ) → length words < size → set (padded size words) (length words) x ≡ padded size (words ++ (x ∷ []))
padded-set = topped_set 0

pub filled-set : (size : ℕ) (units : List ℕ) (x : ℕ) → length units < size → set (filled size units) (length units) x ≡ filled size (units ++ (x ∷ []))
filled-set = topped_set filler

-- 0s behind words that have 0 behind them.
pub padded_zeros : (size : ℕ) (words : List ℕ) (n : ℕ) → length words + n ≤ size → padded size (words ++ replicate n 0) ≡ padded size words
padded_zeros size words n l =
    padded_ext size words (padded size (words ++ replicate n 0)) (omega arith)
    (padded-length size (words ++ replicate n 0) (omega (arith, length-append words (replicate n 0), length-replicate {A = ℕ} n 0)))
    (λ i m.
    padded-word size (words ++ replicate n 0) i
    ∙ ap (λ (k : ℕ). get_or (words ++ replicate k 0) i 0) n_is
    ∙ padded-word (length words + n) words i)
  where
    n_is : n ≡ length words + n - length words
    n_is = omega arith
