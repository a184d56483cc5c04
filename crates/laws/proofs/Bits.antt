-- Laws of rows, over any width.
use mathlib.Core.Path.{◌≡◌, refl, sym, ap, ◌∙◌}
use mathlib.Core.Logic.{◌⊎◌, inl, inr, ⊎_elim, ◌≢◌}
use mathlib.Core.Bool.{true, false}
use mathlib.Core.List.{List, [], ◌∷◌}
use Prim.Native.Nat.{ℕ, zero, suc, ◌+◌, ◌-◌, ◌*◌, ◌/◌, ◌%◌, ◌^◌, ◌≤◌, ◌<◌, max}
use native.Mathlib.Nat.{div_self, div-eq_of_lt, mul-div_cancel, div-div-eq-div-mul, pow-suc, mod-lt, zero-div, mul_comm, mul-mod_left, div-lt_iff_lt-mul, one-mul}
use native.Mathlib.Decide.{ℕ_discrete, dec_lt}
use native.Mathlib.Omega.{arith}
use lib.ListN.{length, get_or, length-set, get_or-eq_default}
use lib.Seq.{get_or-set_same, get_or-set_other, ext_get_or}
use lib.Bits.{bit_or, or_shr, or_step, or_zero_l, or_zero_r, or_lt}
use lib.Pow.{shl_exact, pow_pos, pow-lt, pow-add}
use lib.Arith.{digits_div, digits_mod}
use borrow.Author.Tests.{eqb-true, eqb-false, eq-eqb, ne_eqb}
use Rattle.laws.specs.Bits.{word_bits, bit, bit_at, Holds, holds, Row, Below, union, adding}

-- A bit is 0 or 1.
pub bit_small : (w k : ℕ) → bit w k < 2
bit_small w k = omega arith

-- A bit of an or is the or of the bits.
pub bit_or_lem : (a b k : ℕ) → bit (bit_or a b) k ≡ max (bit a k) (bit b k)
bit_or_lem a b k = rw or_shr (omega (arith, or_step (a / 2 ^ k) (b / 2 ^ k)))

-- No bit of 0 is set.
pub bit-zero : (k : ℕ) → bit 0 k ≡ 0
bit-zero k = rw zero-div refl

-- Bit k of 2 ^ k is set ..
pub bit-same : (k : ℕ) → bit (2 ^ k) k ≡ 1
bit-same k = rw (div_self (pow_pos k)) refl

-- .. and no other.
pub bit-other : (j k : ℕ) → j ≢ k → bit (2 ^ j) k ≡ 0
bit-other j k h = elim (dec_lt j k) [ yes l ↦ rw (div-eq_of_lt (pow-lt l)) refl | no n ↦ above (j - (k + 1)) (omega arith) ]
  where
    above : (m : ℕ) → j ≡ suc m + k → bit (2 ^ j) k ≡ 0
    above m e =
        rw (e, pow-add 2 (suc m) k, mul-div_cancel (2 ^ suc m) (pow_pos k), pow-suc)
        (mul-mod_left (2 ^ m) 2)

-- 1 shifted by less than a word's bits is a power of 2.
pub one_shifted : (k : ℕ) → k < word_bits → 1 * 2 ^ k % 2 ^ word_bits ≡ 2 ^ k
one_shifted k l = shl_exact {a = 1} 1 k word_bits (omega arith) (omega arith) ∙ one-mul (2 ^ k)

-- Half a word has the word's bits, one place lower.
bit_half : (a k : ℕ) → bit (a / 2) k ≡ bit a (suc k)
bit_half a k = ap (λ (n : ℕ). n % 2) (div-div-eq-div-mul a 2 (2 ^ k) ∙ ap (λ (n : ℕ). a / n) (mul_comm 2 (2 ^ k) ∙ sym (pow-suc 2 k)))

-- Two words with the same bits are equal.
pub word_ext : (w a b : ℕ) → a < 2 ^ w → b < 2 ^ w → ((k : ℕ) → k < w → bit a k ≡ bit b k) → a ≡ b
word_ext zero a b ha hb h = omega arith
word_ext (suc w) a b ha hb h =
    let low : bit a 0 ≡ bit b 0 = h 0 (omega arith) in
    let high : a / 2 ≡ b / 2 = word_ext w (a / 2) (b / 2) (half a ha) (half b hb) (λ k l. bit_half a k ∙ h (suc k) (omega arith) ∙ sym (bit_half b k)) in
    omega arith
  where
    half : (x : ℕ) → x < 2 ^ suc w → x / 2 < 2 ^ w
    half x l = (div-lt_iff_lt-mul {k = 2} (omega arith)).1 (rw pow-suc at l)

-- A word of a union is the or of the words.
pub union-word : (a b : List ℕ) (i : ℕ) → get_or (union a b) i 0 ≡ bit_or (get_or a i 0) (get_or b i 0)
unfolding union
union-word [] b i = sym (or_zero_l _)
union-word (x ∷ xs) [] i = sym (or_zero_r _)
union-word (x ∷ xs) (y ∷ ys) zero = refl
union-word (x ∷ xs) (y ∷ ys) (suc i) = union-word xs ys i

-- A bit of a union is the or of the bits.
pub union-bit : (a b : List ℕ) (s : ℕ) → bit_at (union a b) s ≡ max (bit_at a s) (bit_at b s)
union-bit a b s = rw (union-word a b (s / word_bits)) (bit_or_lem _ _ (s % word_bits))

-- A row holds what its test says.
pub holds_true : (row : List ℕ) (s : ℕ) → holds row s ≡ true → Holds row s
holds_true row s e = record { is_set = eqb-true _ _ e }

pub holds_false : (row : List ℕ) (s : ℕ) → holds row s ≡ false → Holds row s → ⊥
holds_false row s e h = eqb-false _ _ e h.is_set

pub true_holds : (row : List ℕ) (s : ℕ) → Holds row s → holds row s ≡ true
true_holds row s h = eq-eqb _ _ h.is_set

pub false_holds : (row : List ℕ) (s : ℕ) → (Holds row s → ⊥) → holds row s ≡ false
false_holds row s h = ne_eqb _ _ (λ e. h (record { is_set = e }))

-- A row holds a symbol or not.
pub holds_dec : (row : List ℕ) (s : ℕ) → Holds row s ⊎ (Holds row s → ⊥)
holds_dec row s = elim (ℕ_discrete (bit_at row s) 1) [ yes e ↦ inl (record { is_set = e }) | no n ↦ inr (λ h. n h.is_set) ]

-- A symbol is in a union exactly when it is in one of the two rows.
pub union_left : (a b : List ℕ) (s : ℕ) → Holds a s → Holds (union a b) s
union_left a b s h = record { is_set = omega (arith, union-bit a b s, h.is_set, bit_small (get_or b (s / word_bits) 0) (s % word_bits)) }

pub union_right : (a b : List ℕ) (s : ℕ) → Holds b s → Holds (union a b) s
union_right a b s h = record { is_set = omega (arith, union-bit a b s, h.is_set, bit_small (get_or a (s / word_bits) 0) (s % word_bits)) }

pub union_one : (a b : List ℕ) (s : ℕ) → Holds (union a b) s → Holds a s ⊎ Holds b s
union_one a b s h = elim (holds_dec a s) [ inl p ↦ inl p | inr n ↦ inr (record { is_set = other (bit_at a s) (bit_at b s) (bit_small _ _) (sym (union-bit a b s) ∙ h.is_set) (λ e. n (record { is_set = e })) }) ]
  where
    other : (x y : ℕ) → x < 2 → max x y ≡ 1 → x ≢ 1 → y ≡ 1
    other x y l e n = omega arith

-- A row whose words are 0 holds nothing.
pub zeros_hold : (row : List ℕ) (s : ℕ) → ((i : ℕ) → get_or row i 0 ≡ 0) → Holds row s → ⊥
zeros_hold row s z h = omega (arith, h.is_set, ap (λ (w : ℕ). bit w (s % word_bits)) (z (s / word_bits)) ∙ bit-zero (s % word_bits))

-- Nothing stands past a row's end.
pub past_end : (row : List ℕ) (s : ℕ) → word_bits * length row ≤ s → Holds row s → ⊥
past_end row s l h =
    omega (arith, h.is_set, ap (λ (w : ℕ). bit w (s % word_bits)) (get_or-eq_default row 0 {n = s / word_bits} (omega arith)) ∙ bit-zero (s % word_bits))

-- A symbol is in a row with s added exactly when it is s or was there.
module _ (row : List ℕ) (s : ℕ) where
  adding-bit : (y : ℕ) → s / word_bits ≡ y / word_bits → s / word_bits < length row → bit_at (adding row s) y ≡ max (bit_at row y) (bit (2 ^ (s % word_bits)) (y % word_bits))
  adding-bit y e l =
      ap (λ (w : ℕ). bit w (y % word_bits)) (ap (λ (i : ℕ). get_or (adding row s) i 0) (sym e) ∙ get_or-set_same row (s / word_bits) _ 0 l)
      ∙ bit_or_lem _ _ (y % word_bits)
      ∙ ap (λ (i : ℕ). max (bit (get_or row i 0) (y % word_bits)) (bit (2 ^ (s % word_bits)) (y % word_bits))) e

  pub adding-new : s / word_bits < length row → Holds (adding row s) s
  adding-new l = record { is_set = omega (arith, adding-bit s refl l, bit-same (s % word_bits), bit_small (get_or row (s / word_bits) 0) (s % word_bits)) }

  pub adding-kept : (y : ℕ) → s / word_bits < length row → Holds row y → Holds (adding row s) y
  adding-kept y l h = elim (ℕ_discrete (s / word_bits) (y / word_bits)) [
    | yes e ↦ record { is_set = omega (arith, adding-bit y e l, h.is_set, bit_small (2 ^ (s % word_bits)) (y % word_bits)) }
    | no n ↦ record { is_set = ap (λ (w : ℕ). bit w (y % word_bits)) (get_or-set_other row (s / word_bits) (y / word_bits) _ 0 (λ e. n (sym e))) ∙ h.is_set }
  ]

  pub adding_one : (y : ℕ) → s / word_bits < length row → Holds (adding row s) y → (y ≡ s) ⊎ Holds row y
  adding_one y l h = elim (ℕ_discrete (s / word_bits) (y / word_bits)) [
    | yes e ↦ elim (ℕ_discrete (s % word_bits) (y % word_bits)) [
      | yes f ↦ inl (omega arith)
      | no m ↦ inr (record { is_set = omega (arith, adding-bit y e l, h.is_set, bit-other (s % word_bits) (y % word_bits) m, bit_small (get_or row (y / word_bits) 0) (y % word_bits)) })
    ]
    | no n ↦ inr (record { is_set = sym (ap (λ (w : ℕ). bit w (y % word_bits)) (get_or-set_other row (s / word_bits) (y / word_bits) _ 0 (λ e. n (sym e)))) ∙ h.is_set })
  ]

-- Bit k of word i stands for the symbol i * 64 + k.
pub bit-place : (row : List ℕ) (i k : ℕ) → k < word_bits → bit_at row (i * word_bits + k) ≡ bit (get_or row i 0) k
bit-place row i k l = ap (λ (j : ℕ). bit (get_or row j 0) ((i * word_bits + k) % word_bits)) (digits_div i l) ∙ ap (bit (get_or row i 0)) (digits_mod i l)

-- Two rows of one width that hold the same symbols are equal.
pub row_ext : (width : ℕ) (a b : List ℕ) → Row width a → Row width b → ((s : ℕ) → Holds a s → Holds b s) → ((s : ℕ) → Holds b s → Holds a s) → a ≡ b
row_ext width a b ra rb to from =
    ext_get_or 0 a b (ra.width_is ∙ sym rb.width_is)
    (λ i l. word_ext word_bits (get_or a i 0) (get_or b i 0) (ra.fits i) (rb.fits i) (λ k m. at i k m))
  where
    same : (x y : ℕ) → x < 2 → y < 2 → (x ≡ 1 → y ≡ 1) → (y ≡ 1 → x ≡ 1) → x ≡ y
    same x y lx ly f g = elim (ℕ_discrete x 1) [ yes e ↦ e ∙ sym (f e) | no n ↦ elim (ℕ_discrete y 1) [ yes e ↦ g e ∙ sym e | no m ↦ omega arith ] ]

    at : (i k : ℕ) → k < word_bits → bit (get_or a i 0) k ≡ bit (get_or b i 0) k
    at i k l =
        sym (bit-place a i k l)
        ∙ same (bit_at a (i * word_bits + k)) (bit_at b (i * word_bits + k)) (bit_small _ _) (bit_small _ _)
        (λ e. (to (i * word_bits + k) (record { is_set = e })).is_set)
        (λ e. (from (i * word_bits + k) (record { is_set = e })).is_set)
        ∙ bit-place b i k l

-- A union of two rows of n words has n words.
pub union_wide : (n : ℕ) (x y : List ℕ) → length x ≡ n → length y ≡ n → length (union x y) ≡ n
unfolding union
union_wide n [] y ex ey = ey
union_wide n (x ∷ xs) [] ex ey = ex
union_wide zero (x ∷ xs) (y ∷ ys) ex ey = absurd (omega arith)
union_wide (suc n) (x ∷ xs) (y ∷ ys) ex ey = ap suc (union_wide n xs ys (omega arith) (omega arith))

-- A union of rows of one width has that width.
pub union-row : (width : ℕ) (a b : List ℕ) → Row width a → Row width b → Row width (union a b)
union-row width a b ra rb = record {
  width_is = union_wide width a b ra.width_is rb.width_is;
  fits = λ i. rw (union-word a b i) (or_lt word_bits _ _ (ra.fits i) (rb.fits i));
}

-- A row with a symbol added keeps its width.
pub adding-row : (width : ℕ) (row : List ℕ) (s : ℕ) → Row width row → Row width (adding row s)
adding-row width row s r = record {
  width_is = length-set row (s / word_bits) _ ∙ r.width_is;
  fits = λ i. word i (ℕ_discrete i (s / word_bits));
}
  where
    word : (i : ℕ) → Dec (i ≡ s / word_bits) → get_or (adding row s) i 0 < 2 ^ word_bits
    word i (no n) = rw (get_or-set_other row (s / word_bits) i (bit_or (get_or row (s / word_bits) 0) (2 ^ (s % word_bits))) 0 n) (r.fits i)
    word i (yes e) = elim (dec_lt i (length row)) [
      | yes l ↦ rw (e, get_or-set_same row (s / word_bits) (bit_or (get_or row (s / word_bits) 0) (2 ^ (s % word_bits))) 0 (omega arith)) (or_lt word_bits _ _ (r.fits _) (pow-lt {i = s % word_bits} {j = word_bits} (mod-lt s (omega arith))))
      | no n ↦ rw (get_or-eq_default (adding row s) 0 {n = i} (simp length-set (omega arith))) (pow_pos word_bits)
    ]

-- A union has no bit at n or above where neither row has one.
pub union-below : (n : ℕ) (a b : List ℕ) → Below n a → Below n b → Below n (union a b)
union-below n a b ha hb = record { none_above = λ s l h. ⊎_elim (ha.none_above s l) (hb.none_above s l) (union_one a b s h) }
