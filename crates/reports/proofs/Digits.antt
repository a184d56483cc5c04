-- Numbers in decimal: the digits one by one, how many there are, and that they spell the number.
use mathlib.Core.Path.{◌≡◌, refl, sym, ap, subst, ◌∙◌}
use mathlib.Core.List.{List, [], ◌∷◌, ◌++◌}
use Prim.Native.Nat.{ℕ, zero, suc, ◌+◌, ◌-◌, ◌*◌, ◌/◌, ◌%◌, ◌^◌, ◌≤◌, ◌<◌}
use native.Mathlib.Decide.{dec_lt}
use native.Mathlib.Nat.{pow-suc}
use native.Mathlib.Omega.{arith}
use lib.ListN.{length, get_or, length-append, get_or-append}
use lib.Seq.{get_or_at}
use borrow.Author.Tests.{lt-ltb, le-ltb}
use Rattle.reports.specs.Decimal.{digit, digits_in, decimal}
use Rattle.reports.specs.inner.Lines.{most_digits}

-- Where the rounds are enough, more of them change nothing.
same_digits : (a b n : ℕ) → n < a → n < b → digits_in a n ≡ digits_in b n
unfolding digits_in
same_digits zero b n l m = absurd (omega arith)
same_digits (suc a) zero n l m = absurd (omega arith)
same_digits (suc a) (suc b) n l m =
    elim (dec_lt n 10) [
      | yes h ↦ rw (lt-ltb n 10 h, digits_in)
      | no h ↦ rw (le-ltb n 10 (omega arith), digits_in) (ap (λ (ds : List ℕ). ds ++ (digit (n % 10) ∷ [])) (same_digits a b (n / 10) (omega arith) (omega arith)))
    ]

-- Below ten there is one digit.
pub below_ten : (n : ℕ) → n < 10 → decimal n ≡ digit n ∷ []
unfolding decimal digits_in
below_ten n l = rw (lt-ltb n 10 l, digits_in)

-- From ten on the digits are those of the tens, and behind them the last.
pub from_ten : (n : ℕ) → 10 ≤ n → decimal n ≡ decimal (n / 10) ++ (digit (n % 10) ∷ [])
unfolding decimal digits_in
from_ten n l =
    rw (le-ltb n 10 l, digits_in) (ap (λ (ds : List ℕ). ds ++ (digit (n % 10) ∷ [])) (same_digits n (suc (n / 10)) (n / 10) (omega arith) (omega arith)))

-- What holds below ten, and of a number where it holds of its tens, holds of every number.
by_tens : (P : ℕ → Type 0) → ((n : ℕ) → n < 10 → P n) → ((n : ℕ) → 10 ≤ n → P (n / 10) → P n) → (n : ℕ) → P n
by_tens P one more n = within (suc n) n (omega arith)
  where
    within : (k m : ℕ) → m < k → P m
    within zero m l = absurd (omega arith)
    within (suc k) m l = elim (dec_lt m 10) [ yes h ↦ one m h | no h ↦ more m (omega arith) (within k (m / 10) (omega arith)) ]

-- Below ten one digit is counted ..
pub one_digit : (n : ℕ) → n < 10 → length (decimal n) ≡ 1
one_digit n l = ap length (below_ten n l)

-- .. and from ten on one more than the tens have.
pub one_more : (n : ℕ) → 10 ≤ n → length (decimal n) ≡ length (decimal (n / 10)) + 1
one_more n l = ap length (from_ten n l) ∙ length-append (decimal (n / 10)) (digit (n % 10) ∷ [])

-- Below the power `suc k` of ten there are at most `suc k` digits.
pub few_digits : (k n : ℕ) → n < 10 ^ suc k → length (decimal n) ≤ suc k
few_digits zero n l = omega (arith, one_digit n l)
few_digits (suc k) n l =
    elim (dec_lt n 10) [
      | yes h ↦ omega (arith, one_digit n h)
      | no h ↦ omega (arith, one_more n (omega arith), few_digits k (n / 10) (tenth (10 ^ suc k) (subst (λ (m : ℕ). n < m) (pow-suc 10 (suc k)) l)))
    ]
  where
    tenth : (power : ℕ) → n < power * 10 → n / 10 < power
    tenth power h = omega arith

-- A number of 64 bits has twenty digits at the most.
pub at_most_twenty : (n : ℕ) → n < 18446744073709551616 → length (decimal n) ≤ most_digits
at_most_twenty n l = few_digits 19 n (omega arith)

-- The number whose digits are those of `n`, and behind them these.
unfoldable pub value_from : ℕ → List ℕ → ℕ
value_from n [] = n
value_from n (d ∷ ds) = value_from (10 * n + (d - digit 0)) ds

-- Digits behind digits go on from the number that those spell.
value_append : (n : ℕ) (a b : List ℕ) → value_from n (a ++ b) ≡ value_from (value_from n a) b
unfolding value_from
value_append n [] b = refl
value_append n (d ∷ a) b = value_append (10 * n + (d - digit 0)) a b

-- The digits of a number spell the number.
pub value_of_decimal : (n : ℕ) → value_from 0 (decimal n) ≡ n
unfolding value_from
value_of_decimal =
    by_tens (λ (n : ℕ). value_from 0 (decimal n) ≡ n)
    (λ n l. ap (value_from 0) (below_ten n l) ∙ omega arith)
    (λ n l tens.
    ap (value_from 0) (from_ten n l)
    ∙ value_append 0 (decimal (n / 10)) (digit (n % 10) ∷ [])
    ∙ ap (λ (m : ℕ). 10 * m + (digit (n % 10) - digit 0)) tens
    ∙ omega arith)

-- `d` is one of the ten digits.
pub record IsDigit (d : ℕ) : Type 0 where
  pub from_zero : digit 0 ≤ d
  pub to_nine : d ≤ digit 9

-- Each of a list is.
abbrev pub AllDigits : List ℕ → Type 0
AllDigits ds = (q : ℕ) → q < length ds → IsDigit (get_or ds q 0)

-- A digit behind digits.
digit-behind : (ds : List ℕ) (d : ℕ) → AllDigits ds → IsDigit d → AllDigits (ds ++ (d ∷ []))
digit-behind ds d before here q l =
    elim (dec_lt q (length ds)) [
      | yes h ↦ subst IsDigit (sym (get_or-append ds (d ∷ []) 0 q h)) (before q h)
      | no h ↦ subst IsDigit (sym (get_or_at ds d [] 0 q (omega (arith, length-append ds (d ∷ []))))) here
    ]

-- A number is written in digits alone.
pub only_digits : (n : ℕ) → AllDigits (decimal n)
only_digits =
    by_tens (λ (n : ℕ). AllDigits (decimal n))
    (λ n l. subst AllDigits (sym (below_ten n l)) (digit-behind [] (digit n) (λ q m. absurd (omega arith)) (record { from_zero = omega arith; to_nine = omega arith })))
    (λ n l tens. subst AllDigits (sym (from_ten n l)) (digit-behind (decimal (n / 10)) (digit (n % 10)) tens (record { from_zero = omega arith; to_nine = omega arith })))

-- There is a digit.
some-digit : (n : ℕ) → 0 < length (decimal n)
some-digit = by_tens (λ (n : ℕ). 0 < length (decimal n)) (λ n l. omega (arith, one_digit n l)) (λ n l tens. omega (arith, one_more n l))

-- The first digit is no 0, but that of 0 itself.
pub no_zero_first : (n : ℕ) → 0 < n → get_or (decimal n) 0 (digit 0) ≡ digit 0 → ⊥
no_zero_first =
    by_tens (λ (n : ℕ). 0 < n → get_or (decimal n) 0 (digit 0) ≡ digit 0 → ⊥)
    (λ n l some e. omega (arith, ap (λ (ds : List ℕ). get_or ds 0 (digit 0)) (below_ten n l)))
    (λ n l tens some e. tens (omega arith) (sym (same_first n l) ∙ e))
  where
    same_first : (n : ℕ) → 10 ≤ n → get_or (decimal n) 0 (digit 0) ≡ get_or (decimal (n / 10)) 0 (digit 0)
    same_first n l =
        ap (λ (ds : List ℕ). get_or ds 0 (digit 0)) (from_ten n l)
        ∙ get_or-append (decimal (n / 10)) (digit (n % 10) ∷ []) (digit 0) 0 (some-digit (n / 10))
