-- The numbers of the table's layout.
use Rattle.std.proofs.Common.{◌≡◌, refl, ap, ℕ, ◌+◌, ◌-◌, ◌*◌, ◌/◌, ◌≤◌, mul-one, le-mul_of_pos_right, arith}
use native.Mathlib.Nat.{mul-sub}
use native.Mathlib.Decide.{dec_lt}
use Rattle.plain.specs.Table.{Stretch, stretches_up_to, place, needed}
use Rattle.plain.proofs.Standing.{twice}

-- 64 tokens need 16,640 words, 32 need 4,224, and one needs 8.
words_of_64 : needed 64 ≡ 16640
unfolding stretches_up_to
words_of_64 = refl

words_of_32 : needed 32 ≡ 4224
unfolding stretches_up_to
words_of_32 = refl

words_of_1 : needed 1 ≡ 8
unfolding stretches_up_to
words_of_1 = refl

-- A row's place in one formula: (l - 1) n - (l - 1) (l - 2) / 2 + i.
pub place_formula : (n l i : ℕ) → Stretch n l i → place n l i ≡ (l - 1) * n - (l - 1) * (l - 2) / 2 + i
place_formula n l i s =
    let m : ℕ = l - 1 in
    let below : l - 2 ≡ m - 1 = omega arith in
    let product : m * (l - 2) ≡ m * (m - 1) = ap (λ (k : ℕ). m * k) below in
    omega (arith, twice n m (omega (arith, s.inside)), product, mul-sub m m 1, mul-one m, square m)
  where
    square : (m : ℕ) → m ≤ m * m
    square m = elim (dec_lt 0 m) [ yes some ↦ le-mul_of_pos_right m some | no none ↦ omega arith ]
