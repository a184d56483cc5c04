-- Where the rows of stretches stand.
use Rattle.std.proofs.Common.{◌≡◌, ap, ◌∙◌, List, ℕ, zero, suc, ◌+◌, ◌-◌, ◌*◌, ◌/◌, ◌≤◌, ◌<◌, zero-mul, suc-mul, mul-suc, mul-add, mul-one, mul_left_comm, mul-le-mul, arith, length}
use native.Mathlib.Decide.{dec_lt}
use Rattle.plain.specs.Table.{max_tokens, row_words, Stretch, stretches_up_to, place}
use Rattle.plain.specs.inner.Filling.{Room}

-- Twice the stretches of at most m of n tokens are 2 m n + m - m m.
pub twice : (n m : ℕ) → m ≤ n → 2 * stretches_up_to n m + m * m ≡ 2 * (m * n) + m
unfolding stretches_up_to
twice n zero l = omega (arith, zero-mul n)
twice n (suc m) l =
    let shorter : 2 * stretches_up_to n m + m * m ≡ 2 * (m * n) + m = twice n m (omega arith) in
    omega (arith, suc-mul m (suc m), mul-suc m m, suc-mul m n)

module _ (n m : ℕ) (l : m ≤ n) where
  spread : m * (2 * n + 1) ≡ 2 * (m * n) + m
  spread = mul-add m (2 * n) 1 ∙ (let e : m * (2 * n) ≡ 2 * (m * n) = mul_left_comm m 2 n in omega (arith, mul-one m))

  -- The product that the code takes is small, ..
  pub product_small : n ≤ max_tokens → m * (2 * n + 1) ≤ 64 * 129
  product_small few = mul-le-mul {n₁ = m} {m₁ = 2 * n + 1} {n₂ = 64} {m₂ = 129} (omega arith) (omega arith)

  -- .. and this is what it comes to.
  pub formula : (m * (2 * n + 1) - m * m) / 2 ≡ stretches_up_to n m
  formula = omega (arith, twice n m l, spread)

-- The stretches of m + 1 tokens come next.
pub up_to-next : (n m : ℕ) → stretches_up_to n (m + 1) ≡ stretches_up_to n m + (n - m)
unfolding stretches_up_to
up_to-next n m = let e : m + 1 ≡ suc m = omega arith in ap (stretches_up_to n) e

-- Longer stretches are more.
pub up_to_rises : (n a b : ℕ) → a ≤ b → stretches_up_to n a ≤ stretches_up_to n b
unfolding stretches_up_to
up_to_rises n a zero l = let e : a ≡ zero = omega arith in let f : stretches_up_to n a ≡ 0 = ap (stretches_up_to n) e in omega arith
up_to_rises n a (suc b) l = elim (dec_lt a (suc b)) [
  | yes m ↦ let h : stretches_up_to n a ≤ stretches_up_to n b = up_to_rises n a b (omega arith) in omega arith
  | no m ↦ let e : a ≡ suc b = omega arith in let f : stretches_up_to n a ≡ stretches_up_to n (suc b) = ap (stretches_up_to n) e in omega arith
]

-- There are few.
pub up_to_small : (n m : ℕ) → m ≤ n → n ≤ max_tokens → stretches_up_to n m ≤ 4128
up_to_small n m l few = omega (arith, twice n m l, spread n m l, product_small n m l few)

-- The row of a stretch stands before those of all longer ones, ..
pub place-below : (n l i : ℕ) → Stretch n l i → place n l i < stretches_up_to n l
place-below n l i s =
    let e : l - 1 + 1 ≡ l = omega (arith, s.some) in
    let f : stretches_up_to n (l - 1 + 1) ≡ stretches_up_to n l = ap (stretches_up_to n) e in
    omega (arith, up_to-next n (l - 1), s.some, s.inside)

pub place_shorter : (n k j l i : ℕ) → Stretch n k j → k < l → place n k j < place n l i
place_shorter n k j l i s less = omega (arith, place-below n k j s, up_to_rises n k (l - 1) (omega arith))

-- .. and within the table.
pub place_inside : (n l i : ℕ) → Stretch n l i → place n l i < stretches_up_to n n
place_inside n l i s = omega (arith, place-below n l i s, up_to_rises n l n (omega (arith, s.inside)))

pub row_inside : {n k : ℕ} {table : List ℕ} → Room n table → k < stretches_up_to n n → row_words * k + row_words ≤ length table
row_inside {n} {k} {table} room l = omega (arith, room.there)

-- Behind the stretches of one length come those of the next.
pub place-next : (n l : ℕ) → 0 < l → l ≤ n → place n l (n - l + 1) ≡ place n (l + 1) 0
place-next n l some few =
    let e : l - 1 + 1 ≡ l + 1 - 1 = omega arith in
    let f : stretches_up_to n (l - 1 + 1) ≡ stretches_up_to n (l + 1 - 1) = ap (stretches_up_to n) e in
    omega (arith, up_to-next n (l - 1))

-- A row is that of one stretch: ..
pub place_same : (n k j l i : ℕ) → Stretch n k j → Stretch n l i → place n k j ≡ place n l i → (k ≡ l) × (j ≡ i)
place_same n k j l i s t e = elim (dec_lt k l) [
  | yes less ↦ absurd (omega (arith, place_shorter n k j l i s less))
  | no a ↦ elim (dec_lt l k) [
    | yes less ↦ absurd (omega (arith, place_shorter n l i k j t less))
    | no b ↦ (let same : k ≡ l = omega arith in (same, let f : stretches_up_to n (k - 1) ≡ stretches_up_to n (l - 1) = ap (λ (m : ℕ). stretches_up_to n (m - 1)) same in omega arith))
  ]
]

-- .. and each row is that of some.
pub record RowOf (n k : ℕ) : Type 0 where
  pub l : ℕ
  pub i : ℕ
  pub is_stretch : Stretch n l i
  pub is_row : place n l i ≡ k

row-up_to : (n m k : ℕ) → m ≤ n → k < stretches_up_to n m → RowOf n k
unfolding stretches_up_to
row-up_to n zero k few l = absurd (omega arith)
row-up_to n (suc m) k few l = elim (dec_lt k (stretches_up_to n m)) [
  | yes less ↦ row-up_to n m k (omega arith) less
  | no a ↦ record {
    l = suc m;
    i = k - stretches_up_to n m;
    is_stretch = record { some = omega arith; inside = omega arith };
    is_row = let e : suc m - 1 ≡ m = omega arith in let f : stretches_up_to n (suc m - 1) ≡ stretches_up_to n m = ap (stretches_up_to n) e in omega arith;
  }
]

pub row-stretch : (n k : ℕ) → k < stretches_up_to n n → RowOf n k
row-stretch n k l = row-up_to n n k (omega arith) l
