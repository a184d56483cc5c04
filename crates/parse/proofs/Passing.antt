-- A loop that tests one number after the other, and goes on while they pass.
use mathlib.Core.Path.{◌≡◌, sym, subst}
use Prim.Native.Nat.{ℕ, ◌+◌, ◌≤◌, ◌<◌}
use native.Mathlib.Decide.{dec_lt, ℕ_discrete}
use native.Mathlib.Omega.{arith}

-- Every number from `from` up to `i` has passed.
pub record Passed (P : ℕ → Type 0) (from i : ℕ) : Type 0 where
  pub low : from ≤ i
  pub each : (p : ℕ) → from ≤ p → p < i → P p

-- Before the first turn none has to.
pub none_passed : (P : ℕ → Type 0) (from : ℕ) → Passed P from from
none_passed P from = record { low = omega arith; each = λ p a b. absurd (omega arith) }

-- A turn passes one more.
pub one_passed : (P : ℕ → Type 0) (from i : ℕ) → Passed P from i → P i → Passed P from (i + 1)
one_passed P from i h here = record {
  low = omega (arith, h.low);
  each = λ p a b. elim (ℕ_discrete p i) [ yes e ↦ subst P (sym e) here | no n ↦ h.each p a (lower p b n) ];
}
  where
    lower : (p : ℕ) → p < i + 1 → (p ≡ i → ⊥) → p < i
    lower p b n = omega arith

-- A block that has passed behind what has.
pub block_passed : (P : ℕ → Type 0) (from i to : ℕ) → Passed P from i → i ≤ to → ((p : ℕ) → i ≤ p → p < to → P p) → Passed P from to
block_passed P from i to h up block = record {
  low = omega (arith, h.low);
  each = λ p a b. elim (dec_lt p i) [ yes l ↦ h.each p a l | no n ↦ block p (omega arith) b ];
}
