-- What a choice gives once its test is known.
use Rattle.std.proofs.Common.{ℕ, ◌<◌, ◌≡◌, refl, sym, ◌∙◌, Bool, true, false, ltb, ltb-true}
use Rattle.node.specs.Choice.{both, both_below}

pub record BothBelow (a x b y : ℕ) : Type 0 where
  pub first : a < x
  pub second : b < y

-- Two tests hold together where each holds.
both_first : (s t : Bool) → both s t ≡ true → s ≡ true
both_first true t e = refl
both_first false t e = e

both-second : (s t : Bool) → both s t ≡ true → t ≡ true
both-second true t e = e
both-second false true e = refl
both-second false false e = e

pub record Both (s t : Bool) : Type 0 where
  pub first : s ≡ true
  pub second : t ≡ true

pub both_true : (s t : Bool) → both s t ≡ true → Both s t
both_true s t e = record { first = both_first s t e; second = both-second s t e }

-- A test of two bounds that holds gives the bounds.
pub below : {a x b y : ℕ} {r : Bool} → r ≡ both_below a x b y → r ≡ true → BothBelow a x b y
unfolding both_below
below {a} {x} {b} {y} e t =
    let h : Both (ltb a x) (ltb b y) = both_true _ _ (sym e ∙ t) in
    record { first = ltb-true a x h.first; second = ltb-true b y h.second }
