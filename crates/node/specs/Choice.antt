-- A choice by a test, and two tests together.
use Rattle.std.specs.Prelude.{ℕ, Bool, true, false, ltb}

abbrev pub pick : {A : Type 0} → Bool → A → A → A
pick true a b = a
pick false a b = b

abbrev pub both : Bool → Bool → Bool
both true b = b
both false b = false

abbrev pub either : Bool → Bool → Bool
either true b = true
either false b = b

-- a < x and b < y.
unfoldable pub both_below : ℕ → ℕ → ℕ → ℕ → Bool
both_below a x b y = both (ltb a x) (ltb b y)
