-- Laws on tests of numbers.
use mathlib.Core.Path.{◌≡◌, refl, sym, ◌∙◌}
use mathlib.Core.Bool.{Bool, true, false, ◌&&◌, false≢true}
use Prim.Native.Nat.{ℕ, ◌≤◌, ◌<◌}
use native.Mathlib.Decide.{dec_lt}
use native.Mathlib.Omega.{arith}
use lib.Dec.{ltb}
use borrow.Author.Tests.{lt-ltb, le-ltb}

-- Two tests that say the same of their numbers are one test.
pub same_test : (a b c d : ℕ) → (a < b → c < d) → (b ≤ a → d ≤ c) → ltb a b ≡ ltb c d
same_test a b c d f g =
    elim (dec_lt a b) [
      | yes h ↦ lt-ltb a b h ∙ sym (lt-ltb c d (f h))
      | no h ↦ le-ltb a b (omega arith) ∙ sym (le-ltb c d (g (omega arith)))
    ]

-- A test passes or fails.
pub either_way {ℓ} : {C : Type ℓ} → (b : Bool) → (b ≡ true → C) → (b ≡ false → C) → C
either_way true f g = f refl
either_way false f g = g refl

-- Both halves of a test that passed.
pub both_true : (a b : Bool) → (a && b) ≡ true → (a ≡ true) × (b ≡ true)
both_true true b e = (refl, e)
both_true false b e = absurd (false≢true e)

-- Of a test that failed, either the first half failed, or the second.
pub one_false {ℓ} : {C : Type ℓ} → (a b : Bool) → (a && b) ≡ false → (a ≡ false → C) → (a ≡ true → b ≡ false → C) → C
one_false true b e f g = g refl e
one_false false b e f g = f refl
