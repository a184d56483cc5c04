-- What a function that answers yes or no promises.
use Rattle.std.specs.Prelude.{◌≡◌, Bool, true, false}

-- The answer is yes exactly where `P` holds.
pub record Decides (answer : Bool) (P : Type 0) : Type 0 where
  pub if_yes : answer ≡ true → P
  pub if_no : answer ≡ false → P → ⊥
