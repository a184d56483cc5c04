-- How often: counts of what passes a test, and lists with the same elements.
use Rattle.std.specs.Prelude.{◌≡◌, Bool, true, false, List, [], ◌∷◌, ℕ, ◌+◌}

abbrev pub once : Bool → ℕ
once true = 1
once false = 0

-- How many elements of a list pass a test.
unfoldable pub count : {A : Type 0} → (A → Bool) → List A → ℕ
count test [] = 0
count test (a ∷ l) = once (test a) + count test l

-- Two lists have the same elements, each as often: as many pass, whatever the test.
pub record SameElements {A : Type 0} (l m : List A) : Type 0 where
  pub counts : (test : A → Bool) → count test l ≡ count test m
