-- Records of a fixed number of words, held one behind another in a list of words.
use Rattle.std.specs.Prelude.{List, [], ◌∷◌, ◌++◌, ℕ}

-- The words of each record, one record behind another.
unfoldable pub flat : {R : Type 0} → (R → List ℕ) → List R → List ℕ
flat words [] = []
flat words (r ∷ rs) = words r ++ flat words rs
