-- The driver's lines. A character is its ASCII code.
use Rattle.std.specs.Prelude.{Bool, true, false, List, [], ◌∷◌, ◌++◌, ℕ}
use Rattle.programs.specs.Text.{stopped_head, Line}

-- "read ", "set "
abbrev pub read_head : List ℕ
read_head = 114 ∷ 101 ∷ 97 ∷ 100 ∷ 32 ∷ []

abbrev pub set_head : List ℕ
set_head = 115 ∷ 101 ∷ 116 ∷ 32 ∷ []

-- "finished yes" and "finished no", with their line ends
unfoldable pub finished_line : Bool → List ℕ
finished_line true = 102 ∷ 105 ∷ 110 ∷ 105 ∷ 115 ∷ 104 ∷ 101 ∷ 100 ∷ 32 ∷ 121 ∷ 101 ∷ 115 ∷ 10 ∷ []
finished_line false = 102 ∷ 105 ∷ 110 ∷ 105 ∷ 115 ∷ 104 ∷ 101 ∷ 100 ∷ 32 ∷ 110 ∷ 111 ∷ 10 ∷ []

-- The four lines, one behind the other.
pub data Report (taken stopped : ℕ) (yes : Bool) (set : ℕ) : List ℕ → Type 0 where
  lines :
      {first second whole : List ℕ} → Line [] read_head taken first → Line first stopped_head stopped second
      → Line (second ++ finished_line yes) set_head set whole → Report taken stopped yes set whole
