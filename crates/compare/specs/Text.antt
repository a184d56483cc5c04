-- The lines on a comparison. A character is its ASCII code.
use Rattle.std.specs.Prelude.{List, [], ◌∷◌, ◌++◌, ℕ, Option, Some, None}
use Rattle.programs.specs.Text.{Line, stopped_head}
use Rattle.compare.specs.declared.beginnings.Engine.{Engine}
use Rattle.compare.specs.declared.beginnings.Engine.TheVariants as engine

-- Room for the lines on a parting.
abbrev pub parting_room : ℕ
parting_room = 52

-- "compared ", "disagreement ", "tokens "
abbrev pub compared_head : List ℕ
compared_head = 99 ∷ 111 ∷ 109 ∷ 112 ∷ 97 ∷ 114 ∷ 101 ∷ 100 ∷ 32 ∷ []

abbrev pub disagreement_head : List ℕ
disagreement_head = 100 ∷ 105 ∷ 115 ∷ 97 ∷ 103 ∷ 114 ∷ 101 ∷ 101 ∷ 109 ∷ 101 ∷ 110 ∷ 116 ∷ 32 ∷ []

abbrev pub tokens_head : List ℕ
tokens_head = 116 ∷ 111 ∷ 107 ∷ 101 ∷ 110 ∷ 115 ∷ 32 ∷ []

-- "disagreement none", "main yes" and "plain no", "main no" and "plain yes", with their line ends
abbrev pub none_line : List ℕ
none_line = 100 ∷ 105 ∷ 115 ∷ 97 ∷ 103 ∷ 114 ∷ 101 ∷ 101 ∷ 109 ∷ 101 ∷ 110 ∷ 116 ∷ 32 ∷ 110 ∷ 111 ∷ 110 ∷ 101 ∷ 10 ∷ []

abbrev pub main_yes_lines : List ℕ
main_yes_lines = 109 ∷ 97 ∷ 105 ∷ 110 ∷ 32 ∷ 121 ∷ 101 ∷ 115 ∷ 10 ∷ 112 ∷ 108 ∷ 97 ∷ 105 ∷ 110 ∷ 32 ∷ 110 ∷ 111 ∷ 10 ∷ []

abbrev pub plain_yes_lines : List ℕ
plain_yes_lines = 109 ∷ 97 ∷ 105 ∷ 110 ∷ 32 ∷ 110 ∷ 111 ∷ 10 ∷ 112 ∷ 108 ∷ 97 ∷ 105 ∷ 110 ∷ 32 ∷ 121 ∷ 101 ∷ 115 ∷ 10 ∷ []

-- A text, and behind it the lines on a parting on the beginning of so many tokens.
pub data Parts (before : List ℕ) (tokens : ℕ) : Option Engine → List ℕ → Type 0 where
  nowhere : Parts before tokens None (before ++ none_line)
  main_yes : {behind : List ℕ} → Line before disagreement_head tokens behind → Parts before tokens (Some engine.Main) (behind ++ main_yes_lines)
  plain_yes : {behind : List ℕ} → Line before disagreement_head tokens behind → Parts before tokens (Some engine.Plain) (behind ++ plain_yes_lines)

-- All lines, one behind the other.
pub data Lines (agreed stopped : ℕ) (parting : Option Engine) : List ℕ → Type 0 where
  lines :
      {first second whole : List ℕ} → Line [] compared_head agreed first → Line first stopped_head stopped second → Parts second agreed parting whole
      → Lines agreed stopped parting whole
