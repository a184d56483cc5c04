-- The lines on standard error, and what the program writes of an input. A character is its ASCII code.
use Rattle.std.specs.Prelude.{◌≡◌, Bool, true, false, List, [], ◌∷◌, ℕ, Result, Ok, Err}
use Rattle.written.specs.Form.{written_of}
use Rattle.written.specs.Answers.{Translates}
use Rattle.translation.specs.declared.Translated.{Translated}
use Rattle.translation.specs.declared.Refusal.{Refusal}
use Rattle.translation.specs.declared.Refusal.TheVariants.{Malformed, Circular, Barren, Unreachable, NoSentence, NoRoom}
use Rattle.translation.specs.Answers.{answer_of, Keeps}

-- "empty yes", "empty no"
abbrev pub empty_line : Bool → List ℕ
empty_line true = 101 ∷ 109 ∷ 112 ∷ 116 ∷ 121 ∷ 32 ∷ 121 ∷ 101 ∷ 115 ∷ 10 ∷ []
empty_line false = 101 ∷ 109 ∷ 112 ∷ 116 ∷ 121 ∷ 32 ∷ 110 ∷ 111 ∷ 10 ∷ []

-- "written 16" up to "written 21"
abbrev pub refusal_line : Refusal → List ℕ
refusal_line Malformed = 119 ∷ 114 ∷ 105 ∷ 116 ∷ 116 ∷ 101 ∷ 110 ∷ 32 ∷ 49 ∷ 54 ∷ 10 ∷ []
refusal_line Circular = 119 ∷ 114 ∷ 105 ∷ 116 ∷ 116 ∷ 101 ∷ 110 ∷ 32 ∷ 49 ∷ 55 ∷ 10 ∷ []
refusal_line Barren = 119 ∷ 114 ∷ 105 ∷ 116 ∷ 116 ∷ 101 ∷ 110 ∷ 32 ∷ 49 ∷ 56 ∷ 10 ∷ []
refusal_line Unreachable = 119 ∷ 114 ∷ 105 ∷ 116 ∷ 116 ∷ 101 ∷ 110 ∷ 32 ∷ 49 ∷ 57 ∷ 10 ∷ []
refusal_line NoSentence = 119 ∷ 114 ∷ 105 ∷ 116 ∷ 116 ∷ 101 ∷ 110 ∷ 32 ∷ 50 ∷ 48 ∷ 10 ∷ []
refusal_line NoRoom = 119 ∷ 114 ∷ 105 ∷ 116 ∷ 116 ∷ 101 ∷ 110 ∷ 32 ∷ 50 ∷ 49 ∷ 10 ∷ []

-- The line on an answer.
abbrev pub line_of : Result Translated Refusal → List ℕ
line_of (Ok translated) = empty_line translated.empty
line_of (Err refusal) = refusal_line refusal

-- The bytes of the file; none where it is refused.
abbrev pub file_of : Result Translated Refusal → ℕ
file_of (Ok translated) = translated.length
file_of (Err refusal) = 0

-- What came is translated; the file, where there is one, goes to standard output, and the line to standard error.
pub record Answered (bytes before after : List ℕ) (length : ℕ) (line : List ℕ) : Type 0 where
  pub told : Result Translated Refusal
  pub translates : Translates bytes before (answer_of told) after
  pub promised : Keeps (written_of bytes) (answer_of told) after
  pub file : length ≡ file_of told
  pub said : line ≡ line_of told
