-- Lines of text. A character is its ASCII code.
use Rattle.std.specs.Prelude.{List, [], ◌∷◌, ◌++◌, ℕ}
use Rattle.io.specs.Digits.{last_digits, IsDigitCount}

-- Room for the longest text of a program: the heads, and three numbers of up to twenty digits with their line ends.
abbrev pub text_room : ℕ
text_room = 128

-- Room for a number behind a head: twenty digits and the line end.
abbrev pub number_room : ℕ
number_room = 21

abbrev pub newline : List ℕ
newline = 10 ∷ []

-- "stopped ", "grammar "
abbrev pub stopped_head : List ℕ
stopped_head = 115 ∷ 116 ∷ 111 ∷ 112 ∷ 112 ∷ 101 ∷ 100 ∷ 32 ∷ []

abbrev pub grammar_head : List ℕ
grammar_head = 103 ∷ 114 ∷ 97 ∷ 109 ∷ 109 ∷ 97 ∷ 114 ∷ 32 ∷ []

-- A text, and behind it a line of a head and a number in the fewest decimal digits.
pub data Line (before head : List ℕ) (number : ℕ) : List ℕ → Type 0 where
  line : {count : ℕ} → IsDigitCount 10 1 number count → Line before head number (before ++ (head ++ (last_digits 10 count number ++ newline)))
