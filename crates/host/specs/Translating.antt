-- The translator's answer in a host's words.
use Rattle.std.specs.Prelude.{Bool, List, ℕ}
use Rattle.laws.specs.Counts.{once}
use Rattle.written.specs.Form.{written_of}
use Rattle.written.specs.Answers.{Answer, Translates}
use Rattle.translation.specs.Answers.{Keeps}

-- Done is 0, and the words tell the length and, by 1 or 0, whether the empty sentence was there; a refusal leaves them as they were.
pub data Tells : Answer → (length_before empty-before number length empty : ℕ) → Type 0 where
  done : {length_before empty-before : ℕ} (length : ℕ) (empty : Bool) → Tells (Answer.done length empty) length_before empty-before 0 length (once empty)
  refused : {length_before empty-before : ℕ} (number : ℕ) → Tells (Answer.refused number) length_before empty-before number length_before empty-before

-- The answer to `bytes`, told in the host's words; what it leaves in the output; and what is promised of the file.
pub record TranslatesIn (bytes before after : List ℕ) (length_before empty-before number length empty : ℕ) : Type 0 where
  pub answer : Answer
  pub translates : Translates bytes before answer after
  pub promised : Keeps (written_of bytes) answer after
  pub tells : Tells answer length_before empty-before number length empty
