-- What the translator answers, and what is promised of a file that it gives.
use Rattle.std.specs.Prelude.{◌≡◌, Bool, List, ℕ, take, Result, Ok, Err}
use Rattle.written.specs.Written.{Written}
use Rattle.written.specs.Answers.{Answer, Promised}
use Rattle.translation.specs.declared.Translated.{Translated}
use Rattle.translation.specs.declared.Refusal.{Refusal}
use Rattle.translation.specs.declared.Refusal.TheVariants.{Malformed, Circular, Barren, Unreachable, NoSentence, NoRoom}

-- The number of each refusal.
abbrev pub number_of : Refusal → ℕ
number_of Malformed = 16
number_of Circular = 17
number_of Barren = 18
number_of Unreachable = 19
number_of NoSentence = 20
number_of NoRoom = 21

-- What the translator's results say.
abbrev pub answer_of : Result Translated Refusal → Answer
answer_of (Ok translated) = Answer.done translated.length translated.empty
answer_of (Err refusal) = Answer.refused (number_of refusal)

-- Where it is done, the file in the first bytes of the output is as promised.
pub record Keeps (w : Written) (answer : Answer) (after : List ℕ) : Type 0 where
  pub promised : (length : ℕ) (empty : Bool) → answer ≡ Answer.done length empty → Promised w (take length after)
