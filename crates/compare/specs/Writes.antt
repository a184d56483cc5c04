-- What is written of the bytes that came for a grammar and of those behind it.
use Rattle.std.specs.Prelude.{List, [], ℕ, ◌≤◌, ◌<◌, length, take, Option, None, Ok, Err}
use Rattle.grammar.specs.declared.Fault.{Fault}
use Rattle.grammar.specs.Answers.{fault_number}
use Rattle.grammar.specs.File.{grammar_of}
use Rattle.demands.specs.Calls.{FileFault, Checked}
use Rattle.programs.specs.Header.{Judged}
use Rattle.programs.specs.Tokens.{tokens_of}
use Rattle.programs.specs.Text.{grammar_head, Line}
use Rattle.compare.specs.declared.beginnings.Engine.{Engine}
use Rattle.compare.specs.Compares.{Compares}
use Rattle.compare.specs.Text.{tokens_head, Lines}

-- The bytes of the most tokens.
abbrev pub token_bytes : ℕ
token_bytes = 64

-- The lines on the tokens that bytes say.
pub record ComparesBytes (file rest text : List ℕ) : Type 0 where
  pub agreed : ℕ
  pub stopped : ℕ
  pub parting : Option Engine
  pub compares : Compares file (tokens_of rest) agreed stopped parting
  pub lines : Lines agreed stopped parting text

-- A line on a file that is refused; else on too many tokens; else the lines on the tokens.
pub data Answered (file rest text : List ℕ) : Type 0 where
  refused : {number : ℕ} → FileFault file number → Line [] grammar_head number text → Answered file rest text
  too_many : Checked file (grammar_of file) → token_bytes < length rest → Line [] tokens_head 22 text → Answered file rest text
  compared : Checked file (grammar_of file) → length rest ≤ token_bytes → ComparesBytes file rest text → Answered file rest text

-- How many bytes are read behind the grammar: none where it is refused for the bytes that came.
pub data ReadBehind (bytes : List ℕ) : ℕ → Type 0 where
  none : ReadBehind bytes 0
  some : {l count : ℕ} → Judged bytes (Ok l) → ReadBehind bytes count

-- All that is ever written: the line on a grammar that is refused for the bytes that came, or what is answered for the L bytes of the file.
pub data Written (bytes rest text : List ℕ) : Type 0 where
  refused : {why : Fault} → Judged bytes (Err why) → Line [] grammar_head (fault_number why) text → Written bytes rest text
  answered : {l : ℕ} → Judged bytes (Ok l) → Answered (take l bytes) rest text → Written bytes rest text

-- It never tells a parting: it is a refusal's line, or the lines that end in "disagreement none".
pub data AgreesIn (text : List ℕ) : Type 0 where
  refused : {number : ℕ} → Line [] grammar_head number text → AgreesIn text
  too_many : Line [] tokens_head 22 text → AgreesIn text
  agreeing : {agreed stopped : ℕ} → Lines agreed stopped None text → AgreesIn text
