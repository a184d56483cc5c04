-- What the translator answers and leaves: a case for each number, and the lowest that applies decides. And what is promised of a file.
use Rattle.std.specs.Prelude.{◌≡◌, Bool, List, [], ◌∷◌, ◌++◌, ℕ, ◌+◌, ◌-◌, ◌*◌, ◌≤◌, length, drop}
use Rattle.laws.specs.Decides.{Decides}
use Rattle.grammar.specs.Rules.{Grammar, rule_count}
use Rattle.grammar.specs.Sentences.{Sentence}
use Rattle.grammar.specs.Accepted.{Accepted, max_symbols, max_rules}
use Rattle.grammar.specs.File.{Malformed, grammar_of}
use Rattle.written.specs.Written.{WrittenRule, Written, MayBeEmpty, Gives, symbol_count}
use Rattle.written.specs.Form.{Formed, written_of}
use Rattle.written.specs.Refusals.{Nonterminal, Fruitful, Reachable, Stays, Circular, Barren, Unreachable, Sound}
use Rattle.written.specs.Translation.{translated}
use Rattle.written.specs.Bytes.{file_length, bytes_of}

-- Which symbols may be empty, and which stay.
pub record Tests (w : Written) : Type 0 where
  pub keep : ℕ → Bool
  pub empty : ℕ → Bool
  pub keeps : (a : ℕ) → Decides (keep a) (Stays w a)
  pub empties : (a : ℕ) → Decides (empty a) (MayBeEmpty w a)

-- The grammar that `w` is translated to.
abbrev pub translation : (w : Written) → Tests w → Grammar
translation w t = translated w t.keep t.empty

-- There is room for the file where `lent` bytes are lent.
pub record Fits (g : Grammar) (lent : ℕ) : Type 0 where
  pub few_symbols : g.symbols ≤ max_symbols
  pub few_rules : rule_count g ≤ max_rules
  pub lent_enough : file_length g ≤ lent

-- A refusal by its number; or done, with the length of the file and whether the empty sentence was there.
pub data Answer : Type 0 where
  refused : ℕ → Answer
  done : ℕ → Bool → Answer

-- The answer to `bytes`, and what the output holds then that held `before`.
pub data Translates (bytes before : List ℕ) : Answer → List ℕ → Type 0 where
  malformed : (Formed bytes → ⊥) → Translates bytes before (Answer.refused 16) before
  circular : Formed bytes → Circular (written_of bytes) → Translates bytes before (Answer.refused 17) before
  barren : Formed bytes → (Circular (written_of bytes) → ⊥) → Barren (written_of bytes) → Translates bytes before (Answer.refused 18) before
  unreachable : Formed bytes → (Circular (written_of bytes) → ⊥) → ((a : ℕ) → Nonterminal (written_of bytes) a → Fruitful (written_of bytes) a)
      → Unreachable (written_of bytes) → Translates bytes before (Answer.refused 19) before
  no_sentence : Formed bytes → (Circular (written_of bytes) → ⊥) → ((a : ℕ) → Nonterminal (written_of bytes) a → Fruitful (written_of bytes) a)
      → ((a : ℕ) → Nonterminal (written_of bytes) a → Reachable (written_of bytes) a) → (Stays (written_of bytes) (written_of bytes).start → ⊥)
      → Translates bytes before (Answer.refused 20) before
  no_room : Formed bytes → Sound (written_of bytes) → (t : Tests (written_of bytes)) → (Fits (translation (written_of bytes) t) (length before) → ⊥)
      → Translates bytes before (Answer.refused 21) before
  -- The file stands in front, and what lay behind it stays; the empty sentence was there exactly when S may be empty.
  translates : Formed bytes → Sound (written_of bytes) → (t : Tests (written_of bytes)) → Fits (translation (written_of bytes) t) (length before)
      → Translates bytes before (Answer.done (file_length (translation (written_of bytes) t)) (t.empty (written_of bytes).start))
      (bytes_of (translation (written_of bytes) t) ++ drop (file_length (translation (written_of bytes) t)) before)

-- The places of all rules, and those past the second.
unfoldable pub all_places : List WrittenRule → ℕ
all_places [] = 0
all_places (r ∷ rules) = length r.right + all_places rules

unfoldable pub past_second : List WrittenRule → ℕ
past_second [] = 0
past_second (r ∷ rules) = length r.right - 2 + past_second rules

-- What is promised of the file that `w` is translated to.
pub record Promised (w : Written) (file : List ℕ) : Type 0 where
  -- It passes the check.
  pub well_formed : Malformed file → ⊥
  pub accepted : Accepted (grammar_of file)
  -- Its sentences are the nonempty strings that S derives.
  pub sound : (u : List ℕ) → Sentence (grammar_of file) u → Gives w w.start u
  pub filled : (u : List ℕ) → Sentence (grammar_of file) u → u ≡ [] → ⊥
  pub complete : (u : List ℕ) → Gives w w.start u → (u ≡ [] → ⊥) → Sentence (grammar_of file) u
  -- Beside the written symbols, W and the end mark it has at most one symbol for each place past the second; beside rule 0 at most three rules a place.
  pub few_symbols : (grammar_of file).symbols ≤ symbol_count w + past_second w.rules + 2
  pub few_rules : rule_count (grammar_of file) ≤ 1 + 3 * all_places w.rules
