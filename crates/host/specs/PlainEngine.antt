-- The plain engine's answer in a host's words.
use Rattle.std.specs.Prelude.{◌≡◌, ◌↔◌, List, ℕ, ◌≤◌, Result, Ok, Err}
use Rattle.laws.specs.Counts.{once}
use Rattle.grammar.specs.Sentences.{Sentence}
use Rattle.grammar.specs.File.{grammar_of}
use Rattle.plain.specs.declared.Told.{Told}
use Rattle.plain.specs.declared.Refusal.{Refusal}
use Rattle.plain.specs.Calls.{Tables}

-- 1 for yes and 0 for no; else the word stays.
abbrev pub yes_or : ℕ → Result Told Refusal → ℕ
yes_or word (Ok told) = once told.yes
yes_or word (Err why) = word

-- The number, the table and the count as they are told; done, the word is 1 exactly on sentences and otherwise 0; refused, it is as it was.
pub record PlainIn (file ts before after : List ℕ) (yes-before number yes count : ℕ) : Type 0 where
  pub tables : Tables file ts before number count after
  pub yes_or_no : number ≡ 0 → yes ≤ 1
  pub sentence : number ≡ 0 → (yes ≡ 1) ↔ Sentence (grammar_of file) ts
  pub kept : (number ≡ 0 → ⊥) → yes ≡ yes-before
