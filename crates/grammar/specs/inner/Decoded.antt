-- Rules in words: three words a rule, left side, first and second; behind them chains of the rules that begin alike.
use Rattle.std.specs.Prelude.{◌≡◌, List, [], ◌∷◌, ◌++◌, ℕ, zero, suc, ◌+◌, ◌-◌, ◌*◌, ◌≤◌, ◌<◌, length, get_or}
use Rattle.grammar.specs.Rules.{Rule, Grammar}
use Rattle.grammar.specs.Accepted.{max_symbols, max_rules}
use Rattle.grammar.specs.File.{symbols_of, tokens_of, rule_count_of, grammar_of}
use Rattle.grammar.specs.declared.rules.Rules.{Rules}
use Rattle.grammar.specs.declared.Grammar as held

-- The words of a rule.
abbrev pub rule_words : ℕ
rule_words = 3

-- Left side, first and second of rule `r`.
abbrev pub left_in : List ℕ → ℕ → ℕ
left_in words r = get_or words (rule_words * r) 0

abbrev pub first_in : List ℕ → ℕ → ℕ
first_in words r = get_or words (rule_words * r + 1) 0

abbrev pub second_in : List ℕ → ℕ → ℕ
second_in words r = get_or words (rule_words * r + 2) 0

-- `count` rules, from rule `r` on.
unfoldable pub rules_behind : List ℕ → ℕ → ℕ → List Rule
rules_behind words r zero = []
rules_behind words r (suc count) = record { left = left_in words r; first = first_in words r; second = second_in words r } ∷ rules_behind words (r + 1) count

-- The first `count` rules.
abbrev pub rules_in : List ℕ → ℕ → List Rule
rules_in words count = rules_behind words 0 count

-- The grammar with these numbers of symbols and tokens and the first `count` rules.
abbrev pub grammar_in : List ℕ → ℕ → ℕ → ℕ → Grammar
grammar_in words symbols tokens count = record { symbols = symbols; tokens = tokens; rules = rules_in words count }

-- The rules that words hold with their count, and the grammar.
abbrev pub rules_of : Rules → List Rule
rules_of r = rules_in r.words r.count

abbrev pub decoded : held.Grammar → Grammar
decoded g = grammar_in g.rules.words g.symbols g.tokens g.rules.count

-- Behind the rules a word for each rule, then one for each symbol.
abbrev pub nexts_at : ℕ
nexts_at = rule_words * max_rules

abbrev pub heads_at : ℕ
heads_at = nexts_at + max_rules

abbrev pub all_words : ℕ
all_words = heads_at + max_symbols

abbrev pub next_in : List ℕ → ℕ → ℕ
next_in words r = get_or words (nexts_at + r) 0

abbrev pub head_in : List ℕ → ℕ → ℕ
head_in words x = get_or words (heads_at + x) 0

-- `r` is the first of the rules from `from` on that begins with `x`, or `count` where none does.
pub record FirstFrom (words : List ℕ) (count from x r : ℕ) : Type 0 where
  pub from_on : from ≤ r
  pub up_to : r ≤ count
  pub begins : r < count → first_in words r ≡ x
  pub none_before : (q : ℕ) → from ≤ q → q < r → first_in words q ≡ x → ⊥

-- A word leads to that rule: it tells how many rules there are from it on.
pub record Leads (words : List ℕ) (count from x word : ℕ) : Type 0 where
  pub few : word ≤ count
  pub first : FirstFrom words count from x (count - word)

-- The chains of the first `count` rules: a symbol's word leads to the first rule that begins with it, a rule's to the next that begins as it does.
pub record Chained (words : List ℕ) (count : ℕ) : Type 0 where
  pub head : (x : ℕ) → x < max_symbols → Leads words count 0 x (head_in words x)
  pub next : (r : ℕ) → r < count → Leads words count (r + 1) (first_in words r) (next_in words r)

-- Words hold the rules of a file, and 0 behind them.
pub record DecodedRules (bytes words : List ℕ) : Type 0 where
  pub long : length words ≡ all_words
  pub rules : grammar_in words (symbols_of bytes) (tokens_of bytes) (rule_count_of bytes) ≡ grammar_of bytes
  pub rest : (i : ℕ) → rule_words * rule_count_of bytes ≤ i → get_or words i 0 ≡ 0

-- One rule more behind the others. The words of the others stay, and those behind it.
pub record Pushed (before : Rules) (left first second : ℕ) (after : Rules) : Type 0 where
  pub counted : after.count ≡ before.count + 1
  pub long : length after.words ≡ all_words
  pub listed : rules_of after ≡ rules_of before ++ record { left = left; first = first; second = second } ∷ []
  pub kept : (i : ℕ) → i < rule_words * before.count → get_or after.words i 0 ≡ get_or before.words i 0
  pub rest : (i : ℕ) → rule_words * after.count ≤ i → get_or after.words i 0 ≡ get_or before.words i 0

-- The chains of the first `count` rules are put into words, and nothing else.
pub record Links (count : ℕ) (before words : List ℕ) : Type 0 where
  pub long : length words ≡ all_words
  pub same : (i : ℕ) → i < nexts_at → get_or words i 0 ≡ get_or before i 0
  pub chained : Chained words count
  pub rest : (r : ℕ) → count ≤ r → r < max_rules → next_in words r ≡ 0

-- Words hold the rules of a file and their chains, and 0 behind the rules and behind the rules' chains.
pub record HoldsRules (bytes words : List ℕ) : Type 0 where
  pub long : length words ≡ all_words
  pub rules : grammar_in words (symbols_of bytes) (tokens_of bytes) (rule_count_of bytes) ≡ grammar_of bytes
  pub rest : (i : ℕ) → rule_words * rule_count_of bytes ≤ i → i < nexts_at → get_or words i 0 ≡ 0
  pub chained : Chained words (rule_count_of bytes)
  pub chained_rest : (r : ℕ) → rule_count_of bytes ≤ r → r < max_rules → next_in words r ≡ 0

-- A grammar holds a file: its numbers, its rules and their chains.
pub record HoldsFile (bytes : List ℕ) (g : held.Grammar) : Type 0 where
  pub symbols : g.symbols ≡ symbols_of bytes
  pub tokens : g.tokens ≡ tokens_of bytes
  pub count : g.rules.count ≡ rule_count_of bytes
  pub words : HoldsRules bytes g.rules.words

-- The grammar that a check is lent holds an accepted file; of any other it stays as it was.
pub record Decodes (bytes : List ℕ) (number : ℕ) (before after : held.Grammar) : Type 0 where
  pub accepted : number ≡ 0 → HoldsFile bytes after
  pub refused : (number ≡ 0 → ⊥) → after ≡ before
