-- A grammar: symbols, ordinary tokens and rules.
-- Symbols 0..T-1 are tokens, T..N-3 nonterminals, N-2 the wrapper W and N-1 the end mark.
use Rattle.std.specs.Prelude.{◌≡◌, List, ℕ, ◌-◌, ◌<◌, length, get_or}

-- A rule `left ::= first second`.
pub record Rule : Type 0 where
  pub left : ℕ
  pub first : ℕ
  pub second : ℕ

-- What stands for the second symbol of a rule that has one symbol.
abbrev pub none : ℕ
none = 0xFFFF

-- N, T and the rules in the order of the file.
pub record Grammar : Type 0 where
  pub symbols : ℕ
  pub tokens : ℕ
  pub rules : List Rule

-- R, the number of rules.
abbrev pub rule_count : Grammar → ℕ
rule_count g = length g.rules

-- What stands for a rule where there is none.
abbrev pub no_rule : Rule
no_rule = record { left = 0; first = 0; second = 0 }

-- The rule with a given number.
abbrev pub rule_at : Grammar → ℕ → Rule
rule_at g r = get_or g.rules r no_rule

-- Rule `r` is `a ::= b c`.
pub record Says (g : Grammar) (r a b c : ℕ) : Type 0 where
  pub there : r < rule_count g
  pub left : (rule_at g r).left ≡ a
  pub first : (rule_at g r).first ≡ b
  pub second : (rule_at g r).second ≡ c

-- W, the wrapper.
abbrev pub wrapper : Grammar → ℕ
wrapper g = g.symbols - 2

-- The end mark.
abbrev pub end_mark : Grammar → ℕ
end_mark g = g.symbols - 1

-- S: rule 0 is W ::= S end.
abbrev pub start : Grammar → ℕ
start g = (rule_at g 0).first
