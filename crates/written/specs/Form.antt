-- The written form, version 2: bytes to a written grammar, and which bytes are of that form.
-- Big-endian. Byte 0: version 2. Then u16 each: tokens T, nonterminals M, rules R, the start symbol S.
-- Then R rules of u16s: left side, length n, n symbols.
use Rattle.std.specs.Prelude.{◌≡◌, List, [], ◌∷◌, ℕ, zero, suc, ◌+◌, ◌*◌, ◌≤◌, ◌<◌, length, get_or}
use Rattle.grammar.specs.File.{u16_at}
use Rattle.written.specs.Lists.{Each}
use Rattle.written.specs.Written.{WrittenRule, Written}

-- The bytes before the rules, and the bytes of a rule before its symbols.
abbrev pub written_header : ℕ
written_header = 9

abbrev pub rule_head : ℕ
rule_head = 4

-- The most symbols on the right.
abbrev pub longest : ℕ
longest = 16

-- The fields of the header.
abbrev pub version_in : List ℕ → ℕ
version_in bytes = get_or bytes 0 0

abbrev pub tokens_in : List ℕ → ℕ
tokens_in bytes = u16_at bytes 1

abbrev pub nonterminals_in : List ℕ → ℕ
nonterminals_in bytes = u16_at bytes 3

abbrev pub count_in : List ℕ → ℕ
count_in bytes = u16_at bytes 5

abbrev pub start_in : List ℕ → ℕ
start_in bytes = u16_at bytes 7

abbrev pub end_in : List ℕ → ℕ
end_in bytes = tokens_in bytes + nonterminals_in bytes

-- `n` symbols, one behind the other.
unfoldable pub symbols_at : List ℕ → ℕ → ℕ → List ℕ
symbols_at bytes at zero = []
symbols_at bytes at (suc n) = u16_at bytes at ∷ symbols_at bytes (at + 2) n

-- Of the rule at `at`: the left side, the length, the right side; and where the next one begins.
abbrev pub left_at : List ℕ → ℕ → ℕ
left_at bytes at = u16_at bytes at

abbrev pub length_at : List ℕ → ℕ → ℕ
length_at bytes at = u16_at bytes (at + 2)

abbrev pub right_at : List ℕ → ℕ → List ℕ
right_at bytes at = symbols_at bytes (at + rule_head) (length_at bytes at)

abbrev pub behind : List ℕ → ℕ → ℕ
behind bytes at = at + rule_head + 2 * length_at bytes at

abbrev pub rule_at : List ℕ → ℕ → WrittenRule
rule_at bytes at = record { left = left_at bytes at; right = right_at bytes at }

-- `count` rules, one behind the other.
unfoldable pub rules_at : List ℕ → ℕ → ℕ → List WrittenRule
rules_at bytes at zero = []
rules_at bytes at (suc count) = rule_at bytes at ∷ rules_at bytes (behind bytes at) count

-- The grammar that the bytes write.
abbrev pub written_of : List ℕ → Written
written_of bytes = record {
  tokens = tokens_in bytes;
  nonterminals = nonterminals_in bytes;
  start = start_in bytes;
  rules = rules_at bytes written_header (count_in bytes);
}

-- The rule at `at` stands within the bytes: its left side is a nonterminal, it has at most 16 symbols, each below T+M.
pub record RuleStands (bytes : List ℕ) (at : ℕ) : Type 0 where
  pub head : at + rule_head ≤ length bytes
  pub no_token_lem : tokens_in bytes ≤ left_at bytes at
  pub nonterminal : left_at bytes at < end_in bytes
  pub few : length_at bytes at ≤ longest
  pub whole : behind bytes at ≤ length bytes
  pub symbols : Each (λ (x : ℕ). x < end_in bytes) (right_at bytes at)

-- `count` rules stand from `at` on, and the bytes end behind the last.
pub data RulesStand (bytes : List ℕ) : ℕ → ℕ → Type 0 where
  no_more : {at : ℕ} → at ≡ length bytes → RulesStand bytes at 0
  one_more : {at count : ℕ} → RuleStands bytes at → RulesStand bytes (behind bytes at) count → RulesStand bytes at (suc count)

-- The bytes are of the form.
pub record Formed (bytes : List ℕ) : Type 0 where
  pub header : written_header ≤ length bytes
  pub version : version_in bytes ≡ 2
  pub no_token_lem : tokens_in bytes ≤ start_in bytes
  pub nonterminal : start_in bytes < end_in bytes
  pub rules : RulesStand bytes written_header (count_in bytes)
