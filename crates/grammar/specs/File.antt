-- The grammar file, version 1: bytes to a grammar, and what is malformed.
-- Big-endian. Byte 0: version 1. Bytes 1-4: total length L. Then u16 each: symbols N, ordinary tokens T, rules R.
-- Then R rules of three u16: left side, first, second. L = 11 + 6R.
use Rattle.std.specs.Prelude.{◌≡◌, List, [], ◌∷◌, ℕ, zero, suc, ◌+◌, ◌*◌, ◌<◌, length, get_or}
use Rattle.grammar.specs.Rules.{Rule, Grammar}

-- The number in the two bytes at `at`, and in the four.
abbrev pub u16_at : List ℕ → ℕ → ℕ
u16_at file at = get_or file at 0 * 256 + get_or file (at + 1) 0

abbrev pub u32_at : List ℕ → ℕ → ℕ
u32_at file at = u16_at file at * 65536 + u16_at file (at + 2)

-- The bytes before the rules, and those of a rule.
abbrev pub header_bytes : ℕ
header_bytes = 11

abbrev pub rule_bytes : ℕ
rule_bytes = 6

-- The fields of the header.
abbrev pub version_of : List ℕ → ℕ
version_of file = get_or file 0 0

abbrev pub length_of : List ℕ → ℕ
length_of file = u32_at file 1

abbrev pub symbols_of : List ℕ → ℕ
symbols_of file = u16_at file 5

abbrev pub tokens_of : List ℕ → ℕ
tokens_of file = u16_at file 7

abbrev pub rule_count_of : List ℕ → ℕ
rule_count_of file = u16_at file 9

-- The rule in the six bytes at `at`, and `count` rules one behind the other.
abbrev pub rule_in : List ℕ → ℕ → Rule
rule_in file at = record { left = u16_at file at; first = u16_at file (at + 2); second = u16_at file (at + 4) }

unfoldable pub rules_from : List ℕ → ℕ → ℕ → List Rule
rules_from file at zero = []
rules_from file at (suc count) = rule_in file at ∷ rules_from file (at + rule_bytes) count

-- The grammar that a file gives.
abbrev pub grammar_of : List ℕ → Grammar
grammar_of file = record {
  symbols = symbols_of file;
  tokens = tokens_of file;
  rules = rules_from file header_bytes (rule_count_of file);
}

-- Fewer than 11 bytes, version not 1, or L not the real length or not 11 + 6R.
pub data Malformed (file : List ℕ) : Type 0 where
  short : length file < header_bytes → Malformed file
  version : (version_of file ≡ 1 → ⊥) → Malformed file
  real_length : (length_of file ≡ length file → ⊥) → Malformed file
  told_length : (length_of file ≡ header_bytes + rule_bytes * rule_count_of file → ⊥) → Malformed file
