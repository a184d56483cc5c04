-- The bytes of a grammar file, version 1.
use Rattle.std.specs.Prelude.{List, [], ◌∷◌, ◌++◌, ℕ, ◌+◌, ◌*◌, ◌/◌, ◌%◌}
use Rattle.laws.specs.Records.{flat}
use Rattle.grammar.specs.Rules.{Rule, Grammar, rule_count}
use Rattle.grammar.specs.File.{header_bytes, rule_bytes}

-- A number in two bytes, the high one first, and in four.
unfoldable pub u16_bytes : ℕ → List ℕ
u16_bytes n = n / 256 ∷ n % 256 ∷ []

unfoldable pub u32_bytes : ℕ → List ℕ
u32_bytes n = u16_bytes (n / 65536) ++ u16_bytes (n % 65536)

-- A rule in six.
unfoldable pub bytes_of_rule : Rule → List ℕ
bytes_of_rule r = u16_bytes r.left ++ (u16_bytes r.first ++ u16_bytes r.second)

-- L = 11 + 6R.
abbrev pub file_length : Grammar → ℕ
file_length g = header_bytes + rule_bytes * rule_count g

-- Version, L, N, T, R; then the rules.
unfoldable pub header_of : Grammar → List ℕ
header_of g = 1 ∷ (u32_bytes (file_length g) ++ (u16_bytes g.symbols ++ (u16_bytes g.tokens ++ u16_bytes (rule_count g))))

unfoldable pub bytes_of : Grammar → List ℕ
bytes_of g = header_of g ++ flat bytes_of_rule g.rules
