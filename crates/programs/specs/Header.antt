-- The header of a grammar, before the rest of the file is read.
use Rattle.std.specs.Prelude.{◌≡◌, List, ℕ, ◌+◌, ◌*◌, ◌≤◌, ◌<◌, length, Result, Ok, Err}
use Rattle.grammar.specs.declared.Fault.{Fault}
use Rattle.grammar.specs.declared.Fault.TheVariants.{Malformed, Broken}
use Rattle.grammar.specs.Accepted.{max_rules}
use Rattle.grammar.specs.File.{header_bytes, rule_bytes, version_of, length_of, rule_count_of}

-- The longest file that its header lets through.
abbrev pub longest_file : ℕ
longest_file = header_bytes + rule_bytes * max_rules

-- Fewer than 11 bytes, a wrong version or L not 11 + 6R.
pub data Wrong (bytes : List ℕ) : Type 0 where
  short : length bytes < header_bytes → Wrong bytes
  version : (version_of bytes ≡ 1 → ⊥) → Wrong bytes
  told_length : (length_of bytes ≡ header_bytes + rule_bytes * rule_count_of bytes → ⊥) → Wrong bytes

-- That is 1; then more rules than there may be are 2; then L bytes are read.
pub data Says (bytes : List ℕ) : Result ℕ Fault → Type 0 where
  malformed : Wrong bytes → Says bytes (Err Malformed)
  broken : (Wrong bytes → ⊥) → max_rules < rule_count_of bytes → Says bytes (Err Broken)
  whole : (Wrong bytes → ⊥) → rule_count_of bytes ≤ max_rules → Says bytes (Ok (length_of bytes))

-- The same of all the bytes that came: then fewer than L bytes is 1.
pub data Judged (bytes : List ℕ) : Result ℕ Fault → Type 0 where
  refused : {why : Fault} → Says bytes (Err why) → Judged bytes (Err why)
  cut : {l : ℕ} → Says bytes (Ok l) → length bytes < l → Judged bytes (Err Malformed)
  whole : {l : ℕ} → Says bytes (Ok l) → l ≤ length bytes → Judged bytes (Ok l)

-- How far is read: 11 bytes, and on to L behind a header that is not refused.
pub data ReadTo (bytes : List ℕ) : Type 0 where
  header : length bytes ≤ header_bytes → ReadTo bytes
  rest : {l : ℕ} → Says bytes (Ok l) → length bytes ≤ l → ReadTo bytes
