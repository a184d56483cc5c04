-- A grammar written as bytes is read back as it was, and the bytes are well formed.
use mathlib.Core.Path.{◌≡◌, refl, sym, ap, ap₂, subst, ◌∙◌}
use mathlib.Core.List.{List, [], append-nil}
use Prim.Native.Nat.{ℕ, suc, ◌+◌, ◌*◌, ◌/◌, ◌%◌, ◌<◌}
use native.Mathlib.Omega.{arith}
use lib.ListN.{length, get_or, length-append}
use lib.Seq.{ext_get_or, get_or-append-add}
use Rattle.laws.specs.Records.{flat}
use Rattle.laws.proofs.Records.{flat-length, flat_at}
use Rattle.grammar.specs.Rules.{Rule, Grammar, rule_count, no_rule}
use Rattle.grammar.specs.File.{u16_at, header_bytes, rule_bytes, version_of, length_of, symbols_of, tokens_of, rule_count_of, rule_in, rules_from, grammar_of, Malformed}
use Rattle.grammar.specs.File.Malformed.{short, version, real_length, told_length}
use Rattle.grammar.proofs.Decoding.{of_count, of_rule}
use Rattle.written.specs.Bytes.{u16_bytes, u32_bytes, bytes_of_rule, file_length, header_of, bytes_of}
use Rattle.written.proofs.Listing.{rules_parts}

-- Two bytes of a number, read again.
joins : (n : ℕ) → n / 256 * 256 + n % 256 ≡ n
joins n = omega arith

-- Six bytes a rule.
pub rule-long : (r : Rule) → length (bytes_of_rule r) ≡ rule_bytes
unfolding bytes_of_rule u16_bytes
rule-long r = refl

pub header-long : (g : Grammar) → length (header_of g) ≡ header_bytes
unfolding header_of u32_bytes u16_bytes
header-long g = refl

pub bytes-long : (g : Grammar) → length (bytes_of g) ≡ file_length g
unfolding bytes_of
bytes-long g =
    length-append (header_of g) (flat bytes_of_rule g.rules) ∙ ap₂ ◌+◌ (header-long g) (flat-length bytes_of_rule rule_bytes rule-long g.rules)

module _ (g : Grammar) where
  -- The fields of the header.
  version_is : version_of (bytes_of g) ≡ 1
  unfolding bytes_of header_of
  version_is = refl

  length_is : length_of (bytes_of g) ≡ file_length g
  unfolding bytes_of header_of u32_bytes u16_bytes
  length_is = let l : ℕ = file_length g in omega (arith, joins (l / 65536), joins (l % 65536))

  symbols_is : symbols_of (bytes_of g) ≡ g.symbols
  unfolding bytes_of header_of u32_bytes u16_bytes
  symbols_is = joins g.symbols

  tokens_is : tokens_of (bytes_of g) ≡ g.tokens
  unfolding bytes_of header_of u32_bytes u16_bytes
  tokens_is = joins g.tokens

  count_is : rule_count_of (bytes_of g) ≡ rule_count g
  unfolding bytes_of header_of u32_bytes u16_bytes
  count_is = joins (rule_count g)

  -- Byte k of rule r.
  byte_at : (r k : ℕ) → r < rule_count g → k < rule_bytes → get_or (bytes_of g) (header_bytes + rule_bytes * r + k) 0 ≡ get_or (bytes_of_rule (get_or g.rules r no_rule)) k 0
  unfolding bytes_of
  byte_at r k h l =
      let at : header_bytes + rule_bytes * r + k ≡ length (header_of g) + (rule_bytes * r + k) = let e = header-long g in omega arith in
      ap (λ (i : ℕ). get_or (bytes_of g) i 0) at
      ∙ get_or-append-add (header_of g) (flat bytes_of_rule g.rules) (rule_bytes * r + k) 0
      ∙ ap (λ (b : List ℕ). get_or b (rule_bytes * r + k) 0) (sym (append-nil (flat bytes_of_rule g.rules)))
      ∙ flat_at bytes_of_rule rule_bytes rule-long g.rules [] r k no_rule h l

  -- Two bytes of rule r.
  word_at : (r k : ℕ) → r < rule_count g → suc k < rule_bytes
      → u16_at (bytes_of g) (header_bytes + rule_bytes * r + k)
      ≡ get_or (bytes_of_rule (get_or g.rules r no_rule)) k 0 * 256 + get_or (bytes_of_rule (get_or g.rules r no_rule)) (suc k) 0
  word_at r k h l =
      ap₂ (λ (a b : ℕ). a * 256 + b) (byte_at r k h (omega arith))
      (ap (λ (i : ℕ). get_or (bytes_of g) i 0) (omega arith) ∙ byte_at r (suc k) h l)

  rule_is : (r : ℕ) → r < rule_count g → rule_in (bytes_of g) (header_bytes + rule_bytes * r) ≡ get_or g.rules r no_rule
  unfolding bytes_of_rule u16_bytes
  rule_is r h =
      let q : Rule = get_or g.rules r no_rule in
      rules_parts
      (ap (u16_at (bytes_of g)) (omega arith) ∙ word_at r 0 h (omega arith) ∙ joins q.left)
      (word_at r 2 h (omega arith) ∙ joins q.first)
      (word_at r 4 h (omega arith) ∙ joins q.second)

  -- The bytes give the grammar.
  pub bytes_grammar : grammar_of (bytes_of g) ≡ g
  bytes_grammar = same symbols_is tokens_is rules-same
    where
      rules-same : rules_from (bytes_of g) header_bytes (rule_count_of (bytes_of g)) ≡ g.rules
      rules-same =
          ext_get_or no_rule (rules_from (bytes_of g) header_bytes (rule_count_of (bytes_of g))) g.rules (of_count (bytes_of g) ∙ count_is)
          (λ r l.
          let low : r < rule_count_of (bytes_of g) = subst (λ (k : ℕ). r < k) (of_count (bytes_of g)) l in
          of_rule (bytes_of g) r low ∙ rule_is r (subst (λ (k : ℕ). r < k) count_is low))

      same : {n m t s : ℕ} {k l : List Rule} → n ≡ m → t ≡ s → k ≡ l
          → ◌≡◌ {A = Grammar} (record { symbols = n; tokens = t; rules = k }) (record { symbols = m; tokens = s; rules = l })
      same x y z = cc

  -- And are well formed.
  pub bytes-formed : Malformed (bytes_of g) → ⊥
  bytes-formed (short h) = let e = bytes-long g in omega arith
  bytes-formed (version n) = n version_is
  bytes-formed (real_length n) = n (length_is ∙ sym (bytes-long g))
  bytes-formed (told_length n) = n (length_is ∙ ap (λ (k : ℕ). header_bytes + rule_bytes * k) (sym count_is))
