-- A header that passes the tests.
use Rattle.std.proofs.Common.{◌≡◌, refl, sym, ap, subst, ◌∙◌, List, ◌++◌, ℕ, ◌+◌, ◌*◌, ◌≤◌, ◌<◌, arith, length, take, get_or, length-append, length-take-le, get_or-take, take-take, take_at, Result, Ok}
use native.Mathlib.Decide.{ℕ_discrete, dec_lt}
use Rattle.io.specs.Counts.{IsPrefixLen}
use Rattle.grammar.specs.Accepted.{max_rules}
use Rattle.grammar.specs.File.{header_bytes, rule_bytes, u16_at, version_of, length_of, rule_count_of}
use Rattle.grammar.specs.declared.Fault.{Fault}
use Rattle.programs.specs.Header.{longest_file, Wrong, Says, Judged, ReadTo}
use Rattle.programs.specs.Header.Wrong.{short, version, told_length}
use Rattle.programs.specs.Header.Says.{malformed, broken, whole}

-- Eleven bytes, version 1 and L = 11 + 6R are not wrong.
pub not_wrong :
    (bytes : List ℕ) → header_bytes ≤ length bytes → version_of bytes ≡ 1 → length_of bytes ≡ header_bytes + rule_bytes * rule_count_of bytes
    → Wrong bytes → ⊥
not_wrong bytes long one told (short h) = omega (arith, h)
not_wrong bytes long one told (version h) = h one
not_wrong bytes long one told (told_length h) = h told

-- Such a header with few rules gives its length.
pub gives-length :
    (bytes : List ℕ) (n : ℕ) → (Wrong bytes → ⊥) → rule_count_of bytes ≤ max_rules → n ≡ length_of bytes → Says bytes (Ok n)
gives-length bytes n right few is = subst (λ (m : ℕ). Says bytes (Ok m)) (sym is) (whole right few)

-- What a header says does not depend on how it is written.
pub says_same : {bytes : List ℕ} {h k : Result ℕ Fault} → h ≡ k → Says bytes h → Says bytes k
says_same {bytes} same says = subst (λ (x : Result ℕ Fault). Says bytes x) same says

pub judged_same : {bytes : List ℕ} {h k : Result ℕ Fault} → h ≡ k → Judged bytes h → Judged bytes k
judged_same {bytes} same judged = subst (λ (x : Result ℕ Fault). Judged bytes x) same judged

-- A whole file came.
pub whole-fits : (bytes : List ℕ) {l : ℕ} → Judged bytes (Ok l) → l ≤ length bytes
whole-fits bytes (Judged.whole says enough) = enough

-- What a header says stands in its first eleven bytes.
module _ (a b : List ℕ) (long-b : header_bytes ≤ length b) (same : take header_bytes a ≡ take header_bytes b) where
  byte_same : (i : ℕ) → i < header_bytes → get_or a i 0 ≡ get_or b i 0
  byte_same i low = sym (get_or-take header_bytes a i 0 low) ∙ ap (λ (l : List ℕ). get_or l i 0) same ∙ get_or-take header_bytes b i 0 low

  pair_same : (at : ℕ) → at + 1 < header_bytes → u16_at a at ≡ u16_at b at
  pair_same at low = omega (arith, byte_same at (omega (arith, low)), byte_same (at + 1) low)

  length-same : length_of a ≡ length_of b
  length-same = omega (arith, pair_same 1 (omega arith), pair_same 3 (omega arith))

  wrong_same : Wrong b → Wrong a
  wrong_same (short h) = absurd (omega (arith, long-b, h))
  wrong_same (version h) = version (λ one. h (sym (byte_same 0 (omega arith)) ∙ one))
  wrong_same (told_length h) = told_length (λ is. h (omega (arith, is, length-same, pair_same 9 (omega arith))))

  pub says-length : {n : ℕ} → Says a (Ok n) → Says b (Ok n)
  says-length (whole right few) = gives-length b _ (λ wrong. right (wrong_same wrong)) (omega (arith, few, pair_same 9 (omega arith))) length-same

-- The length lies between the header's and that of the most rules.
pub told_bounds : (bytes : List ℕ) (n : ℕ) → Says bytes (Ok n) → (header_bytes ≤ n) × (n ≤ longest_file)
told_bounds bytes n (whole right few) =
    elim (ℕ_discrete (length_of bytes) (header_bytes + rule_bytes * rule_count_of bytes)) [
      | yes e ↦ (omega (arith, e), omega (arith, e, few))
      | no h ↦ absurd (right (told_length h))
    ]

-- A header that tells its length is all there.
header-there : (bytes : List ℕ) {n : ℕ} → Says bytes (Ok n) → header_bytes ≤ length bytes
header-there bytes (whole right few) =
    elim (dec_lt (length bytes) header_bytes) [
      | yes h ↦ absurd (right (short h))
      | no h ↦ omega (arith, h)
    ]

-- A header and what it asks for were read.
pub read-rest :
    (file part behind : List ℕ) (first more : ℕ) {l : ℕ} → first ≤ header_bytes → header_bytes ≤ length file → Says (take first file) (Ok l)
    → header_bytes + length part ≡ l → more ≤ length part
    → IsPrefixLen (header_bytes + more) (take header_bytes file ++ (part ++ behind)) × ReadTo (take (header_bytes + more) (take header_bytes file ++ (part ++ behind)))
read-rest file part behind first more {l} few long says is low =
    (counts, ReadTo.rest (says-length (take first file) bytes (omega (arith, counts.1)) same says) (omega (arith, counts.1, is, low)))
  where
    whole-file : List ℕ
    whole-file = take header_bytes file ++ (part ++ behind)

    bytes : List ℕ
    bytes = take (header_bytes + more) whole-file

    counts : IsPrefixLen (header_bytes + more) whole-file
    counts =
        let fits : header_bytes + more ≤ length whole-file = omega (arith, length-append (take header_bytes file) (part ++ behind), length-append part behind, length-take-le header_bytes file long, low) in
        (fits, sym (length-take-le (header_bytes + more) whole-file fits))

    all_first : header_bytes ≤ first
    all_first = omega (arith, header-there (take first file) says, length-take-le first file (omega (arith, few, long)))

    same : take header_bytes (take first file) ≡ take header_bytes bytes
    same =
        take-take header_bytes first file all_first
        ∙ sym (take-take header_bytes (header_bytes + more) whole-file (omega arith) ∙ take_at (take header_bytes file) (part ++ behind) header_bytes (length-take-le header_bytes file long))

too_many : {n : ℕ} → max_rules < n → n ≤ max_rules → ⊥
too_many m f = omega (arith, m, f)

-- Two answers to one header agree.
pub says_one : (bytes : List ℕ) (h k : Result ℕ Fault) → Says bytes h → Says bytes k → h ≡ k
says_one bytes h k (malformed w) (malformed v) = refl
says_one bytes h k (malformed w) (broken r m) = absurd (r w)
says_one bytes h k (malformed w) (whole r f) = absurd (r w)
says_one bytes h k (broken r m) (malformed v) = absurd (r v)
says_one bytes h k (broken r m) (broken q n) = refl
says_one bytes h k (broken r m) (whole q f) = absurd (too_many m f)
says_one bytes h k (whole r f) (malformed v) = absurd (r v)
says_one bytes h k (whole r f) (broken q n) = absurd (too_many n f)
says_one bytes h k (whole r f) (whole q g) = refl

-- No file is cut and whole.
cut-and-whole : (bytes : List ℕ) {l m : ℕ} → Says bytes (Ok l) → Says bytes (Ok m) → length bytes < l → m ≤ length bytes → ⊥
cut-and-whole bytes {l} {m} a b fewer enough =
    let both = says_one bytes (Ok l) (Ok m) a b in
    let same : l ≡ m = cc in
    omega (arith, same, fewer, enough)

-- Two answers to the bytes that came agree.
pub judged_one : (bytes : List ℕ) (h k : Result ℕ Fault) → Judged bytes h → Judged bytes k → h ≡ k
judged_one bytes h k (Judged.refused a) (Judged.refused b) = says_one bytes h k a b
judged_one bytes h k (Judged.refused a) (Judged.cut {l} b fewer) = cc (says_one bytes h (Ok l) a b)
judged_one bytes h k (Judged.refused a) (Judged.whole b enough) = says_one bytes h k a b
judged_one bytes h k (Judged.cut {l} a fewer) (Judged.refused b) = cc (says_one bytes (Ok l) k a b)
judged_one bytes h k (Judged.cut a fewer) (Judged.cut b less) = refl
judged_one bytes h k (Judged.cut a fewer) (Judged.whole b enough) = absurd (cut-and-whole bytes a b fewer enough)
judged_one bytes h k (Judged.whole a enough) (Judged.refused b) = says_one bytes h k a b
judged_one bytes h k (Judged.whole a enough) (Judged.cut b fewer) = absurd (cut-and-whole bytes b a fewer enough)
judged_one bytes h k (Judged.whole a enough) (Judged.whole b more) = says_one bytes h k a b
