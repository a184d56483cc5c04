-- Bytes as tokens: how many there are, those of two stretches, and the words that hold them.
use Rattle.std.proofs.Common.{◌≡◌, refl, sym, ap, subst, ◌∙◌, List, [], ◌∷◌, ◌++◌, append-nil, append_assoc, ℕ, suc, ◌+◌, ◌-◌, ◌*◌, ◌≤◌, ◌<◌, min, arith, length, take, set, get_or, length-set, length-append, take-suc-set, length-take-le}
use Rattle.std.specs.Int.{div_ceil}
use Rattle.programs.specs.Tokens.{foreign, tokens_of}

-- Tokens are half as many as bytes, a lone one counted whole.
pub record Halves (bytes : List ℕ) : Type 0 where
  pub all : length bytes ≤ 2 * length (tokens_of bytes)
  pub few : 2 * length (tokens_of bytes) ≤ length bytes + 1

pub halves : (bytes : List ℕ) → Halves bytes
unfolding tokens_of
halves [] = record { all = omega arith; few = omega arith }
halves (lone ∷ []) = record { all = omega arith; few = omega arith }
halves (high ∷ (low ∷ rest)) =
    let behind = halves rest in
    record { all = omega (arith, behind.all); few = omega (arith, behind.few) }

pub record Even (n : ℕ) : Type 0 where
  pub half : ℕ
  pub is : n ≡ 2 * half

-- Behind whole tokens stand those of the bytes behind.
pub tokens-join : (a b : List ℕ) → Even (length a) → tokens_of (a ++ b) ≡ tokens_of a ++ tokens_of b
unfolding tokens_of
tokens-join [] b even = refl
tokens-join (lone ∷ []) b even = absurd (omega (arith, even.is))
tokens-join (high ∷ (low ∷ rest)) b even =
    ap (λ (l : List ℕ). (high * 256 + low) ∷ l) (tokens-join rest b (record { half = even.half - 1; is = omega (arith, even.is) }))

-- A whole token's bytes are alone, and a lone one is.
pub two_bytes : (pair : List ℕ) (t : ℕ) → length pair ≡ 2 → t ≡ get_or pair 0 0 * 256 + get_or pair 1 0 → tokens_of pair ≡ t ∷ []
unfolding tokens_of
two_bytes [] t two is = absurd (omega (arith, two))
two_bytes (lone ∷ []) t two is = absurd (omega (arith, two))
two_bytes (high ∷ (low ∷ [])) t two is = ap (λ (x : ℕ). x ∷ []) (sym is)
two_bytes (high ∷ (low ∷ (more ∷ rest))) t two is = absurd (omega (arith, two))

pub one_byte : (pair : List ℕ) → length pair ≡ 1 → tokens_of pair ≡ foreign ∷ []
unfolding tokens_of
one_byte [] one = absurd (omega (arith, one))
one_byte (lone ∷ []) one = refl
one_byte (high ∷ (low ∷ rest)) one = absurd (omega (arith, one))

-- The tokens of the `i` pairs passed stand in the words, and with those of the bytes behind they are all; there is room for them.
pub record Decoded (bytes words₀ : List ℕ) (size : ℕ) (rest : List ℕ) (i : ℕ) (words : List ℕ) : Type 0 where
  pub pairs : size ≡ 2
  pub long : length words ≡ length words₀
  pub room : length bytes ≤ 2 * length words₀
  pub within : i ≤ length words
  pub same : take i words ++ tokens_of rest ≡ tokens_of bytes

-- A token put behind others.
one_put : (words : List ℕ) (i t : ℕ) → i < length words → take (i + 1) (set words i t) ≡ take i words ++ (t ∷ [])
one_put words i t low =
    let next : suc i ≡ i + 1 = omega arith in
    subst (λ (k : ℕ). take k (set words i t) ≡ take i words ++ (t ∷ [])) next (take-suc-set words i t low)

-- How many tokens are passed and left.
tokens-counted : {bytes words₀ rest words : List ℕ} {size i : ℕ} → Decoded bytes words₀ size rest i words → i + length (tokens_of rest) ≡ length (tokens_of bytes)
tokens-counted {bytes} {words₀} {rest} {words} {size} {i} d =
    omega (arith, length-append (take i words) (tokens_of rest), length-take-le i words d.within, ap length d.same)

-- The first pair of the bytes that are left is its token.
pair-front :
    (pair rest : List ℕ) (t : ℕ) → tokens_of pair ≡ t ∷ [] → length pair ≡ min 2 (length (pair ++ rest)) → 0 < length pair
    → tokens_of (pair ++ rest) ≡ t ∷ tokens_of rest
unfolding tokens_of
pair-front [] rest t is least some = absurd (omega (arith, some))
pair-front (lone ∷ []) [] t is least some = is
pair-front (lone ∷ []) (one ∷ more) t is least some = absurd (omega (arith, least))
pair-front (high ∷ (low ∷ [])) rest t is least some = ap (λ (l : List ℕ). l ++ tokens_of rest) is
pair-front (high ∷ (low ∷ (one ∷ more))) rest t is least some = absurd (omega (arith, least))

-- The token of the next pair is put behind those of the pairs passed.
pub decoded-next :
    {bytes words₀ words rest : List ℕ} {size i : ℕ} (pair more : List ℕ) (size' k next t : ℕ) → Decoded bytes words₀ size rest i words
    → size' ≡ size → rest ≡ pair ++ more → length pair ≡ min size (length rest) → 0 < length rest → k ≡ i → next ≡ i + 1 → tokens_of pair ≡ t ∷ []
    → Decoded bytes words₀ size' more next (set words k t)
decoded-next {bytes} {words₀} {words} {rest} {size} {i} pair more size' k next t d kept split least some here behind is =
    subst (λ (n : ℕ). Decoded bytes words₀ size' more n (set words k t)) (sym behind) (subst (λ (n : ℕ). Decoded bytes words₀ size' more (i + 1) (set words n t)) (sym here) put)
  where
    front : tokens_of rest ≡ t ∷ tokens_of more
    front =
        ap tokens_of split
        ∙ pair-front pair more t is (subst (λ (l : List ℕ). length pair ≡ min 2 (length l)) split (omega (arith, least, d.pairs))) (omega (arith, least, d.pairs, some))

    low : i < length words
    low = omega (arith, tokens-counted d, ap length front, (halves bytes).few, d.room, d.long)

    put : Decoded bytes words₀ size' more (i + 1) (set words i t)
    put = record {
      pairs = kept ∙ d.pairs;
      long = length-set words i t ∙ d.long;
      room = d.room;
      within = omega (arith, low, length-set words i t);
      same =
          ap (λ (l : List ℕ). l ++ tokens_of more) (one_put words i t low) ∙ append_assoc (take i words) (t ∷ []) (tokens_of more)
          ∙ ap (λ (l : List ℕ). take i words ++ l) (sym front)
          ∙ d.same;
    }

-- No byte is left: the words hold all tokens.
pub decoded-all :
    {bytes words₀ rest words : List ℕ} {size i : ℕ} (n : ℕ) → Decoded bytes words₀ size rest i words → length rest ≡ 0 → n ≡ div_ceil (length bytes) 2
    → take n words ≡ tokens_of bytes
unfolding tokens_of
decoded-all {bytes = bytes} {rest = []} {words = words} {i = i} n d none is =
    let all : n ≡ i = omega (arith, is, tokens-counted d, halves bytes) in
    ap (λ (k : ℕ). take k words) all ∙ sym (append-nil (take i words)) ∙ d.same
decoded-all {rest = one ∷ more} n d none is = absurd (omega (arith, none))
