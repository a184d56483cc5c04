-- Prediction tables of small grammars, computed: the symbols of a row stand in one word.
use mathlib.Core.Path.{◌≡◌, refl, sym, ap, ◌∙◌, subst}
use mathlib.Core.Bool.{Bool, true, false, ◌||◌}
use mathlib.Core.Logic.{⊎_elim}
use mathlib.Core.List.{List, [], ◌∷◌, ◌++◌}
use Prim.Native.Nat.{ℕ, zero, suc, ◌+◌, ◌-◌, ◌/◌, ◌%◌, ◌^◌, ◌<◌}
use native.Mathlib.Decide.{dec_lt}
use native.Mathlib.Nat.{div-eq_of_lt}
use native.Mathlib.Omega.{arith}
use lib.ListN.{length, get_or, replicate, length-append, length-replicate, get_or-replicate, get_or-append, get_or-eq_default}
use lib.Seq.{get_or-append-add}
use lib.Pow.{pow_mono, pow_pos}
use lib.Dec.{eqb, ltb}
use borrow.Author.Tests.{ltb-true, eqb-true, eq-eqb}
use Rattle.laws.specs.Bits.{word_bits, bit, bit_at, Holds}
use Rattle.laws.proofs.Bits.{bit-zero}
use Rattle.bits.specs.Width.{row_words}
use Rattle.grammar.specs.Rules.{Grammar, rule_count, rule_at}
use Rattle.grammar.specs.Accepted.{Accepted, max_symbols}
use Rattle.grammar.specs.Prediction.{Reaches, Predicts, row_at}
use Rattle.grammar.specs.Prediction.Reaches.{here, by_first}
use Rattle.grammar.proofs.Facts.{wrapper-first}
use Rattle.parse.specs.Words.{padded}
use Rattle.laws.proofs.Lists.{zeros_word}
use Rattle.parse.proofs.Padded.{padded-word, padded-length}
use Rattle.demands.proofs.Computed.{every, some, every_at, found, guarded, one_true, implies, implied}

-- A row for each word, and rows of 0 for the symbols behind.
unfoldable pub rows_of : List ℕ → List (List ℕ)
rows_of [] = []
rows_of (c ∷ cs) = padded row_words (c ∷ []) ∷ rows_of cs

-- The same rows as words, one behind the other.
abbrev pub word_rows : List ℕ → List ℕ
word_rows [] = []
word_rows (c ∷ cs) = padded row_words (c ∷ []) ++ word_rows cs

abbrev pub no_row : List ℕ
no_row = replicate row_words 0

abbrev pub table_of : List ℕ → List (List ℕ)
table_of words = rows_of words ++ replicate (max_symbols - length words) no_row

rows-length : (cs : List ℕ) → length (rows_of cs) ≡ length cs
unfolding rows_of
rows-length [] = refl
rows-length (c ∷ cs) = ap suc (rows-length cs)

rows_at : (cs : List ℕ) (x : ℕ) → x < length cs → get_or (rows_of cs) x [] ≡ padded row_words (get_or cs x 0 ∷ [])
unfolding rows_of
rows_at [] x l = absurd (omega arith)
rows_at (c ∷ cs) zero l = refl
rows_at (c ∷ cs) (suc x) l = rows_at cs x (omega arith)

zero-rows : (n j i : ℕ) → ◌≡◌ {A = ℕ} (get_or (get_or (replicate n no_row) j []) i 0) 0
zero-rows zero j i = refl
zero-rows (suc n) zero i = zeros_word row_words i
zero-rows (suc n) (suc j) i = zero-rows n j i

module _ (words : List ℕ) where
  -- A row's first word is the word of its symbols, and the others are 0.
  row_words_lem : (x i : ℕ) → get_or (row_at (table_of words) x) i 0 ≡ get_or (get_or words x 0 ∷ []) i 0
  row_words_lem x i = elim (dec_lt x (length words)) [
    | yes l ↦
        ap (λ (row : List ℕ). get_or row i 0)
        (get_or-append (rows_of words) (replicate (max_symbols - length words) no_row) [] x (omega (arith, rows-length words)) ∙ rows_at words x l)
        ∙ padded-word row_words (get_or words x 0 ∷ []) i
    | no n ↦
        let at : x ≡ length (rows_of words) + (x - length words) = omega (arith, rows-length words) in
        ap (λ (k : ℕ). get_or (row_at (table_of words) k) i 0) at
        ∙ ap (λ (row : List ℕ). get_or row i 0) (get_or-append-add (rows_of words) (replicate (max_symbols - length words) no_row) (x - length words) [])
        ∙ zero-rows (max_symbols - length words) (x - length words) i
        ∙ sym (nothing i)
        ∙ ap (λ (c : ℕ). get_or (c ∷ []) i 0) (sym (get_or-eq_default words 0 {n = x} (omega arith)))
  ]
    where
      nothing : (i : ℕ) → ◌≡◌ {A = ℕ} (get_or (0 ∷ []) i 0) 0
      nothing zero = refl
      nothing (suc i) = refl

  -- So a row holds the symbols of its word.
  pub held-bit : (x y : ℕ) → Holds (row_at (table_of words) x) y → (y < word_bits) × (bit (get_or words x 0) y ≡ 1)
  held-bit x y h = elim (dec_lt y word_bits) [
    | yes l ↦ (l, sym (word l) ∙ h.is_set)
    | no n ↦ absurd (omega (arith, h.is_set, beyond (y / word_bits - 1) (omega arith)))
  ]
    where
      first : y < word_bits → y / word_bits ≡ 0
      first l = omega arith

      rest : y < word_bits → y % word_bits ≡ y
      rest l = omega arith

      word : y < word_bits → bit_at (row_at (table_of words) x) y ≡ bit (get_or words x 0) y
      word l =
          ap (λ (c : ℕ). bit c (y % word_bits)) (row_words_lem x (y / word_bits) ∙ ap (λ (i : ℕ). get_or (get_or words x 0 ∷ []) i 0) (first l))
          ∙ ap (bit (get_or words x 0)) (rest l)

      beyond : (k : ℕ) → y / word_bits ≡ suc k → bit_at (row_at (table_of words) x) y ≡ 0
      beyond k e =
          ap (λ (c : ℕ). bit c (y % word_bits)) (row_words_lem x (y / word_bits) ∙ ap (λ (i : ℕ). get_or (get_or words x 0 ∷ []) i 0) e) ∙ bit-zero (y % word_bits)

  pub bit-held : (x y : ℕ) → y < word_bits → bit (get_or words x 0) y ≡ 1 → Holds (row_at (table_of words) x) y
  bit-held x y l e =
      let first : y / word_bits ≡ 0 = omega arith in
      let rest : y % word_bits ≡ y = omega arith in
      record {
        is_set =
            ap (λ (c : ℕ). bit c (y % word_bits)) (row_words_lem x (y / word_bits) ∙ ap (λ (i : ℕ). get_or (get_or words x 0 ∷ []) i 0) first)
            ∙ ap (bit (get_or words x 0)) rest ∙ e;
      }

module _ (g : Grammar) where
  -- `y` is `x`, or is reached from it by `depth` first symbols at the most.
  unfoldable pub leads : ℕ → ℕ → ℕ → Bool
  leads zero x y = eqb x y
  leads (suc depth) x y =
      eqb x y || some (rule_count g) (λ r. elim (eqb (rule_at g r).left x) [ true ↦ leads depth (rule_at g r).first y | false ↦ false ])

  itself : (x y : ℕ) → eqb x y ≡ true → Reaches g x y
  itself x y e = subst (Reaches g x) (eqb-true x y e) here

  leads_reaches : (depth x y : ℕ) → leads depth x y ≡ true → Reaches g x y
  unfolding leads
  leads_reaches zero x y e = itself x y e
  leads_reaches (suc depth) x y e =
      ⊎_elim (itself x y)
      (λ (h : some (rule_count g) _ ≡ true).
      let f = found (rule_count g) _ h in
      by_rule f.number f.low (guarded (eqb (rule_at g f.number).left x) _ f.passes) (λ e'. leads_reaches depth (rule_at g f.number).first y e'))
      (one_true (eqb x y) _ e)
    where
      by_rule : (r : ℕ) → r < rule_count g → (eqb (rule_at g r).left x ≡ true) × (leads depth (rule_at g r).first y ≡ true)
          → (leads depth (rule_at g r).first y ≡ true → Reaches g (rule_at g r).first y) → Reaches g x y
      by_rule r l h on = by_first {r = r} (record { there = l; left = eqb-true (rule_at g r).left x h.0; first = refl; second = refl }) (on h.1)

  module _ (words : List ℕ) where
    abbrev has : ℕ → ℕ → Bool
    has x y = eqb (bit (get_or words x 0) y) 1

    -- The tests that the words are those of the table.
    pub record Tabulates : Type 0 where
      pub wide : length words ≡ g.symbols
      pub small : ltb g.symbols word_bits ≡ true
      pub low : every g.symbols (λ x. ltb (get_or words x 0) (2 ^ g.symbols)) ≡ true
      pub own : every g.symbols (λ x. has x x) ≡ true
      pub led : every g.symbols (λ x. every g.symbols (λ y. implies (has x y) (leads g.symbols x y))) ≡ true
      pub closed : every (rule_count g) (λ r. every g.symbols (λ y. implies (has (rule_at g r).first y) (has (rule_at g r).left y))) ≡ true

    module _ (accepted : Accepted g) (t : Tabulates) where
      few : g.symbols < word_bits
      few = ltb-true g.symbols word_bits t.small

      word_low : (x : ℕ) → x < g.symbols → get_or words x 0 < 2 ^ g.symbols
      word_low x l = ltb-true (get_or words x 0) (2 ^ g.symbols) (every_at g.symbols (λ x. ltb (get_or words x 0) (2 ^ g.symbols)) t.low x l)

      -- A row that holds something is a symbol's, and it holds symbols.
      row-symbol : (x y : ℕ) → bit (get_or words x 0) y ≡ 1 → x < g.symbols
      row-symbol x y e = elim (dec_lt x g.symbols) [
        | yes l ↦ l
        | no n ↦ absurd (omega (arith, e, ap (λ (c : ℕ). bit c y) (get_or-eq_default words 0 {n = x} (omega (arith, t.wide))) ∙ bit-zero y))
      ]

      bit-symbol : (x y : ℕ) → bit (get_or words x 0) y ≡ 1 → y < g.symbols
      bit-symbol x y e = elim (dec_lt y g.symbols) [
        | yes l ↦ l
        | no n ↦
            let above : get_or words x 0 < 2 ^ y = omega (arith, word_low x (row-symbol x y e), pow_mono {i = g.symbols} {j = y} (omega arith)) in
            absurd (omega (arith, e, ap (λ (c : ℕ). c % 2) (div-eq_of_lt above)))
      ]

      held : (x y : ℕ) → Reaches g x y → x < g.symbols → bit (get_or words x 0) y ≡ 1
      held x y here l = eqb-true (bit (get_or words x 0) x) 1 (every_at g.symbols (λ x. has x x) t.own x l)
      held x y (by_first {r = r} {b = b} s p) l =
          let low : b < g.symbols = omega (arith, wrapper-first g accepted r s.there, s.first) in
          step r s.there s.left s.first (held b y p low)
        where
          step : (r : ℕ) → r < rule_count g → {b : ℕ} → (rule_at g r).left ≡ x → (rule_at g r).first ≡ b → bit (get_or words b 0) y ≡ 1 → bit (get_or words x 0) y ≡ 1
          step r there {b} left first e =
              subst (λ (k : ℕ). bit (get_or words k 0) y ≡ 1) left
              (eqb-true (bit (get_or words (rule_at g r).left 0) y) 1
              (implied (has (rule_at g r).first y) (has (rule_at g r).left y)
              (every_at g.symbols (λ y. implies (has (rule_at g r).first y) (has (rule_at g r).left y))
              (every_at (rule_count g) (λ r. every g.symbols (λ y. implies (has (rule_at g r).first y) (has (rule_at g r).left y))) t.closed r there) y (bit-symbol b y e))
              (eq-eqb (bit (get_or words (rule_at g r).first 0) y) 1 (subst (λ (k : ℕ). bit (get_or words k 0) y ≡ 1) (sym first) e))))

      row_wide : (x : ℕ) → x < max_symbols → length (row_at (table_of words) x) ≡ row_words
      row_wide x l = elim (dec_lt x (length words)) [
        | yes m ↦
            ap length (get_or-append (rows_of words) (replicate (max_symbols - length words) no_row) [] x (omega (arith, rows-length words)) ∙ rows_at words x m)
            ∙ padded-length row_words (get_or words x 0 ∷ []) (omega arith)
        | no n ↦
            let at : x ≡ length (rows_of words) + (x - length words) = omega (arith, rows-length words) in
            ap (λ (k : ℕ). length (row_at (table_of words) k)) at
            ∙ ap length (get_or-append-add (rows_of words) (replicate (max_symbols - length words) no_row) (x - length words) []
            ∙ get_or-replicate (max_symbols - length words) (x - length words) no_row [] (omega arith))
      ]

      row_fits : (x i : ℕ) → get_or (row_at (table_of words) x) i 0 < 2 ^ word_bits
      row_fits x i = omega (arith, row_words_lem words x i, word_fits i)
        where
          word_fits : (i : ℕ) → get_or (get_or words x 0 ∷ []) i 0 < 2 ^ word_bits
          word_fits zero = elim (dec_lt x g.symbols) [
            | yes l ↦ omega (arith, word_low x l, pow_mono {i = g.symbols} {j = word_bits} (omega (arith, few)))
            | no n ↦ omega (arith, get_or-eq_default words 0 {n = x} (omega (arith, t.wide)), pow_pos word_bits)
          ]
          word_fits (suc i) = pow_pos word_bits

      -- THE TABLE PREDICTS.
      pub tabulates_predicts : Predicts g row_words (table_of words)
      tabulates_predicts = record {
        rows =
            length-append (rows_of words) (replicate (max_symbols - length words) no_row)
            ∙ omega (arith, rows-length words, length-replicate (max_symbols - length words) no_row, t.wide, accepted.few_symbols);
        row = λ x l. record { width_is = row_wide x l; fits = row_fits x };
        below = λ x y h. row-symbol x y (held-bit words x y h).1;
        reached = λ x y h.
            let e : bit (get_or words x 0) y ≡ 1 = (held-bit words x y h).1 in
            leads_reaches g.symbols x y
            (implied (has x y) (leads g.symbols x y)
            (every_at g.symbols (λ y. implies (has x y) (leads g.symbols x y))
            (every_at g.symbols (λ x. every g.symbols (λ y. implies (has x y) (leads g.symbols x y))) t.led x (row-symbol x y e)) y (bit-symbol x y e))
            (eq-eqb (bit (get_or words x 0) y) 1 e));
        all = λ x y l p.
            let e : bit (get_or words x 0) y ≡ 1 = held x y p l in
            bit-held words x y (omega (arith, bit-symbol x y e, few)) e;
      }
