-- A table with one row changed: what it tells then. And the table of the steps as it is filled. Over any width that has a bit for each symbol.
use mathlib.Core.Path.{◌≡◌, refl, sym, ap, subst, ◌∙◌}
use mathlib.Core.Logic.{◌⊎◌, inl, inr, ⊎_elim}
use mathlib.Core.List.{List, []}
use Prim.Native.Nat.{ℕ, ◌+◌, ◌*◌, ◌/◌, ◌^◌, ◌≤◌, ◌<◌}
use native.Mathlib.Decide.{ℕ_discrete, dec_lt}
use native.Mathlib.Omega.{arith}
use lib.ListN.{length, set, replicate, length-set, length-replicate, get_or-replicate, get_or-eq_default}
use lib.Seq.{get_or-set_same, get_or-set_other}
use lib.Pow.{pow_pos}
use Rattle.laws.proofs.Lists.{zeros_word}
use Rattle.laws.specs.Bits.{word_bits, Holds, Row, adding, union}
use Rattle.laws.proofs.Bits.{adding-new, adding-kept, adding_one, adding-row, union_left, union_right, union_one, union-row, zeros_hold}
use Rattle.grammar.specs.Accepted.{max_symbols}
use Rattle.grammar.specs.Prediction.{row_at}
use Rattle.prediction.specs.inner.Tables.{Bit, Shape, Tells, Step, Seeded, LowRows}
use Rattle.prediction.specs.inner.Tables.Step.{own, rule}

module _ (table : List (List ℕ)) (i : ℕ) (row : List ℕ) where
  -- Another row `i`: that row is there, and every other row is kept.
  pub row_new : i < length table → row_at (set table i row) i ≡ row
  row_new l = get_or-set_same table i row [] l

  pub row_kept : (x : ℕ) → (x ≡ i → ⊥) → row_at (set table i row) x ≡ row_at table x
  row_kept x n = get_or-set_other table i x row [] n

  -- The shape is kept.
  pub shape-kept : (width : ℕ) → Shape width table → Row width row → Shape width (set table i row)
  shape-kept width h r = record {
    rows = length-set table i row ∙ h.rows;
    row = λ x l. elim (ℕ_discrete x i) [
      | yes e ↦ subst (Row width) (sym (ap (row_at (set table i row)) e ∙ row_new (omega (arith, h.rows)))) r
      | no n ↦ subst (Row width) (sym (row_kept x n)) (h.row x l)
    ];
  }

-- A table of one relation is a table of each that holds of the same pairs.
pub tells_as : {width : ℕ} {R S : ℕ → ℕ → Type 0} {table : List (List ℕ)} → ((x y : ℕ) → R x y → S x y) → ((x y : ℕ) → S x y → R x y) → Tells width R table
    → Tells width S table
tells_as to from h = record { shape = h.shape; no_more = λ x y b. to x y (h.no_more x y b); all = λ x y s. h.all x y (from x y s) }

-- Row `i` becomes `row`, which holds what it held and `N`: the table tells `S`, which holds where `R` did and of `i` and `N`.
module _ {width : ℕ} {R S : ℕ → ℕ → Type 0} {table : List (List ℕ)} (h : Tells width R table) {i : ℕ} (low : i < max_symbols) where
  grown : (N : ℕ → Type 0) (row : List ℕ) → Row width row → ((y : ℕ) → Holds row y → N y ⊎ Bit table i y) → ((y : ℕ) → Bit table i y → Holds row y)
      → ((y : ℕ) → N y → Holds row y) → ((x y : ℕ) → R x y → S x y) → ((y : ℕ) → N y → S i y) → ((x y : ℕ) → S x y → ((x ≡ i) × N y) ⊎ R x y)
      → Tells width S (set table i row)
  grown N row wide either old new kept more split = record {
    shape = shape-kept table i row width h.shape wide;
    no_more = λ x y b. elim (ℕ_discrete x i) [
      | yes e ↦ subst (λ (k : ℕ). S k y) (sym e)
          (⊎_elim (more y) (λ (o : Bit table i y). kept i y (h.no_more i y o)) (either y (subst (λ (r : List ℕ). Holds r y) (ap (row_at (set table i row)) e ∙ there) b)))
      | no n ↦ kept x y (h.no_more x y (subst (λ (r : List ℕ). Holds r y) (row_kept table i row x n) b))
    ];
    all = λ x y s. ⊎_elim (λ (p : (x ≡ i) × N y). at x y p.0 (new y p.1)) (λ (p : R x y). stays x y (h.all x y p)) (split x y s);
  }
    where
      there : row_at (set table i row) i ≡ row
      there = row_new table i row (omega (arith, h.shape.rows))

      at : (x y : ℕ) → x ≡ i → Holds row y → Bit (set table i row) x y
      at x y e b = subst (λ (r : List ℕ). Holds r y) (sym (ap (row_at (set table i row)) e ∙ there)) b

      stays : (x y : ℕ) → Bit table x y → Bit (set table i row) x y
      stays x y b = elim (ℕ_discrete x i) [
        | yes e ↦ at x y e (old y (subst (λ (k : ℕ). Bit table k y) e b))
        | no n ↦ subst (λ (r : List ℕ). Holds r y) (sym (row_kept table i row x n)) b
      ]

  -- One bit more.
  pub tells_added : (s : ℕ) (row : List ℕ) → s < word_bits * width → row ≡ adding (row_at table i) s → ((x y : ℕ) → R x y → S x y) → S i s
      → ((x y : ℕ) → S x y → ((x ≡ i) × (y ≡ s)) ⊎ R x y) → Tells width S (set table i row)
  tells_added s row l is kept more split = subst (λ (r : List ℕ). Tells width S (set table i r)) (sym is)
      (grown (λ y. y ≡ s) (adding (row_at table i) s) (adding-row width (row_at table i) s (h.shape.row i low)) (λ y. adding_one (row_at table i) s y word)
      (λ y. adding-kept (row_at table i) s y word) (λ y e. subst (Holds (adding (row_at table i) s)) (sym e) (adding-new (row_at table i) s word)) kept
      (λ y e. subst (S i) (sym e) more) split)
    where
      word : s / word_bits < length (row_at table i)
      word = omega (arith, (h.shape.row i low).width_is)

  -- Another row joined.
  pub tells-joined : (other row : List ℕ) → Row width other → row ≡ union (row_at table i) other → ((x y : ℕ) → R x y → S x y) → ((y : ℕ) → Holds other y → S i y)
      → ((x y : ℕ) → S x y → ((x ≡ i) × Holds other y) ⊎ R x y) → Tells width S (set table i row)
  tells-joined other row wide is kept more split = subst (λ (r : List ℕ). Tells width S (set table i r)) (sym is)
      (grown (Holds other) (union (row_at table i) other) (union-row width (row_at table i) other (h.shape.row i low) wide)
      (λ y b. ⊎_elim (λ (o : Bit table i y). inr o) (λ (n : Holds other y). inl n) (union_one (row_at table i) other y b))
      (union_left (row_at table i) other) (union_right (row_at table i) other) kept more split)

-- The empty table.
module _ (width : ℕ) where
  abbrev pub empty : List (List ℕ)
  empty = replicate max_symbols (replicate width 0)

  empty-row : (x : ℕ) → x < max_symbols → row_at empty x ≡ replicate width 0
  empty-row x l = get_or-replicate max_symbols x (replicate width 0) [] l

  empty-shape : Shape width empty
  empty-shape = record {
    rows = length-replicate {A = List ℕ} max_symbols (replicate width 0);
    row = λ x l. subst (Row width) (sym (empty-row x l)) (record {
      width_is = length-replicate {A = ℕ} width 0;
      fits = λ i. subst (λ (w : ℕ). w < 2 ^ word_bits) (sym (zeros_word width i)) (pow_pos word_bits);
    });
  }

  empty_holds : (x y : ℕ) → Bit empty x y → ⊥
  empty_holds x y b = elim (dec_lt x max_symbols) [
    | yes l ↦ zeros_hold (replicate width 0) y (zeros_word width) (subst (λ (r : List ℕ). Holds r y) (empty-row x l) b)
    | no g ↦ zeros_hold [] y (λ i. refl) (subst (λ (r : List ℕ). Holds r y) (get_or-eq_default empty [] {n = x} (past g)) b)
  ]
    where
      past : (x < max_symbols → ⊥) → length empty ≤ x
      past g = omega (arith, length-replicate {A = List ℕ} max_symbols (replicate width 0))

  -- It tells what holds of nothing.
  pub tells_none : (R : ℕ → ℕ → Type 0) → ((x y : ℕ) → R x y → ⊥) → Tells width R empty
  tells_none R none = record { shape = empty-shape; no_more = λ x y b. absurd (empty_holds x y b); all = λ x y p. absurd (none x y p) }

-- The steps one after the other.
module _ (from to : ℕ → ℕ) (width : ℕ) where
  pub seeded_none : Seeded from to width 0 0 (empty width)
  seeded_none = tells_none width (Step from to 0 0) (λ x y s. none s)
    where
      none : {x y : ℕ} → Step from to 0 0 x y → ⊥
      none (own l) = omega arith
      none (rule l) = omega arith

  -- One symbol more in its own row,
  pub seeded-own : (n : ℕ) (table : List (List ℕ)) (row : List ℕ) → max_symbols ≤ word_bits * width → row ≡ adding (row_at table n) n → Seeded from to width n 0 table
      → n < max_symbols → Seeded from to width (n + 1) 0 (set table n row)
  seeded-own n table row room is h l = tells_added h l n row (omega arith) is (λ x y s. more s) (own {x = n} (omega arith)) (λ x y s. split s)
    where
      more : {x y : ℕ} → Step from to n 0 x y → Step from to (n + 1) 0 x y
      more (own {x = x} m) = own {x = x} (omega arith)
      more (rule m) = absurd (omega arith)

      split : {x y : ℕ} → Step from to (n + 1) 0 x y → ((x ≡ n) × (y ≡ n)) ⊎ Step from to n 0 x y
      split (own {x = x} m) = elim (ℕ_discrete x n) [ yes e ↦ inl (e, e) | no k ↦ inr (own {x = x} (omega arith)) ]
      split (rule m) = absurd (omega arith)

  -- and one rule more.
  pub seeded-rule : (n r a b : ℕ) (table : List (List ℕ)) (row : List ℕ) → max_symbols ≤ word_bits * width → row ≡ adding (row_at table a) b → Seeded from to width n r table
      → a ≡ from r → b ≡ to r → a < max_symbols → b < max_symbols → Seeded from to width n (r + 1) (set table a row)
  seeded-rule n r a b table row room is h ea eb la lb =
      tells_added h la b row (omega arith) is (λ x y s. more s) here (λ x y s. split s)
    where
      here : Step from to n (r + 1) a b
      here = subst (λ (k : ℕ). Step from to n (r + 1) a k) (sym eb) (subst (λ (k : ℕ). Step from to n (r + 1) k (to r)) (sym ea) (rule {r = r} (omega arith)))

      more : {x y : ℕ} → Step from to n r x y → Step from to n (r + 1) x y
      more (own m) = own m
      more (rule {r = q} m) = rule {r = q} (omega arith)

      split : {x y : ℕ} → Step from to n (r + 1) x y → ((x ≡ a) × (y ≡ b)) ⊎ Step from to n r x y
      split (own m) = inr (own m)
      split (rule {r = q} m) = elim (ℕ_discrete q r) [ yes e ↦ inl (ap from e ∙ sym ea, ap to e ∙ sym eb) | no k ↦ inr (rule {r = q} (omega arith)) ]

  -- The same at an equal number of symbols and of rules.
  pub seeded_at : (n m r s : ℕ) (table : List (List ℕ)) → Seeded from to width n r table → n ≡ m → r ≡ s → Seeded from to width m s table
  seeded_at n m r s table h en er =
      subst (λ (k : ℕ). Seeded from to width k s table) en (subst (λ (k : ℕ). Seeded from to width n k table) er h)

  -- Steps start at symbols where the rules' do.
  pub steps_low : (n count : ℕ) (table : List (List ℕ)) → ((r : ℕ) → r < count → from r < n) → Seeded from to width n count table → LowRows n table
  steps_low n count table low h = record { low = λ x y b. start (h.no_more x y b) }
    where
      start : {x y : ℕ} → Step from to n count x y → x < n
      start (own l) = l
      start (rule {r = r} l) = low r l
