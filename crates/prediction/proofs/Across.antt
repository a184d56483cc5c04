-- What stands beside each symbol, rule by rule; and what two tables make, row by row and symbol by symbol. Over any width.
use mathlib.Core.Path.{◌≡◌, refl, sym, ap, subst, ◌∙◌}
use mathlib.Core.Logic.{◌⊎◌, inl, inr, ⊎_elim}
use mathlib.Core.List.{List}
use Prim.Native.Nat.{ℕ, ◌+◌, ◌≤◌, ◌<◌}
use native.Mathlib.Decide.{ℕ_discrete, dec_lt}
use native.Mathlib.Omega.{arith}
use lib.ListN.{set}
use Rattle.laws.specs.Bits.{Row, union}
use Rattle.grammar.specs.Rules.{none}
use Rattle.grammar.specs.Accepted.{max_symbols}
use Rattle.grammar.specs.Prediction.{row_at}
use Rattle.grammar.specs.inner.Decoded.{first_in, second_in}
use Rattle.prediction.specs.inner.Tables.{Bit, Tells, Beside, Across}
use Rattle.prediction.specs.inner.Tables.Beside.{beside}
use Rattle.prediction.proofs.Cells.{empty, tells_as, tells_none, tells-joined}

-- Of the rules passed.
module _ (words : List ℕ) (begins : List (List ℕ)) (width : ℕ) where
  pub beside_none : Tells width (Beside words begins 0) (empty width)
  beside_none = tells_none width (Beside words begins 0) (λ x y b. none_there b)
    where
      none_there : {x y : ℕ} → Beside words begins 0 x y → ⊥
      none_there (beside l n b) = omega arith

  beside-more : {r x y : ℕ} → Beside words begins r x y → Beside words begins (r + 1) x y
  beside-more (beside {r = q} l n b) = beside {r = q} (omega arith) n b

  -- A rule of one symbol has nothing beside it.
  pub beside_passed : (r : ℕ) (table : List (List ℕ)) → second_in words r ≡ none → Tells width (Beside words begins r) table → Tells width (Beside words begins (r + 1)) table
  beside_passed r table alone h = tells_as (λ x y b. beside-more b) (λ x y b. back b) h
    where
      back : {x y : ℕ} → Beside words begins (r + 1) x y → Beside words begins r x y
      back (beside {r = q} l n b) = elim (ℕ_discrete q r) [ yes e ↦ absurd (n (ap (second_in words) e ∙ alone)) | no k ↦ beside {r = q} (omega arith) n b ]

  -- Of another rule the first symbol takes in what the second begins with.
  pub beside-joined : (r a c : ℕ) (table : List (List ℕ)) (row : List ℕ) → a ≡ first_in words r → c ≡ second_in words r → (c ≡ none → ⊥) → a < max_symbols
      → Row width (row_at begins c) → row ≡ union (row_at table a) (row_at begins c) → Tells width (Beside words begins r) table
      → Tells width (Beside words begins (r + 1)) (set table a row)
  beside-joined r a c table row ea ec two low wide is h =
      tells-joined h low (row_at begins c) row wide is (λ x y b. beside-more b) here (λ x y b. split b)
    where
      here : (y : ℕ) → Bit begins c y → Beside words begins (r + 1) a y
      here y b =
          subst (λ (k : ℕ). Beside words begins (r + 1) k y) (sym ea)
          (beside {r = r} (omega arith) (λ e. two (ec ∙ e)) (subst (λ (k : ℕ). Bit begins k y) ec b))

      split : {x y : ℕ} → Beside words begins (r + 1) x y → ((x ≡ a) × Bit begins c y) ⊎ Beside words begins r x y
      split (beside {r = q} {y = y} l n b) = elim (ℕ_discrete q r) [
        | yes e ↦ inl (ap (first_in words) e ∙ sym ea, subst (λ (k : ℕ). Bit begins k y) (ap (second_in words) e ∙ sym ec) b)
        | no k ↦ inr (beside {r = q} (omega arith) n b)
      ]

-- Across two tables, as far as the rows below `i` lead, and row `i` by symbols below `m`.
pub record Passed (to on : List (List ℕ)) (n i m x y : ℕ) : Type 0 where
  pub across : Across to on n x y
  pub done : (x < i) ⊎ ((x ≡ i) × (across.middle < m))

module _ (to on : List (List ℕ)) (width n : ℕ) where
  -- Before the first row.
  pub across_none : Tells width (Passed to on n 0 0) (empty width)
  across_none = tells_none width (Passed to on n 0 0) (λ x y p. ⊎_elim (λ l. omega arith) (λ l. let m = l.1 in omega arith) p.done)

  later : {i m x y : ℕ} → Passed to on n i m x y → Passed to on n i (m + 1) x y
  later p = record { across = p.across; done = ⊎_elim (λ l. inl l) (λ l. let m = l.1 in inr (l.0, omega arith)) p.done }

  -- What is passed with symbol `m` is passed before it, or goes by it.
  by_middle : {i m x y : ℕ} → Passed to on n i (m + 1) x y → ((x ≡ i) × (Bit to i m × Bit on m y)) ⊎ Passed to on n i m x y
  by_middle {i} {m} {x} {y} p = ⊎_elim (λ l. inr (record { across = p.across; done = inl l })) at p.done
    where
      at : (x ≡ i) × (p.across.middle < m + 1) → ((x ≡ i) × (Bit to i m × Bit on m y)) ⊎ Passed to on n i m x y
      at l = elim (ℕ_discrete p.across.middle m) [
        | yes e ↦ inl (l.0, (subst (λ (k : ℕ). Bit to k m) l.0 (subst (Bit to x) e p.across.first), subst (λ (k : ℕ). Bit on k y) e p.across.second))
        | no k ↦ inr (record { across = p.across; done = inr (l.0, (let b = l.1 in omega arith)) })
      ]

  -- A symbol that the row lacks is passed,
  pub across_passed : (i m : ℕ) (table : List (List ℕ)) → (Bit to i m → ⊥) → Tells width (Passed to on n i m) table → Tells width (Passed to on n i (m + 1)) table
  across_passed i m table lacks h = tells_as (λ x y p. later p) (λ x y p. ⊎_elim (λ (w : (x ≡ i) × (Bit to i m × Bit on m y)). absurd (lacks w.1.0)) (λ o. o) (by_middle p)) h

  -- and of one that it holds, the row takes in what that one leads to.
  pub across_joined : (i m : ℕ) (table : List (List ℕ)) (row : List ℕ) → Bit to i m → i < n → m < n → n ≤ max_symbols → Row width (row_at on m)
      → row ≡ union (row_at table i) (row_at on m) → Tells width (Passed to on n i m) table → Tells width (Passed to on n i (m + 1)) (set table i row)
  across_joined i m table row holds li lm few wide is h =
      tells-joined h (omega arith) (row_at on m) row wide is (λ x y p. later p)
      (λ y b. record { across = record { low = li; middle = m; middle_low = lm; first = holds; second = b }; done = inr (refl, omega arith) })
      (λ x y p. ⊎_elim (λ (w : (x ≡ i) × (Bit to i m × Bit on m y)). inl (w.0, w.1.1)) (λ o. inr o) (by_middle p))

  -- A row ends,
  pub across_row : (i m : ℕ) (table : List (List ℕ)) → n ≤ m → Tells width (Passed to on n i m) table → Tells width (Passed to on n (i + 1) 0) table
  across_row i m table l h = tells_as
      (λ x y p. record { across = p.across; done = inl (⊎_elim (λ (k : x < i). before x k) (λ (e : (x ≡ i) × (p.across.middle < m)). at x e.0) p.done) })
      (λ x y p. record { across = p.across; done = ⊎_elim (λ (k : x < i + 1). within x p k) (λ (e : (x ≡ i + 1) × (p.across.middle < 0)). absurd (let b = e.1 in omega arith)) p.done })
      h
    where
      before : (x : ℕ) → x < i → x < i + 1
      before x k = omega arith

      at : (x : ℕ) → x ≡ i → x < i + 1
      at x e = omega arith

      within : (x : ℕ) {y : ℕ} (p : Passed to on n (i + 1) 0 x y) → x < i + 1 → (x < i) ⊎ ((x ≡ i) × (p.across.middle < m))
      within x p k = elim (dec_lt x i) [ yes b ↦ inl b | no b ↦ inr (omega arith, (let c = p.across.middle_low in omega arith)) ]
