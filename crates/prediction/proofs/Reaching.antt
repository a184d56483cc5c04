-- Chains of steps are what first symbols reach.
use mathlib.Core.Path.{◌≡◌, refl, sym, subst, ◌∙◌}
use mathlib.Core.List.{List, []}
use lib.Seq.{ext_get_or}
use Rattle.laws.proofs.Bits.{row_ext}
use Prim.Native.Nat.{ℕ, zero, suc, ◌<◌}
use native.Mathlib.Omega.{arith}
use Rattle.grammar.specs.Rules.{Grammar, rule_count}
use Rattle.grammar.specs.Accepted.{Accepted}
use Rattle.grammar.specs.inner.Decoded.{left_in, first_in, grammar_in}
use Rattle.grammar.specs.Prediction.{Reaches, Predicts, row_at}
use Rattle.grammar.specs.Prediction.Reaches.{here, by_first}
use Rattle.grammar.proofs.Reached.{reaches_trans}
use Rattle.grammar.proofs.Decoding.{in_count, in_left, in_first, in_says}
use Rattle.prediction.specs.inner.Tables.{Bit, Within, NotAbove, Step, Seeded, Chain, Closed, LowRows, Lone}
use Rattle.prediction.specs.inner.Tables.Step.{own, rule}
use Rattle.prediction.specs.inner.Tables.Chain.{link, join}
use Rattle.prediction.proofs.Cells.{steps_low}

module _ (words : List ℕ) (width n count : ℕ) (within : Within words n count) (seed : List (List ℕ)) (h : Seeded (left_in words) (first_in words) width n count seed) where
  -- Steps start at symbols.
  pub seed_low : LowRows n seed
  seed_low = steps_low (left_in words) (first_in words) width n count seed within.left h

  -- A symbol that is no left side leads to itself alone.
  pub seed_lone : (from : ℕ) → NotAbove words count from → Lone from seed
  seed_lone from low = record { alone = λ x y l b. by_step l (h.no_more x y b) }
    where
      by_step : {x y : ℕ} → x < from → Step (left_in words) (first_in words) n count x y → y ≡ x
      by_step l (own there) = refl
      by_step l (rule {r = r} there) = absurd (omega (arith, low.left r there))

  module _ (t : ℕ) where
    abbrev g : Grammar
    g = grammar_in words n t count

    -- A chain reaches.
    chain_reaches : {x y : ℕ} → Chain seed x y → Reaches g x y
    chain_reaches (link {x = x} {y = y} b) = step (h.no_more x y b)
      where
        step : {x y : ℕ} → Step (left_in words) (first_in words) n count x y → Reaches g x y
        step (own l) = here
        step (rule {r = r} l) = by_first {r = r} (in_says words n t count r l) here
    chain_reaches (join p q) = reaches_trans (chain_reaches p) (chain_reaches q)

    -- What is reached is reached by a chain.
    reaches_chain : {x y : ℕ} → Reaches g x y → x < n → Chain seed x y
    reaches_chain (here {x = x}) l = link (h.all x x (own l))
    reaches_chain (by_first {r = r} {a = a} {b = b} s p) l =
        join (link (subst (λ (z : ℕ). Bit seed z b) ea (subst (λ (z : ℕ). Bit seed (left_in words r) z) eb (h.all (left_in words r) (first_in words r) (rule there)))))
        (reaches_chain p (subst (λ (z : ℕ). z < n) eb (within.first r there)))
      where
        there : r < count
        there = subst (λ (k : ℕ). r < k) (in_count words n t count) s.there

        ea : left_in words r ≡ a
        ea = sym (in_left words n t count r there) ∙ s.left

        eb : first_in words r ≡ b
        eb = sym (in_first words n t count r there) ∙ s.first

    -- So the closed table of the steps predicts.
    pub predicts : (table : List (List ℕ)) → Closed width seed table → Predicts g width table
    predicts table c = record {
      rows = c.shape.rows;
      row = c.shape.row;
      below = λ x y b. start (c.no_more x y b);
      reached = λ x y b. chain_reaches (c.no_more x y b);
      all = λ x y l p. c.all x y (reaches_chain p l);
    }
      where
        start : {x y : ℕ} → Chain seed x y → x < n
        start (link {x = x} {y = y} b) = seed_low.low x y b
        start (join p q) = start p

-- An accepted grammar's left sides and first symbols are symbols.
pub accepted-within : (words : List ℕ) (n t count : ℕ) → Accepted (grammar_in words n t count) → Within words n count
accepted-within words n t count h = record {
  few = h.few_symbols;
  left = left;
  first = first-low;
}
  where
    there : (r : ℕ) → r < count → r < rule_count (grammar_in words n t count)
    there r l = subst (λ (k : ℕ). r < k) (sym (in_count words n t count)) l

    left : (r : ℕ) → r < count → left_in words r < n
    left zero l = omega (arith, sym (in_left words n t count 0 l) ∙ h.wraps.left, h.room)
    left (suc r) l = omega (arith, in_left words n t count (suc r) l, (h.lefts (suc r) (omega arith) (there (suc r) l)).no_wrapper)

    first-low : (r : ℕ) → r < count → first_in words r < n
    first-low zero l = omega (arith, in_first words n t count 0 l, h.starts.no_wrapper)
    first-low (suc r) l = omega (arith, in_first words n t count (suc r) l, h.firsts (suc r) (omega arith) (there (suc r) l))

-- Two tables that predict the same grammar are equal.
pub predicts_unique : (g : Grammar) (width : ℕ) (a b : List (List ℕ)) → Predicts g width a → Predicts g width b → a ≡ b
predicts_unique g width a b p q =
    ext_get_or [] a b (p.rows ∙ sym q.rows)
    (λ x l. row_ext width (row_at a x) (row_at b x) (p.row x (omega (arith, p.rows))) (q.row x (omega (arith, p.rows)))
    (λ y h. q.all x y (p.below x y h) (p.reached x y h))
    (λ y h. p.all x y (q.below x y h) (q.reached x y h)))
