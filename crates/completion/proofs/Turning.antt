-- The two loops of step 3: when they go on, and what popping leaves.
use Rattle.std.proofs.Common.{◌≡◌, refl, sym, ap, ◌∙◌, Bool, true, false, ◌&&◌, not, ◌||◌, List, ℕ, ◌<◌, arith, eqb, eqb-true, eq-eqb, ne_eqb}
use borrow.Author.Tests.{eqb-false}
use Rattle.laws.proofs.Turns.{until-keeps}
use Rattle.grammar.specs.Rules.{Rule}
use Rattle.parse.specs.WellFormed.{left_of}
use Rattle.binary_heap.specs.Sift.{entry_at}
use Rattle.node.specs.declared.Node.TheVariants.{Sum}
use Rattle.completion.specs.Pass.{Pass, append}
use Rattle.completion.specs.Sums.{greatest, summands, product_node, sum_ends, pop_greatest, next_summand, pop_sum, summed, rests}
use Rattle.completion.proofs.Entries.{append-count, append-items}
use Rattle.completion.proofs.Summing.{ends_not}

module _ (rs : List Rule) (k x : ℕ) (s : Pass) where
  -- A sum that has not ended has a greatest entry.
  pub sum_goes : sum_ends rs k x s ≡ false → 0 < s.at.queued
  sum_goes = by_count (eqb s.at.queued 0) refl
    where
      by_count : (b : Bool) → eqb s.at.queued 0 ≡ b → (b || not (eqb (greatest s).origin k && eqb (left_of rs (greatest s)) x)) ≡ false
          → 0 < s.at.queued
      by_count true none ends = absurd (let z : ◌≡◌ {A = ℕ} 0 1 = cc in omega arith)
      by_count false some ends = let not_none : s.at.queued ≡ 0 → ⊥ = eqb-false s.at.queued 0 some in omega arith

  -- Where a sum has ended, and the queue is not empty, its greatest entry is of another origin or left side.
  pub sum-ended : sum_ends rs k x s ≡ true → 0 < s.at.queued → (greatest s).origin ≡ k → left_of rs (greatest s) ≡ x → ⊥
  sum-ended ends some origin left =
      let never : ◌≡◌ {A = Bool} false true =
      ends_not rs k x s (λ e. omega arith) origin left ∙ ends in
      let z : ◌≡◌ {A = ℕ} 0 1 = cc in
      omega arith

  -- Popping stores nothing.
  pub pop_items : (pop_sum rs k x s).at.items ≡ s.at.items
  unfolding pop_sum next_summand pop_greatest
  pop_items =
      until-keeps (sum_ends rs k x) next_summand (λ (t : Pass). t.at.items ≡ s.at.items)
      (λ t goes same. append-count (product_node t.items (entry_at t.queue 0)) (pop_greatest t) ∙ same) s.at.queued s refl

  pub pop_words : (pop_sum rs k x s).items ≡ s.items
  unfolding pop_sum next_summand pop_greatest
  pop_words =
      until-keeps (sum_ends rs k x) next_summand (λ (t : Pass). t.items ≡ s.items)
      (λ t goes same. append-items (product_node t.items (entry_at t.queue 0)) (pop_greatest t) ∙ same) s.at.queued s refl

-- Nor does writing a sum.
pub summed-items : (rs : List Rule) (k x : ℕ) (s : Pass) → (summed rs k x s).at.items ≡ s.at.items
summed-items rs k x s = pop_items rs k x (append (Sum (summands rs k x s) x) s) ∙ append-count (Sum (summands rs k x s) x) s

pub summed-words : (rs : List Rule) (k x : ℕ) (s : Pass) → (summed rs k x s).items ≡ s.items
summed-words rs k x s = pop_words rs k x (append (Sum (summands rs k x s) x) s) ∙ append-items (Sum (summands rs k x s) x) s

module _ (s : Pass) where
  -- A pass goes on where no push was refused and the queue is not empty, and only there.
  pub not_resting : rests s ≡ false → (s.at.stopped ≡ 0) × (0 < s.at.queued)
  not_resting = by_tests (eqb s.at.stopped 0) (eqb s.at.queued 0) refl refl
    where
      by_tests : (a b : Bool) → eqb s.at.stopped 0 ≡ a → eqb s.at.queued 0 ≡ b → (not a || b) ≡ false
          → (s.at.stopped ≡ 0) × (0 < s.at.queued)
      by_tests true false going some goes =
          let not_none : s.at.queued ≡ 0 → ⊥ = eqb-false s.at.queued 0 some in
          (eqb-true s.at.stopped 0 going, omega arith)
      by_tests true true going none goes = absurd (let z : ◌≡◌ {A = ℕ} 0 1 = cc in omega arith)
      by_tests false false stopped some goes = absurd (let z : ◌≡◌ {A = ℕ} 0 1 = cc in omega arith)
      by_tests false true stopped none goes = absurd (let z : ◌≡◌ {A = ℕ} 0 1 = cc in omega arith)

  pub goes : s.at.stopped ≡ 0 → 0 < s.at.queued → rests s ≡ false
  goes going some = rw (eq-eqb s.at.stopped 0 going, ne_eqb s.at.queued 0 (λ e. omega arith)) refl

  pub rests-stopped : (s.at.stopped ≡ 0 → ⊥) → rests s ≡ true
  rests-stopped stopped = ap (λ (b : Bool). not b || eqb s.at.queued 0) (ne_eqb s.at.stopped 0 stopped)

  pub rests-empty : s.at.queued ≡ 0 → rests s ≡ true
  rests-empty none = ap (λ (b : Bool). not (eqb s.at.stopped 0) || b) (eq-eqb s.at.queued 0 none) ∙ by_stop (eqb s.at.stopped 0)
    where
      by_stop : (b : Bool) → (not b || true) ≡ true
      by_stop true = refl
      by_stop false = refl

  -- A pass that rests, and was not refused, has an empty queue.
  pub rest-empty : rests s ≡ true → s.at.stopped ≡ 0 → s.at.queued ≡ 0
  rest-empty at_rest going =
      eqb-true s.at.queued 0 (sym (ap (λ (b : Bool). not b || eqb s.at.queued 0) (eq-eqb s.at.stopped 0 going)) ∙ at_rest)
