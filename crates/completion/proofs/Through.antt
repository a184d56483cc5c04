-- What the steps of a completion keep, the completion keeps.
use Rattle.std.proofs.Common.{◌≡◌, true, false, ◌&&◌, not, List, ℕ, suc, ◌+◌, ◌-◌, ◌≤◌, ◌<◌, arith, length, get_or, eqb, eqb-true}
use borrow.Author.Tests.{eqb-false, not-true}
use Rattle.laws.proofs.Tests.{either_way, both_true}
use Rattle.laws.proofs.Turns.{over-keeps, over_goes}
use Rattle.item.specs.Item.{item_at}
use Rattle.grammar.specs.Rules.{Rule, none, no_rule}
use Rattle.parse.specs.WellFormed.{second_of}
use Rattle.node.specs.Rows.{all_ones}
use Rattle.completion.specs.Pass.{Pass, and_then, store, enqueue}
use Rattle.completion.specs.Complete.{predicted, waits, complete_medial, complete_medial_items, complete_unary, complete_unary_predictions, complete_binary, complete_binary_predictions, complete}
use Rattle.completion.proofs.Entries.{then_cases}

-- Rule `r` begins with `x`, and its left side is predicted at set `k`; it has a second symbol, or none.
pub record Begins (rs : List Rule) (rows : List ℕ) (k x r : ℕ) : Type 0 where
  pub is_rule : r < length rs
  pub begins : (get_or rs r no_rule).first ≡ x
  pub left-predicted : predicted rows k (get_or rs r no_rule).left ≡ true

-- Place `p` is one of an item of set `k`.
pub record Inside (starts : List ℕ) (k p : ℕ) : Type 0 where
  pub from : get_or starts k 0 ≤ p
  pub up_to : p < get_or starts (k + 1) 0

module _ (rs : List Rule) (starts rows : List ℕ) (k x link : ℕ) where
  -- A rule that waits begins with the symbol.
  begins-waits : (r : ℕ) → r < length rs → waits rs rows k x r ≡ true → Begins rs rows k x r
  begins-waits r there waiting =
      let both = both_true (eqb (get_or rs r no_rule).first x) (predicted rows k (get_or rs r no_rule).left) waiting in
      record { is_rule = there; begins = eqb-true (get_or rs r no_rule).first x both.0; left-predicted = both.1 }

  -- The items of set `k` whose second is `x` are queued one by one.
  module _ (P : Pass → Type 0)
      (queueing : (p : ℕ) (s : Pass) → Inside starts k p → second_of rs (item_at s.items p) ≡ x → s.at.stopped ≡ 0 → P s → P (enqueue p link s)) where
    pub medial_keeps : (p : ℕ) (s : Pass) → Inside starts k p → P s → P (complete_medial rs x link p s)
    unfolding complete_medial
    medial_keeps p s inside before =
        then_cases P s _ before
        (λ on.
        either_way (eqb (second_of rs (item_at s.items p)) x)
        (λ same. rw same (queueing p s inside (eqb-true (second_of rs (item_at s.items p)) x same) on before))
        (λ other. rw other before))

    pub medial_items_keep : (s : Pass) → P s → P (complete_medial_items rs starts k x link s)
    unfolding complete_medial_items
    medial_items_keep s before =
        over-keeps P (get_or starts (k + 1) 0 - get_or starts k 0) (λ i. complete_medial rs x link (get_or starts k 0 + i))
        (λ i t there p. medial_keeps (get_or starts k 0 + i) t (record { from = omega arith; up_to = omega arith }) p) s before

  -- The rules with one symbol are stored and queued in number order.
  module _ (P : ℕ → Pass → Type 0) (skipping : (r : ℕ) (s : Pass) → P r s → P (suc r) s)
      (waiting : (r : ℕ) (s : Pass) → Begins rs rows k x r → (get_or rs r no_rule).second ≡ none → s.at.stopped ≡ 0 → P r s
      → P (suc r) (and_then (store k r link s) (enqueue s.at.items all_ones))) where
    pub unary_goes : (r : ℕ) (s : Pass) → r < length rs → P r s → P (suc r) (complete_unary rs rows k x link r s)
    unfolding complete_unary
    unary_goes r s there before =
        then_cases (P (suc r)) s _ (skipping r s before)
        (λ on.
        either_way (eqb (get_or rs r no_rule).second none && waits rs rows k x r)
        (λ both.
        let halves = both_true (eqb (get_or rs r no_rule).second none) (waits rs rows k x r) both in
        rw both (waiting r s (begins-waits r there halves.1) (eqb-true (get_or rs r no_rule).second none halves.0) on before))
        (λ other. rw other (skipping r s before)))

    pub unary_predictions_go : (s : Pass) → P 0 s → P (length rs) (complete_unary_predictions rs rows k x link s)
    unfolding complete_unary_predictions
    unary_predictions_go s before = over_goes P (length rs) (complete_unary rs rows k x link) (λ r t there p. unary_goes r t there p) s before

  -- The rules with two symbols are stored in number order.
  module _ (P : ℕ → Pass → Type 0) (skipping : (r : ℕ) (s : Pass) → P r s → P (suc r) s)
      (waiting : (r : ℕ) (s : Pass) → Begins rs rows k x r → ((get_or rs r no_rule).second ≡ none → ⊥) → s.at.stopped ≡ 0 → P r s
      → P (suc r) (store k r link s)) where
    pub binary_goes : (r : ℕ) (s : Pass) → r < length rs → P r s → P (suc r) (complete_binary rs rows k x link r s)
    unfolding complete_binary
    binary_goes r s there before =
        then_cases (P (suc r)) s _ (skipping r s before)
        (λ on.
        either_way (not (eqb (get_or rs r no_rule).second none) && waits rs rows k x r)
        (λ both.
        let halves = both_true (not (eqb (get_or rs r no_rule).second none)) (waits rs rows k x r) both in
        let two : eqb (get_or rs r no_rule).second none ≡ false = not-true (eqb (get_or rs r no_rule).second none) halves.0 in
        rw both (waiting r s (begins-waits r there halves.1) (eqb-false (get_or rs r no_rule).second none two) on before))
        (λ other. rw other (skipping r s before)))

    pub binary_predictions_go : (s : Pass) → P 0 s → P (length rs) (complete_binary_predictions rs rows k x link s)
    unfolding complete_binary_predictions
    binary_predictions_go s before = over_goes P (length rs) (complete_binary rs rows k x link) (λ r t there p. binary_goes r t there p) s before

  -- What a completion does not do where the symbol is not predicted, and the three that it does in their order.
  pub complete_cases : (P : Pass → Type 0) (s : Pass) → P s
      → (predicted rows k x ≡ true → P (complete_binary_predictions rs rows k x link (complete_unary_predictions rs rows k x link (complete_medial_items rs starts k x link s))))
      → P (complete rs starts rows k x link s)
  unfolding complete
  complete_cases P s before three =
      either_way (predicted rows k x) (λ there. rw (complete, there) (three there)) (λ other. rw (complete, other) before)
