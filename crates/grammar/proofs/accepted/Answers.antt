-- `grammar::accepted` meets its contract. All five conditions, or one that fails.
use Rattle.laws.proofs.Decides.{says_no, decides_map, false_true}
use Rattle.laws.specs.Decides.{Decides}
use Rattle.std.proofs.Common.{Bool, sym, ◌∙◌}
use mathlib.Core.Path.{subst⁻¹}
use Rattle.grammar.specs.Accepted as asked
use Rattle.grammar.specs.inner.Decoded.{decoded}
use Rattle.grammar.proofs.Judging.{accepted-wraps, accepted-ruled, accepted-distinct, accepted-productive, accepted-reachable, judged}
use borrow.Author.Tests.{not-true, not-false}
use Rattle.grammar.proofs.accepted.Goals.{then-wraps, else-wraps, then-ruled, else-ruled, then-not-equal_pair, else-not-equal_pair}
use Rattle.grammar.proofs.accepted.Goals as goal

pub returns-then-all_productive : goal.returns-then-all_productive
returns-then-all_productive c = elim c.if-not-equal_pair.branch [
  | then-not-equal_pair w ↦ elim c.if-ruled.branch [
    | then-ruled v ↦ elim c.if-wraps.branch [
      | then-wraps u ↦ decides_map
          (judged _ _ _ _ c.requires (c.wraps.ensures.if_yes u.if-wraps.true) (u.ruled.ensures.if_yes (sym u.value-is ∙ v.if-ruled.true))
          (v.equal_pair.ensures.if_no (not-true _ (sym v.value-is ∙ w.if-not-equal_pair.true))) (w.all_productive.ensures.if_yes (sym w.value-is ∙ c.if-all_productive.true)))
          (accepted-reachable _ _ _ _ c.requires) c.all_reachable.ensures
      | else-wraps u ↦ absurd (false_true (sym u.if-wraps.false ∙ sym u.value-is ∙ v.if-ruled.true))
    ]
    | else-ruled v ↦ absurd (false_true (sym v.if-ruled.false ∙ sym v.value-is ∙ w.if-not-equal_pair.true))
  ]
  | else-not-equal_pair w ↦ absurd (false_true (sym w.if-not-equal_pair.false ∙ sym w.value-is ∙ c.if-all_productive.true))
]

pub returns-else-all_productive : goal.returns-else-all_productive
returns-else-all_productive c = subst⁻¹ (λ (b : Bool). Decides b (asked.Accepted (decoded c.args.grammar.now))) c.if-all_productive.false (says_no fails)
  where
    fails : asked.Accepted (decoded c.args.grammar.now) → ⊥
    fails h = elim c.if-not-equal_pair.branch [
      | then-not-equal_pair w ↦ w.all_productive.ensures.if_no (sym w.value-is ∙ c.if-all_productive.false) (accepted-productive _ _ _ _ c.requires h)
      | else-not-equal_pair w ↦ elim c.if-ruled.branch [
        | then-ruled v ↦ accepted-distinct _ _ _ _ c.requires h (v.equal_pair.ensures.if_yes (not-false _ (sym v.value-is ∙ w.if-not-equal_pair.false)))
        | else-ruled v ↦ elim c.if-wraps.branch [
          | then-wraps u ↦ u.ruled.ensures.if_no (sym u.value-is ∙ v.if-ruled.false) (accepted-ruled _ _ _ _ c.requires h)
          | else-wraps u ↦ c.wraps.ensures.if_no u.if-wraps.false (accepted-wraps _ _ _ _ c.requires h)
        ]
      ]
    ]
