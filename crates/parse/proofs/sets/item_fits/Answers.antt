-- `sets::item_fits` meets its contract: where the origin and the rule are in range, the second tells.
use native.Mathlib.Omega.{arith}
use Rattle.grammar.proofs.Decoding.{in_count}
use Rattle.parse.specs.WellFormed.{Fits}
use Rattle.laws.proofs.Decides.{says_no}
use Rattle.parse.proofs.Fitting.{second-tells}
use Rattle.parse.proofs.sets.item_fits.Goals as goal
use Rattle.parse.proofs.sets.item_fits.Goals.{then-origin-k-via-then-origin-k, then-origin-k-via-else-origin-k+then-rule-rules}

pub returns-then-origin-k : goal.returns-then-origin-k
returns-then-origin-k c = says_no (λ (h : Fits _ _ _). elim c.then-origin-k.branch [
  | then-origin-k-via-then-origin-k w ↦ omega (arith, h.earlier, w.if-origin-k.true, c.origin.ensures)
  | then-origin-k-via-else-origin-k+then-rule-rules w ↦
      let rules = c.args.rules.now in
      omega (arith, h.is_rule, in_count rules.words 0 0 rules.count, w.if-rule-rules.true, c.rule-rule.ensures)
])

pub returns : goal.returns
returns c =
    second-tells _ _ _ _ _ _ c.rule-rule.ensures c.second.ensures.0
    (omega (arith, c.if-origin-k.false, c.origin.ensures)) c.if-rule-rules.false
