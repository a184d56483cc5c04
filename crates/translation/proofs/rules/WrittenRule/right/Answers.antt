-- `translation::rules::WrittenRule::right` meets its contract.
use Rattle.std.proofs.Common.{◌+◌, ◌≤◌, length, ap, ◌∙◌, subst, arith}
use Rattle.written.specs.Form.{symbols_at, rule_head, length_at, longest}
use Rattle.written.specs.Written.{WrittenRule}
use Rattle.translation.proofs.Reading.{length-symbols}
use Rattle.translation.proofs.rules.WrittenRule.right.Goals as goal

pub returns : goal.returns
returns c =
    let r = c.self.inside in (
      c.new.ensures ∙ ap (symbols_at r.bytes.now (r.at + rule_head)) c.u16_at.ensures.0 ∙ ap (λ (w : WrittenRule). w.right) c.self.view_is,
      subst (λ (w : WrittenRule). length w.right ≤ longest) c.self.view_is (let e = length-symbols r.bytes.now (r.at + rule_head) (length_at r.bytes.now r.at) in omega (arith, c.self.invariant.few)),
    )
