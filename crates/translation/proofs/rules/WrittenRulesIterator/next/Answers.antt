-- `translation::rules::WrittenRulesIterator::next` meets its contract.
use Rattle.std.proofs.Common.{◌∷◌, ℕ, ◌-◌, length, sym, ap, ◌∙◌, arith, rules}
use Rattle.written.specs.Form.{rule_at, rules_at}
use Rattle.translation.proofs.Reading.{rules-next, rules_none}
use Rattle.translation.proofs.rules.WrittenRulesIterator.next.Goals as goal

pub returns-then-self-eq0-clause-steps : goal.returns-then-self-eq0-clause-steps
returns-then-self-eq0-clause-steps c = let none = sym c.self.view_is ∙ rules_none _ _ _ (omega arith) in (none, none)

pub returns-clause-steps : goal.returns-clause-steps
returns-clause-steps c =
    let s = c.self.inside in
    sym c.self.view_is ∙ rules-next s.bytes.now s.at s.left (omega arith)
    ∙ ap (λ (k : ℕ). rule_at s.bytes.now s.at ∷ rules_at s.bytes.now k (s.left - 1)) (sym c.next-self-inside.ensures.0)

pub returns-clause-goes : goal.returns-clause-goes
returns-clause-goes c =
    let s = c.self.inside in
    let shorter = ap length (sym c.self.view_is ∙ rules-next s.bytes.now s.at s.left (omega arith)
    ∙ ap (λ (k : ℕ). rule_at s.bytes.now s.at ∷ rules_at s.bytes.now k (s.left - 1)) (sym c.next-self-inside.ensures.0)) in
    search rules
