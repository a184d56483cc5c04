-- `translation::rules::SymbolsIterator::next` meets its contract.
use Rattle.std.proofs.Common.{◌∷◌, ℕ, ◌+◌, ◌-◌, length, sym, ap, ◌∙◌, arith, rules}
use Rattle.written.specs.Form.{symbols_at}
use Rattle.translation.proofs.Reading.{symbols-next, symbols_none}
use Rattle.translation.proofs.rules.SymbolsIterator.next.Goals as goal

pub returns-then-self-eq0-clause-steps : goal.returns-then-self-eq0-clause-steps
returns-then-self-eq0-clause-steps c = let none = sym c.self.view_is ∙ symbols_none _ _ _ (omega arith) in (none, none)

pub returns-clause-steps : goal.returns-clause-steps
returns-clause-steps c =
    let s = c.self.inside in
    sym c.self.view_is ∙ symbols-next s.bytes.now s.at s.left (omega arith)
    ∙ ap (λ (x : ℕ). x ∷ symbols_at s.bytes.now (s.at + 2) (s.left - 1)) (sym c.u16_at-x.ensures.0)

pub returns-clause-goes : goal.returns-clause-goes
returns-clause-goes c =
    let s = c.self.inside in
    let shorter = ap length (sym c.self.view_is ∙ symbols-next s.bytes.now s.at s.left (omega arith)) in
    search rules
