-- `nodes::handles_marked` meets its contract.
use Rattle.std.proofs.Common.{rules, tests, refl, ℕ, arith}
use Rattle.std.proofs.lemmas.Iterator.{cases_from_all, YieldsList-from_range}
use Rattle.laws.specs.Bits.{Holds}
use Rattle.item.specs.Item.{handle_at}
use Rattle.laws.proofs.Decides.{decides_map}
use Rattle.laws.proofs.Bits.{holds_true, holds_false}
use Rattle.parse.proofs.Searching.{all_decides}
use Rattle.parse.proofs.nodes.handles_marked.Goals as goal

pub returns : goal.returns
returns c =
    let marked = λ (p : ℕ). Holds c.args.heads.now (handle_at c.args.items.now p) in
    decides_map (λ h. record { each = λ p l. h p (omega arith) l }) (λ h p low l. h.each p l)
    (all_decides marked _ 0 c.args.held
    (cases_from_all _ _ _ marked (λ p. marked p → ⊥) c.all.ensures.ran (YieldsList-from_range 0 c.args.held _ refl refl)
    (λ x r k. search (rules, tests, holds_true)) (λ x r k. search (rules, tests, holds_false))))
