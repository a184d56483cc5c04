use Rattle.std.proofs.Common.{◌≡◌, ℕ, max, ap, ◌∙◌, rules}
use Rattle.std.specs.Ordering.{ord_max, nat_cmp}
use Rattle.advance.proofs.Pruning.{reaching-start, reaching-next, reaching-ends, reaching_none}
use Rattle.advance.proofs.prune.greatest_origin.Goals as goal

-- What `max` answers at numbers.
greater_of : (a b : ℕ) → ord_max nat_cmp a b ≡ max a b
greater_of a b = search rules

pub returns-then-from-to : goal.returns-then-from-to
returns-then-from-to c = reaching_none _ _ _ _ c.if-from-to.true

pub loop-p-init : goal.loop-p-init
loop-p-init c = reaching-start _ _ _ c.requires.0

pub loop-p-preserved : goal.loop-p-preserved
loop-p-preserved c =
    reaching-next _ _ _ _ _ c.loop-p.invariant c.loop-p-test.true (c.max-m.ensures ∙ greater_of _ _ ∙ ap (max c.loop-p.m) c.origin.ensures)

pub returns : goal.returns
returns c = reaching-ends _ _ _ _ _ _ c.loop-p.invariant c.loop-p-test.false c.if-from-to.false
