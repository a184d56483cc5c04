-- `tree_under` meets its contract: the entry at the handle decides.
use Rattle.std.proofs.Common.{sym, ◌∙◌, arith}
use Rattle.trees.proofs.Counting.{sum_told}
use Rattle.trees.proofs.tree_under.Goals as goal

pub returns-in-None : goal.returns-in-None
returns-in-None c =
    let a = c.args in
    let here = c.requires in
    absurd (sum_told a.store.now a.handle here.products here.is
    (sym (c.fill.ensures.tells a.handle (omega arith)) ∙ sym c.entry.ensures ∙ c.in-None.is))
