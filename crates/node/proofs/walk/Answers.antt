-- `walk` meets its contract: the usable part of the store is walked.
use Rattle.std.proofs.Common.{ap, ◌∙◌}
use Rattle.node.specs.Walking.{walk_from}
use Rattle.node.proofs.Runs.{usable-part}
use Rattle.node.proofs.walk.Goals as goal

pub returns : goal.returns
returns c =
    let a = c.args in
    c.walk_units.ensures ∙ ap (λ s. walk_from s a.p 0) (usable-part _ _ c.usable-end.ensures)
