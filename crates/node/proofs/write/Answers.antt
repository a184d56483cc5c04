-- `write` meets its contract: the units of the node are placed, and an unfit node has none.
use Rattle.std.proofs.Common.{sym, ap, ◌∙◌, arith}
use Rattle.node.specs.Writing.{write_units}
use Rattle.node.proofs.Fit.{own-units, none-fitting}
use Rattle.node.proofs.Runs.{write_some}
use Rattle.node.proofs.write.Goals as goal

pub returns-in-Some : goal.returns-in-Some
returns-in-Some c =
    let own = own-units _ _ _ _ c.as_slice.ensures (sym c.in-Some.is ∙ c.units_of.ensures) in
    c.place_units.ensures
    ∙ sym (write_some c.args.store.now c.args.p c.as_slice.result.now (λ e. omega (arith, own.size.some, e)))
    ∙ ap (write_units c.args.store.now c.args.p) own.is

pub returns-in-None : goal.returns-in-None
unfolding write_units
returns-in-None c =
    ap (write_units c.args.store.now c.args.p) (none-fitting _ _ (sym c.in-None.is ∙ c.units_of.ensures))
