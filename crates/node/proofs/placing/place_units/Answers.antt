-- `placing::place_units` meets its contract: units that fit, and units that do not.
use Rattle.std.proofs.Common.{◌+◌, ◌-◌, ◌≤◌, ◌<◌, min, sym, arith, length}
use Rattle.node.specs.Writing.{usable_units}
use Rattle.node.proofs.Runs.{place_done, place-full}
use Rattle.node.proofs.Puts.{put-part}
use Rattle.node.proofs.placing.place_units.Goals.{then-end-units-via-then-end-units, then-end-units-via-else-end-units+then-end-units-2}
use Rattle.node.proofs.placing.place_units.Goals as goal

pub returns-then-end-units : goal.returns-then-end-units
returns-then-end-units c =
    let full : min usable_units (length c.args.store.now) < c.args.p + length c.args.units.now =
    elim c.then-end-units.branch [
      | then-end-units-via-then-end-units w ↦ omega (arith, c.usable-end.ensures, w.if-end-units.true)
      | then-end-units-via-else-end-units+then-end-units-2 w ↦
          omega (arith, c.usable-end.ensures, w.if-end-units.false, w.if-end-units-2.true)
    ] in
    sym (place-full c.args.store.now c.args.p c.args.units.now full)

pub returns : goal.returns
returns c =
    let count = length c.args.units.now in
    let fits : c.args.p + length c.args.units.now ≤ min usable_units (length c.args.store.now) =
    omega (arith, c.usable-end.ensures, c.if-end-units.false, c.if-end-units-2.false) in
    let put = c.copy_from_slice in
    rw (put-part c.args.store.now c.args.p (c.args.p + count - c.args.p) c.args.units.now put.new.self put.ensures.after
    (omega arith) (omega (arith, fits)))
    (sym (place_done c.args.store.now c.args.p c.args.units.now fits))
