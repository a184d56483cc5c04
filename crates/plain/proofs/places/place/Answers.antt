-- `plain::places::place` meets its contract.
use Rattle.std.proofs.Common.{◌-◌, arith}
use Rattle.plain.proofs.Standing.{up_to_small}
use Rattle.plain.proofs.places.place.Goals as goal

pub overflow_add-result : goal.overflow_add-result
overflow_add-result c =
    let given = c.args in
    omega (arith, c.stretches_up_to.ensures, c.requires.0.inside, c.requires.1, up_to_small given.n (given.l - 1) (omega (arith, c.requires.0.inside)) c.requires.1)
