-- `plain::places::stretches_up_to` meets its contract.
use Rattle.plain.proofs.Standing.{formula}
use Rattle.plain.proofs.places.stretches_up_to.Goals as goal

pub returns : goal.returns
returns c = formula c.args.n c.args.m c.requires.0
