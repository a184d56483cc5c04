-- `plain::fill::fires` meets its contract.
use Rattle.std.proofs.Common.{arith}
use Rattle.plain.proofs.Splitting.{bit-there}
use Rattle.plain.proofs.fill.fires.Goals as goal

pub has-requires : goal.has-requires
has-requires c = bit-there c.requires.1 c.requires.2 c.place.ensures (omega (arith, c.first-b.ensures.0, c.requires.0.first))
