use Rattle.plain.proofs.Splitting.{bit-there, first_part, second-part}
use Rattle.plain.proofs.fill.splits.Goals as goal

pub has-requires : goal.has-requires
has-requires c = bit-there c.requires.0 (first_part c.requires.1 c.loop-k.invariant.some c.loop-k-test.true) c.place.ensures c.requires.2

pub has-requires-then-has : goal.has-requires-then-has
has-requires-then-has c = bit-there c.requires.0 (second-part c.requires.1 c.loop-k.invariant.some c.loop-k-test.true) c.place-then-has.ensures c.requires.3
