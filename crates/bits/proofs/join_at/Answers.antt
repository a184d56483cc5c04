use Rattle.bits.specs.Width.{row_words}
use Rattle.bits.proofs.Rewriting.{all-joined}
use Rattle.bits.proofs.join_at.Goals as goal

pub returns : goal.returns
returns c = all-joined row_words _ _ _ _ _ c.requires c.told-row c.loop-i.invariant c.loop-i-test.false
