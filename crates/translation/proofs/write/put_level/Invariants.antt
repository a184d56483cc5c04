-- `translation::write::put_level` meets its contract. The invariant: the bytes put so far and those of the left sides to come are all.
use Rattle.laws.specs.Records.{flat}
use Rattle.grammar.specs.inner.Decoded.{rules_in}
use Rattle.written.specs.Translation.{blocks}
use Rattle.written.specs.Bytes.{bytes_of_rule}
use Rattle.translation.specs.inner.Sides.{level_of}
use Rattle.translation.proofs.Siding.{Level}
use Rattle.translation.proofs.write.put_level.Given as goal

abbrev pub invariant-loop-a : goal.invariant-loop-a
invariant-loop-a l =
    Level (rules_in l.rules.words l.rules.count) l.left l.named l.to l.initial.file l.at (flat bytes_of_rule (blocks (rules_in l.rules.words l.rules.count) (level_of l.left l.named l.from l.to))) l.file l.here l.a
