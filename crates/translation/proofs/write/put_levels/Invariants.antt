-- `translation::write::put_levels` meets its contract. The invariant: the bytes put so far and those of the levels to come are all.
use Rattle.std.proofs.Common.{◌-◌}
use Rattle.laws.specs.Records.{flat}
use Rattle.grammar.specs.inner.Decoded.{rules_in}
use Rattle.written.specs.Order.{ordered}
use Rattle.written.specs.Translation.{blocks, up_from}
use Rattle.written.specs.Bytes.{bytes_of_rule}
use Rattle.translation.proofs.Siding.{Levels}
use Rattle.translation.proofs.write.put_levels.Given as goal

abbrev pub invariant-loop-round : goal.invariant-loop-round
invariant-loop-round l =
    Levels l.rules.words l.rules.count l.from l.to l.initial.file l.at (flat bytes_of_rule (blocks (rules_in l.rules.words l.rules.count) (ordered (l.to - l.from) (rules_in l.rules.words l.rules.count) (up_from l.from (l.to - l.from))))) l.file l.left l.here (l.to - l._round)
