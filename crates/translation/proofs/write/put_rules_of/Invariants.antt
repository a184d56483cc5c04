-- `translation::write::put_rules_of` meets its contract. The invariant: the bytes put so far and those of the rules to come are all.
use Rattle.translation.proofs.Siding.{Side}
use Rattle.translation.proofs.write.put_rules_of.Given as goal

abbrev pub invariant-loop-r : goal.invariant-loop-r
invariant-loop-r l = Side l.rules.words l.rules.count l.a l.initial.file l.at l.file l.here l.r
