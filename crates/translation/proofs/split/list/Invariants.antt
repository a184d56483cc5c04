-- `translation::split::list` meets its contract. The invariant: the rules listed so far and those of the written rules to come are all.
use Rattle.grammar.specs.inner.Decoded.{rules_of}
use Rattle.written.specs.Form.{written_of}
use Rattle.translation.specs.inner.Marks.{marked}
use Rattle.translation.proofs.Joining.{Parting}
use Rattle.translation.proofs.split.list.Given as goal

abbrev pub invariant-loop-rule : goal.invariant-loop-rule
invariant-loop-rule l =
    Parting (marked l.tests.keep.now) (marked l.tests.empty.now) (written_of l.written).rules l.from (rules_of l.initial.list.rules) (rules_of l.list.rules) l.rule-iterator l.fresh
