-- `translation::circular::led_by` meets its contract. The invariant: the rules that are left make of the marks what all make of none.
use Rattle.std.proofs.Common.{false, replicate}
use Rattle.translation.proofs.Walking.{Come}
use Rattle.translation.specs.inner.Circles.{leads}
use Rattle.translation.specs.inner.Marks.{most_symbols, marked, walk}
use Rattle.written.specs.Form.{written_of}
use Rattle.translation.proofs.circular.led_by.Given as goal

abbrev pub invariant-loop-rule : goal.invariant-loop-rule
invariant-loop-rule l =
    Come (leads (marked l.empty) (marked l.held)) (walk (leads (marked l.empty) (marked l.held)) (replicate most_symbols false) (written_of l.written).rules) l.rule-iterator l.led
