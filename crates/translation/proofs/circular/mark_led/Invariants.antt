-- `translation::circular::mark_led` meets its contract. The invariant: the symbols that are left make of the marks what all make of those at the beginning.
use Rattle.std.proofs.Common.{ℕ}
use Rattle.translation.proofs.Circling.{Picking}
use Rattle.translation.specs.inner.Circles.{leading, marks_if}
use Rattle.translation.specs.inner.Marks.{marked}
use Rattle.translation.proofs.circular.mark_led.Given as goal

abbrev pub invariant-loop-x : goal.invariant-loop-x
invariant-loop-x l = Picking (λ (x : ℕ). leading l.k (marked l.empty x)) (marks_if (λ (x : ℕ). leading l.k (marked l.empty x)) l.initial.led l.rule.right) l.x-iterator l.led
