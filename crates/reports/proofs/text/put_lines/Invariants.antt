-- `reports::text::put_lines` meets its contract. The invariant: the lines before place `p` are put, up to `at`.
use Prim.Native.Nat.{◌-◌}
use Rattle.reports.proofs.Lines.{Putting}
use Rattle.reports.proofs.text.put_lines.Given as goal

abbrev pub invariant-loop-p : goal.invariant-loop-p
invariant-loop-p l = Putting l.rules.words l.rules.count l.items l.from l.to l.initial.out l.p l.at l.out

abbrev pub decreases-loop-p : goal.decreases-loop-p
decreases-loop-p l = l.to - l.p
