-- `reports::text::text_length` meets its contract. The invariant: the lines before place `p` are `total` bytes long.
use Prim.Native.Nat.{◌-◌}
use Rattle.reports.proofs.Lines.{Counting}
use Rattle.reports.proofs.text.text_length.Given as goal

abbrev pub invariant-loop-p : goal.invariant-loop-p
invariant-loop-p l = Counting l.rules.words l.rules.count l.items l.from l.to l.p l.total

abbrev pub decreases-loop-p : goal.decreases-loop-p
decreases-loop-p l = l.to - l.p
