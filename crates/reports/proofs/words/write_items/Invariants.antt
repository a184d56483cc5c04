-- `reports::words::write_items` meets its contract. The invariant: the items before `p` stand in front.
use Prim.Native.Nat.{◌-◌}
use Rattle.grammar.specs.inner.Decoded.{rules_of}
use Rattle.reports.proofs.Latest.{Writing}
use Rattle.reports.proofs.words.write_items.Given as goal

abbrev pub invariant-loop-p : goal.invariant-loop-p
invariant-loop-p l = Writing (rules_of l.rules) l.items l.from l.to l.initial.out l.p l.out

abbrev pub decreases-loop-p : goal.decreases-loop-p
decreases-loop-p l = l.to - l.p
