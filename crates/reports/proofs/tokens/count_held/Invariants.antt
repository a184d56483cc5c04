-- `reports::tokens::count_held` meets its contract. The invariant: the symbols below `t` are counted.
use Prim.Native.Nat.{◌-◌}
use Rattle.laws.specs.Bits.{row_of}
use Rattle.bits.specs.Width.{row_words}
use Rattle.reports.proofs.Held.{Counted}
use Rattle.reports.proofs.tokens.count_held.Given as goal

abbrev pub invariant-loop-t : goal.invariant-loop-t
invariant-loop-t l = Counted (row_of row_words l.rows l.e) l.end l.t l.count

abbrev pub decreases-loop-t : goal.decreases-loop-t
decreases-loop-t l = l.end - l.t
