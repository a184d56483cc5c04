-- `reports::tokens::write_held` meets its contract. The invariant: the symbols below `t` stand in front.
use Prim.Native.Nat.{◌-◌}
use Rattle.laws.specs.Bits.{row_of}
use Rattle.bits.specs.Width.{row_words}
use Rattle.reports.proofs.Held.{Listing}
use Rattle.reports.proofs.tokens.write_held.Given as goal

abbrev pub invariant-loop-t : goal.invariant-loop-t
invariant-loop-t l = Listing (row_of row_words l.rows l.e) l.end l.initial.out l.t l.at l.out

abbrev pub decreases-loop-t : goal.decreases-loop-t
decreases-loop-t l = l.end - l.t
