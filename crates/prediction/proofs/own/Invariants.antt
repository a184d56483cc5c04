-- `prediction::own` meets its contract. The invariant, `Seeded`: the table of the symbols passed, whatever the rules are asked for.
use Rattle.bits.specs.Width.{row_words}
use Rattle.prediction.specs.inner.Tables.{Seeded}
use Prim.Native.Nat.{ℕ}
use Rattle.prediction.proofs.own.Given as goal

abbrev pub invariant-loop-x : goal.invariant-loop-x
invariant-loop-x l = (from to : ℕ → ℕ) → Seeded from to row_words l.x 0 l.table
