-- `prediction::seed` meets its contract. The invariant, `Seeded`: the table of the symbols and of the rules passed.
use Rattle.std.proofs.Common.{ℕ}
use Rattle.bits.specs.Width.{row_words}
use Rattle.prediction.specs.inner.Tables.{Gives, Seeded}
use Rattle.prediction.proofs.seed.Given as goal

abbrev pub invariant-loop-r : goal.invariant-loop-r
invariant-loop-r g l = (a b : ℕ → ℕ) → Gives (goal.F-post g l.from) a l.count → Gives (goal.T-post g l.to) b l.count → Seeded a b row_words l.n l.r l.table
