use mathlib.Core.Path.{sym, ◌∙◌}
use native.Mathlib.Omega.{arith}
use Rattle.laws.specs.Bits.{row_of}
use Rattle.bits.specs.Width.{row_words}
use Rattle.reports.proofs.Held.{counted-starts, counted_passes, counted-counts, held_many}
use Rattle.reports.proofs.tokens.count_held.Goals as goal

pub loop-t-init : goal.loop-t-init
loop-t-init c = counted-starts _ _

pub overflow_add-count : goal.overflow_add-count
overflow_add-count c = let looped = c.loop-t in omega (arith, looped.invariant.count_is, held_many (row_of row_words c.args.rows.now c.args.e) looped.t, c.requires.narrow, looped.invariant.up_to)

pub loop-t-preserved : goal.loop-t-preserved
loop-t-preserved c = counted-counts _ _ _ _ (sym c.has_at.ensures ∙ c.if-not-has_at.false) c.loop-t-test.true c.loop-t.invariant

pub loop-t-preserved-then-not-has_at : goal.loop-t-preserved-then-not-has_at
loop-t-preserved-then-not-has_at c = counted_passes _ _ _ _ (sym c.has_at.ensures ∙ c.if-not-has_at.true) c.loop-t-test.true c.loop-t.invariant
