use Rattle.std.proofs.Common.{arith, rules, sym, ◌∙◌, ltb-true, ltb-false}
use Rattle.driver.proofs.Reading.{reading_start, reading_full, refused_by, last_by, all_read, is_refused, not_refused}
use Rattle.driver.proofs.tokens.read_tokens.Goals as goal
use Rattle.driver.proofs.tokens.read_tokens.Goals.{then-is_some-via-then-is_some, then-is_some-via-else-is_some+then-is_last}

pub loop-init : goal.loop-init
loop-init g c = record { reads = reading_start _ _ _; kept = search rules }

pub overflow_add-taken : goal.overflow_add-taken
overflow_add-taken g c = omega (arith, c.loop.invariant.reads.few, c.read_part-ran.ensures.few, c.loop-test.true)

pub returns-then-is_some-clause-read : goal.returns-then-is_some-clause-read
returns-then-is_some-clause-read g c =
    let read = c.read_part-ran in
    elim c.then-is_some.branch [
      | then-is_some-via-then-is_some w ↦ refused_by c.loop.invariant.reads.so_far (omega (arith, c.loop-test.true)) read.ensures.read (is_refused read.result.stopped (sym c.is_some.ensures ∙ w.if-is_some.true))
      | then-is_some-via-else-is_some+then-is_last w ↦
          last_by c.loop.invariant.reads.so_far (omega (arith, c.loop-test.true)) read.ensures.read (not_refused read.result.stopped (sym c.is_some.ensures ∙ w.if-is_some.false))
          (ltb-true _ _ (sym w.is_last.ensures ∙ w.if-is_last.true))
    ]

pub loop-preserved : goal.loop-preserved
loop-preserved g c =
    let read = c.read_part-ran in record {
      reads = reading_full c.loop.invariant.reads (omega (arith, c.loop-test.true)) read.ensures.read read.ensures.few
          (not_refused read.result.stopped (sym c.is_some.ensures ∙ c.if-is_some.false)) (ltb-false _ _ (sym c.is_last.ensures ∙ c.if-is_last.false));
      kept = search rules;
    }

pub returns-clause-read : goal.returns-clause-read
returns-clause-read g c = all_read c.loop.invariant.reads.so_far (omega (arith, c.loop-test.false))
