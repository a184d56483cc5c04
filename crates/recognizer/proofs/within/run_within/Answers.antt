use mathlib.Core.Path.{ap}
use native.Mathlib.Omega.{arith}
use lib.ListN.{length}
use Rattle.recognizer.proofs.Turning.{kept_on, going_on, going_off, going_end}
use Rattle.recognizer.proofs.within.run_within.Goals as goal

pub returns-in-Err-clause-runs : goal.returns-in-Err-clause-runs
returns-in-Err-clause-runs g c = going_off c.loop-kinds.invariant.1.going c.in-Some.ensures c.step_within.ensures.steps c.in-Err.is

pub loop-kinds-preserved : goal.loop-kinds-preserved
loop-kinds-preserved g c =
    let looped = c.loop-kinds.invariant in (
      kept_on c.args.words.now c.loop-kinds.words c.step_within.new.words looped.0 c.step_within.ensures.kept,
      record {
        counted = omega (arith, looped.1.counted, ap length c.in-Some.ensures);
        going = going_on looped.1.going c.in-Some.ensures c.step_within.ensures.steps c.requires.1 c.in-Ok.is;
      },
    )

pub returns-clause-runs : goal.returns-clause-runs
returns-clause-runs g c = going_end c.loop-kinds.invariant.1.going c.in_default.ensures
