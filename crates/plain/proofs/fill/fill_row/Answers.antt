use Rattle.std.proofs.Common.{arith, refl}
use Rattle.plain.proofs.Keeping.{kept-room}
use Rattle.plain.proofs.Falling.{falling_ends}
use Rattle.plain.proofs.Firing.{turns_start, turn-narrow, turn_passes, turn-bit, turn-marks}
use Rattle.plain.proofs.fill.fill_row.Goals as goal

pub loop-r-init : goal.loop-r-init
loop-r-init c = record { few = omega arith; falls = turns_start c.args.grammar.now c.requires.0 c.requires.1 c.requires.2 }

pub fires-requires : goal.fires-requires
fires-requires c =
    let done = c.loop-r.invariant in (
      turn-narrow c.args.grammar.now c.requires.0 c.requires.1 done.falls done.few c.loop-r-test.true refl,
      kept-room c.requires.0.room done.falls.kept,
      c.requires.1,
    )

pub left-requires : goal.left-requires
left-requires c =
    let done = c.loop-r.invariant in
    (turn-narrow c.args.grammar.now c.requires.0 c.requires.1 done.falls done.few c.loop-r-test.true refl).there

pub mark-requires : goal.mark-requires
mark-requires c =
    let done = c.loop-r.invariant in
    turn-bit c.args.grammar.now c.requires.0 c.requires.1 done.falls done.few c.loop-r-test.true refl c.place-at.ensures c.left.ensures.0

pub loop-r-preserved-then-fires : goal.loop-r-preserved-then-fires
loop-r-preserved-then-fires c =
    let done = c.loop-r.invariant in record {
      few = omega (arith, done.few);
      falls = turn-marks c.args.grammar.now c.requires.0 c.requires.1 done.falls done.few c.loop-r-test.true refl
          c.fires.ensures c.if-fires.true c.place-at.ensures c.left.ensures.0 c.mark.ensures;
    }

pub loop-r-preserved : goal.loop-r-preserved
loop-r-preserved c =
    let done = c.loop-r.invariant in record {
      few = omega (arith, done.few);
      falls = turn_passes c.args.grammar.now c.requires.0 c.requires.1 done.falls done.few c.loop-r-test.true refl c.fires.ensures c.if-fires.false;
    }

pub returns : goal.returns
returns c = (c.loop-r.invariant.falls.kept, falling_ends c.requires.1 (omega (arith, c.loop-r-test.false)) c.loop-r.invariant.falls)
