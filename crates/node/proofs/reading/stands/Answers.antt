use Rattle.std.proofs.Common.{sym, arith, length, ◌-◌}
use Rattle.node.proofs.Stands.{stand-there, stand-not}
use Rattle.node.proofs.reading.stands.Goals as goal

pub returns-then-s-q : goal.returns-then-s-q
returns-then-s-q c =
    let us = c.args.units.now in
    sym (stand-not c.args.s.now c.args.q us (length us - 1) (omega (arith, c.requires.1)) (λ h. omega (arith, h.within, c.if-s-q.true, c.requires)))

pub returns-then-s-q-2 : goal.returns-then-s-q-2
returns-then-s-q-2 c =
    sym (stand-not c.args.s.now c.args.q c.args.units.now c.loop-i.i c.loop-i-test.true (λ h. c.if-s-q-2.true h.there))

pub returns : goal.returns
returns c =
    sym (stand-there c.args.s.now c.args.q c.args.units.now c.requires.1 (omega (arith, c.if-s-q.false, c.requires.0))
    (λ k h. c.loop-i.invariant k (omega (arith, h, c.loop-i-test.false))))
