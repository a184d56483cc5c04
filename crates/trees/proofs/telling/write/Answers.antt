-- `telling::write` meets its contract: the words are counted, and written where they fit.
use Rattle.std.proofs.Common.{arith}
use Rattle.trees.proofs.Answering.{nothing_written, tells-short, tells-written}
use Rattle.trees.proofs.telling.write.Goals as goal

pub returns-then-room-words : goal.returns-then-room-words
returns-then-room-words c =
    let measured = c.walk_sum-words.ensures in
    tells-short c.requires.0 measured (omega (arith, c.max-limit.ensures)) (omega (arith, c.max-limit.ensures)) c.if-room-words.true
    c.needed_words.ensures (nothing_written c.args.out.now measured)

pub returns : goal.returns
returns c =
    let measured = c.walk_sum-words.ensures in
    tells-written c.requires.0 measured (omega (arith, c.max-limit.ensures)) c.if-room-words.false (nothing_written c.args.out.now measured)
    c.walk_sum.ensures
