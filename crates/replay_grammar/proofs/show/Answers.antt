-- What the check promises of an accepted file is what the table asks.
use Rattle.std.proofs.Common.{arith, ap}
use Rattle.grammar.specs.Answers.{number_of}
use Rattle.grammar.proofs.Verdicts.{accepted-file, holds-accepted}
use Rattle.prediction.proofs.Reaching.{accepted-within}
use Rattle.replay_grammar.proofs.show.Goals as goal

pub table-made-requires : goal.table-made-requires
table-made-requires g c =
    let ok = ap number_of c.in-Ok.is in
    let file = accepted-file _ _ c.read.ensures.verdict ok in
    let held = c.read.ensures.decoded.accepted ok in
    (omega (arith, file.few_rules, held.count), accepted-within _ _ _ _ (holds-accepted _ _ file held))
