use Rattle.std.proofs.Common.{arith}
use Rattle.completion.proofs.Searching.{second-read}
use Rattle.completion.proofs.Waiting.{rules-length}
use Rattle.completion.proofs.pass.Pass.second_at.Goals as goal

pub second-requires : goal.second-requires
second-requires c =
    omega (arith, c.rule.ensures, c.requires.2, rules-length c.args.self.now.rules.now.words c.args.self.now.rules.now.count, c.requires.0)

pub returns : goal.returns
returns c =
    let its = c.args.self.now in
    second-read its.rules.now.words its.rules.now.count its.items.now c.args.p _ _ c.rule.ensures
    (omega (arith, c.requires.2, rules-length its.rules.now.words its.rules.now.count)) c.second.ensures.0
