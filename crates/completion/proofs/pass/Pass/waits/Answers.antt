use Rattle.std.proofs.Common.{arith, ◌∙◌}
use Rattle.grammar.specs.inner.Decoded.{first_in}
use Rattle.completion.specs.Lent.{its_rules}
use Rattle.completion.proofs.Waiting.{rules-length, rule-left, rule-first, waits-same}
use Rattle.completion.proofs.pass.Pass.waits.Goals as goal

pub left-requires : goal.left-requires
left-requires c = omega (arith, rules-length c.args.self.now.rules.now.words c.args.self.now.rules.now.count, c.requires.0.few_rules)

pub has_at-requires : goal.has_at-requires
has_at-requires c =
    let given = c.args in
    let its = given.self.now in
    let required = c.requires in
    (required.1.row, omega (arith, c.left.ensures.0, rule-left its.rules.now.words its.rules.now.count given.r required.2, required.0.lefts given.r))

pub returns : goal.returns
returns c =
    let given = c.args in
    let its = given.self.now in
    let required = c.requires in
    waits-same (its_rules its) its.rows.now given.pair.set given.pair.symbol given.r (first_in its.rules.now.words given.r) c.left.result c.has_at.result
    (rule-first its.rules.now.words its.rules.now.count given.r required.2) required.3
    (c.left.ensures.0 ∙ rule-left its.rules.now.words its.rules.now.count given.r required.2) c.has_at.ensures
