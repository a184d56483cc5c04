use Rattle.std.proofs.Common.{refl, sym, ◌∙◌, arith}
use Rattle.completion.specs.Lent.{its_rules, pass_in}
use Rattle.completion.proofs.Waiting.{rules-length, rule-second, binary_one, binary_passed, binary-waits}
use Rattle.completion.proofs.pass.Pass.complete_binary.Goals.{then-second-eq-NONE-via-then-second-eq-NONE, then-second-eq-NONE-via-else-second-eq-NONE+then-not-waits}
use Rattle.completion.proofs.pass.Pass.complete_binary.Goals as goal

pub second-requires : goal.second-requires
second-requires c = omega (arith, rules-length c.args.self.now.rules.now.words c.args.self.now.rules.now.count, c.requires.0.few_rules)

pub returns-then-second-eq-NONE-clause-pass : goal.returns-then-second-eq-NONE-clause-pass
returns-then-second-eq-NONE-clause-pass c =
    let given = c.args in
    let its = given.self.now in
    elim c.then-second-eq-NONE.branch [
      | then-second-eq-NONE-via-then-second-eq-NONE w ↦
          sym (binary_one (its_rules its) its.rows.now given.pair.set given.pair.symbol given.r given.pair.link (pass_in its) refl c.second.result
          (c.second.ensures.0 ∙ rule-second its.rules.now.words its.rules.now.count given.r c.requires.2) w.if-second-eq-NONE.true)
      | then-second-eq-NONE-via-else-second-eq-NONE+then-not-waits w ↦
          sym (binary_passed (its_rules its) its.rows.now given.pair.set given.pair.symbol given.r given.pair.link (pass_in its) refl
          (sym (w.if-not-waits.true) ∙ w.waits.ensures))
    ]

pub begun-requires : goal.begun-requires
begun-requires c =
    let required = c.requires in
    (omega (arith, required.1.few_sets, required.1.row), omega (arith, rules-length c.args.self.now.rules.now.words c.args.self.now.rules.now.count, required.0.few_rules))

pub returns-clause-pass : goal.returns-clause-pass
returns-clause-pass c =
    let given = c.args in
    let its = given.self.now in
    (rw (c.begun.ensures.0, c.begun.ensures.1, c.begun.ensures.2) at c.store.ensures.pass)
    ∙ sym (binary-waits (its_rules its) its.rows.now given.pair.set given.pair.symbol given.r given.pair.link (pass_in its) refl c.second.result
    (c.second.ensures.0 ∙ rule-second its.rules.now.words its.rules.now.count given.r c.requires.2) c.if-second-eq-NONE.false
    (sym (c.if-not-waits.false) ∙ c.waits.ensures))
