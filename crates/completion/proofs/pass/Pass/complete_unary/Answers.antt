use Rattle.std.proofs.Common.{refl, sym, ap, ◌∙◌, subst, ◌<◌, arith}
use Rattle.std.proofs.lemmas.Result.{err_from_is_err_and}
use Rattle.node.specs.Rows.{all_ones}
use Rattle.completion.specs.Pass.{Pass, store, enqueue}
use Rattle.completion.specs.Lent.{its_rules, pass_in}
use Rattle.completion.specs.inner.Ready.{PassFits}
use Rattle.completion.proofs.Soundness.{store-sound}
use Rattle.completion.proofs.Stopping.{is_refusal, then_stopped, then_on}
use Rattle.completion.proofs.Waiting.{rules-length, rule-second, store-place, unary_two, unary_passed, unary-waits}
use Rattle.completion.proofs.pass.Pass.complete_unary.Goals.{then-second-ne-NONE-via-then-second-ne-NONE, then-second-ne-NONE-via-else-second-ne-NONE+then-not-waits}
use Rattle.completion.proofs.pass.Pass.complete_unary.Goals as goal

pub second-requires : goal.second-requires
second-requires c = omega (arith, rules-length c.args.self.now.rules.now.words c.args.self.now.rules.now.count, c.requires.0.few_rules)

pub returns-then-second-ne-NONE-clause-pass : goal.returns-then-second-ne-NONE-clause-pass
returns-then-second-ne-NONE-clause-pass c =
    let given = c.args in
    let its = given.self.now in
    elim c.then-second-ne-NONE.branch [
      | then-second-ne-NONE-via-then-second-ne-NONE w ↦
          sym (unary_two (its_rules its) its.rows.now given.pair.set given.pair.symbol given.r given.pair.link (pass_in its) refl c.second.result
          (c.second.ensures.0 ∙ rule-second its.rules.now.words its.rules.now.count given.r c.requires.2) w.if-second-ne-NONE.true)
      | then-second-ne-NONE-via-else-second-ne-NONE+then-not-waits w ↦
          sym (unary_passed (its_rules its) its.rows.now given.pair.set given.pair.symbol given.r given.pair.link (pass_in its) refl
          (sym (w.if-not-waits.true) ∙ w.waits.ensures))
    ]

pub begun-requires : goal.begun-requires
begun-requires c =
    let required = c.requires in
    (omega (arith, required.1.few_sets, required.1.row), omega (arith, rules-length c.args.self.now.rules.now.words c.args.self.now.rules.now.count, required.0.few_rules))

pub returns-in_err-store-clause-pass : goal.returns-in_err-store-clause-pass
returns-in_err-store-clause-pass c =
    let given = c.args in
    let its = given.self.now in
    let stored = rw (c.begun.ensures.0, c.begun.ensures.1, c.begun.ensures.2) at c.in_err-store.ensures.pass in
    let p = err_from_is_err_and c.from_residual.result c.from_residual.ensures.1 in
    rw (p.1, p.2)
    (then_stopped _ (store given.pair.set given.r given.pair.link (pass_in its)) (enqueue its.stored all_ones) (is_refusal _) stored
    ∙ sym (unary-waits (its_rules its) its.rows.now given.pair.set given.pair.symbol given.r given.pair.link (pass_in its) refl c.second.result
    (c.second.ensures.0 ∙ rule-second its.rules.now.words its.rules.now.count given.r c.requires.2) c.if-second-ne-NONE.false
    (sym (c.if-not-waits.false) ∙ c.waits.ensures)))

pub enqueue-requires : goal.enqueue-requires
enqueue-requires c =
    let given = c.args in
    let its = given.self.now in
    let stored = rw (c.begun.ensures.0, c.begun.ensures.1, c.begun.ensures.2) at c.in_ok-store.ensures.pass in (
      subst PassFits (sym stored) (store-sound given.pair.set given.r given.pair.link (pass_in its) c.requires.3),
      subst (λ (u : Pass). its.stored < u.at.items) (sym stored)
          (store-place given.pair.set given.r given.pair.link (pass_in its) (sym (ap (λ (u : Pass). u.at.stopped) stored))),
    )

pub returns-clause-pass : goal.returns-clause-pass
returns-clause-pass c =
    let given = c.args in
    let its = given.self.now in
    let stored = rw (c.begun.ensures.0, c.begun.ensures.1, c.begun.ensures.2) at c.in_ok-store.ensures.pass in
    then_on _ (store given.pair.set given.r given.pair.link (pass_in its)) (enqueue its.stored all_ones) _ refl stored c.enqueue.ensures.pass
    ∙ sym (unary-waits (its_rules its) its.rows.now given.pair.set given.pair.symbol given.r given.pair.link (pass_in its) refl c.second.result
    (c.second.ensures.0 ∙ rule-second its.rules.now.words its.rules.now.count given.r c.requires.2) c.if-second-ne-NONE.false
    (sym (c.if-not-waits.false) ∙ c.waits.ensures))
