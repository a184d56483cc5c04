use Rattle.std.proofs.Common.{◌≡◌, refl, ap, ◌∙◌, ℕ, arith, length}
use Rattle.std.proofs.lemmas.Result.{err_from_is_err_and}
use Rattle.laws.specs.Turns.{over}
use Rattle.completion.specs.Complete.{complete_binary, complete_binary_predictions}
use Rattle.completion.specs.Lent.{its_rules, pass_in}
use Rattle.completion.proofs.Keeping.{kept_trans}
use Rattle.completion.proofs.Stopping.{is_refusal, turns_stopped}
use Rattle.completion.proofs.Waiting.{rules-length, binary-other, binary-stopped, walk_begins, walk-next}
use Rattle.completion.proofs.pass.Pass.complete_binary_predictions.Goals as goal

pub loop-r-init : goal.loop-r-init
loop-r-init c =
    let its = c.args.self.now in
    let pair = c.args.pair in (
      (refl, refl, refl, refl, refl, refl),
      c.head-r.ensures.up_to,
      c.head-r.ensures.begins,
      walk_begins its.rules.now.words its.rules.now.count pair.symbol (complete_binary (its_rules its) its.rows.now pair.set pair.symbol pair.link)
          (λ r s there differs. binary-other its.rules.now.words its.rules.now.count its.rows.now pair.set pair.symbol pair.link r s there differs)
          _ (pass_in its) c.head-r.ensures,
      refl,
    )

pub returns-in_err-complete_binary-clause-pass : goal.returns-in_err-complete_binary-clause-pass
unfolding complete_binary_predictions
returns-in_err-complete_binary-clause-pass c =
    let its = c.args.self.now in
    let pair = c.args.pair in
    let looped = c.loop-r in
    let kept = looped.invariant.0 in
    let there = rw kept.3 at c.loop-r-test.true in
    let step = rw (kept.3, kept.5) at c.in_err-complete_binary.ensures.pass in
    let p = err_from_is_err_and c.from_residual.result c.from_residual.ensures.1 in
    rw (p.1, p.2)
    (turns_stopped (complete_binary (its_rules its) its.rows.now pair.set pair.symbol pair.link)
    (λ r s stopped. binary-stopped (its_rules its) its.rows.now pair.set pair.symbol r pair.link s stopped)
    looped.r (length (its_rules its)) (pass_in its) (pass_in looped.self) _ (omega (arith, rules-length its.rules.now.words its.rules.now.count)) looped.invariant.3 (is_refusal _) step)

pub next-r-requires : goal.next-r-requires
next-r-requires c =
    let its = c.args.self.now in
    let kept = kept_trans its c.loop-r.self c.complete_binary.new.self c.loop-r.invariant.0 c.in_ok-complete_binary.ensures.kept in
    let there = rw c.loop-r.invariant.0.3 at c.loop-r-test.true in
    rw kept.3 (c.requires.2, there, omega (arith, rules-length its.rules.now.words its.rules.now.count, c.requires.0.few_rules))

pub loop-r-preserved : goal.loop-r-preserved
loop-r-preserved c =
    let its = c.args.self.now in
    let pair = c.args.pair in
    let looped = c.loop-r in
    let before = looped.invariant.0 in
    let kept = kept_trans its looped.self c.complete_binary.new.self before c.in_ok-complete_binary.ensures.kept in
    let there = rw before.3 at c.loop-r-test.true in
    let begins = looped.invariant.2 there in
    let first = rw kept.3 at c.next-r.ensures in
    let step = rw (before.3, before.5) at c.in_ok-complete_binary.ensures.pass in (
      kept,
      first.up_to,
      λ more. first.begins more ∙ begins,
      walk-next its.rules.now.words its.rules.now.count pair.symbol (complete_binary (its_rules its) its.rows.now pair.set pair.symbol pair.link)
          (λ r s there differs. binary-other its.rules.now.words its.rules.now.count its.rows.now pair.set pair.symbol pair.link r s there differs)
          looped.r _ (pass_in its) (pass_in looped.self) _ begins first looped.invariant.3 step,
      c.in_ok-complete_binary.ensures.queue ∙ looped.invariant.4,
    )

pub returns-clause-pass : goal.returns-clause-pass
unfolding complete_binary_predictions
returns-clause-pass c =
    let its = c.args.self.now in
    let pair = c.args.pair in
    let looped = c.loop-r in
    let all : looped.r ≡ length (its_rules its) = omega (arith, looped.invariant.1, rw looped.invariant.0.3 at c.loop-r-test.false, rules-length its.rules.now.words its.rules.now.count) in
    looped.invariant.3 ∙ ap (λ (n : ℕ). over n (complete_binary (its_rules its) its.rows.now pair.set pair.symbol pair.link) (pass_in its)) all
