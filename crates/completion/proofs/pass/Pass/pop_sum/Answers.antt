use Rattle.std.proofs.Common.{◌≡◌, refl, sym, ap, ◌∙◌, subst, false, arith}
use Rattle.laws.proofs.Turns.{until-rests}
use Rattle.completion.specs.Pass.{Pass}
use Rattle.completion.specs.Sums.{sum_ends, next_summand, pop_sum}
use Rattle.completion.specs.Lent.{its_rules, stopped_by, after}
use Rattle.completion.specs.inner.Ready.{RulesRead}
use Rattle.completion.proofs.Charting.{next-sound}
use Rattle.completion.proofs.Keeping.{kept_trans}
use Rattle.completion.proofs.Stopping.{read_stopped}
use Rattle.completion.proofs.Summing.{next_queued, sum-turn, read_next}
use Rattle.completion.proofs.Turning.{sum_goes}
use Rattle.completion.proofs.pass.Pass.pop_sum.Goals as goal

pub loop-pair-init : goal.loop-pair-init
unfolding pop_sum
loop-pair-init c = ((refl, refl, refl, refl, refl, refl), refl, read_stopped (stopped_by c.args.before) _ c.requires)

pub loop-pair-smaller : goal.loop-pair-smaller
loop-pair-smaller c =
    let given = c.args in
    let its = given.self.now in
    let looped = c.loop-pair in
    let u = after looped.now looped.self in
    let asked = rw looped.invariant.0.3 at c.sum_ends.ensures in
    let on : sum_ends (its_rules its) given.pair.set given.pair.symbol u ≡ false = sym asked ∙ c.loop-pair-test.true in
    omega (arith, ap (λ (s : Pass). s.at.queued) c.next_summand-now.ensures.pass, next_queued u, sum_goes (its_rules its) given.pair.set given.pair.symbol u on)

pub loop-pair-preserved : goal.loop-pair-preserved
loop-pair-preserved c =
    let given = c.args in
    let its = given.self.now in
    let looped = c.loop-pair in
    let taken = c.next_summand-now in
    let u = after looped.now looped.self in
    let asked = rw looped.invariant.0.3 at c.sum_ends.ensures in
    let on : sum_ends (its_rules its) given.pair.set given.pair.symbol u ≡ false = sym asked ∙ c.loop-pair-test.true in
    let some = sum_goes (its_rules its) given.pair.set given.pair.symbol u on in (
      kept_trans its looped.self taken.new.self looped.invariant.0 taken.ensures.kept,
      sum-turn (its_rules its) given.pair.set given.pair.symbol u _ on some taken.ensures.pass ∙ looped.invariant.1,
      subst (RulesRead (its_rules its)) (sym taken.ensures.pass) (read_next (its_rules its) u looped.invariant.2 some (next-sound u looped.invariant.2.sound some)),
    )

pub returns-clause-pass : goal.returns-clause-pass
returns-clause-pass c =
    let given = c.args in
    let its = given.self.now in
    let looped = c.loop-pair in
    let asked = rw looped.invariant.0.3 at c.sum_ends.ensures in
    sym (until-rests (sum_ends (its_rules its) given.pair.set given.pair.symbol) next_summand looped.self.queued (after looped.now looped.self)
    (sym asked ∙ c.loop-pair-test.false)) ∙ looped.invariant.1
