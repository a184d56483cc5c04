use Rattle.std.proofs.Common.{refl, arith}
use Rattle.std.proofs.lemmas.Result.{err_from_is_err_and}
use Rattle.completion.specs.Lent.{its_rules, pass_in}
use Rattle.completion.proofs.Keeping.{kept_trans}
use Rattle.completion.proofs.Remaining.{remaining_start, remaining_turn, remaining_falls, remaining_stopped, remaining_empty}
use Rattle.completion.proofs.Stopping.{is_refusal}
use Rattle.completion.proofs.pass.Pass.complete_all_sums_entirely.Goals as goal

pub loop-self-init : goal.loop-self-init
loop-self-init c =
    let its = c.args.self.now in
    ((refl, refl, refl, refl, refl, refl), remaining_start (its_rules its) its.starts.now its.rows.now (pass_in its) c.requires.1 c.requires.2)

pub complete_sum-requires : goal.complete_sum-requires
complete_sum-requires c =
    let kept = c.loop-self.invariant.0 in
    let r = c.loop-self.invariant.1 in
    rw (kept.3, kept.4, kept.5) (c.requires.0, r.pending, r.units, c.loop-self-test.true, c.requires.3)

pub loop-self-smaller : goal.loop-self-smaller
loop-self-smaller c =
    let kept = c.loop-self.invariant.0 in
    remaining_falls c.requires.0 c.loop-self.invariant.1 _ c.loop-self-test.true (rw (kept.3, kept.4, kept.5) at c.in_ok-complete_sum.ensures.pass)

pub loop-self-preserved : goal.loop-self-preserved
loop-self-preserved c =
    let kept = c.loop-self.invariant.0 in (
      kept_trans c.args.self.now c.loop-self.self c.complete_sum.new.self kept c.in_ok-complete_sum.ensures.kept,
      remaining_turn c.requires.0 c.loop-self.invariant.1 _ refl c.loop-self-test.true (rw (kept.3, kept.4, kept.5) at c.in_ok-complete_sum.ensures.pass),
    )

pub returns-in_err-complete_sum-clause-pass : goal.returns-in_err-complete_sum-clause-pass
returns-in_err-complete_sum-clause-pass c =
    let kept = c.loop-self.invariant.0 in
    let turned = remaining_turn c.requires.0 c.loop-self.invariant.1 _ refl c.loop-self-test.true (rw (kept.3, kept.4, kept.5) at c.in_err-complete_sum.ensures.pass) in
    let p = err_from_is_err_and c.from_residual.result c.from_residual.ensures.1 in
    rw (p.1, p.2) (remaining_stopped c.requires.0 turned (is_refusal _))

pub returns-clause-pass : goal.returns-clause-pass
returns-clause-pass c = remaining_empty c.requires.0 c.loop-self.invariant.1 (omega (arith, c.loop-self-test.false))
