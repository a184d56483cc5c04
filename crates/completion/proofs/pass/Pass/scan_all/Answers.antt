use Rattle.std.proofs.Common.{refl, sym, ap, ◌∙◌, arith, ◌+◌, drop}
use Rattle.std.proofs.lemmas.Result.{err_from_is_err_and}
use Rattle.completion.specs.Scan.{scan}
use Rattle.completion.specs.Lent.{its_rules, pass_in}
use Rattle.completion.proofs.Charting.{steady_refl}
use Rattle.completion.proofs.Keeping.{kept_trans}
use Rattle.completion.proofs.Onward.{units_onward}
use Rattle.completion.proofs.Refusals.{scan_all-stopped}
use Rattle.completion.proofs.Scanning.{scans_turn, scans_end}
use Rattle.completion.proofs.Stopping.{is_refusal}
use Rattle.completion.proofs.pass.Pass.scan_all.Goals as goal

pub loop-kind-init : goal.loop-kind-init
loop-kind-init c =
    let its = c.args.self.now in (
      (refl, refl, refl, refl, refl, refl),
      record { steady = steady_refl (its_rules its) its.starts.now (pass_in its) c.requires.pass_fits.0 c.requires.pass_fits.2; same = refl },
    )

pub scan-requires-clause-rules_fit : goal.scan-requires-clause-rules_fit
scan-requires-clause-rules_fit c =
    let kept = c.loop-kind.invariant.0 in
    rw (kept.3, kept.4, kept.5) c.requires.rules_fit

pub scan-requires-clause-set : goal.scan-requires-clause-set
scan-requires-clause-set c =
    let kept = c.loop-kind.invariant.0 in
    rw kept.4 (c.requires.set.0, omega (arith, c.from.ensures, c.requires.set.1.each c.loop-kind.kind-index c.loop-kind-test.true))

pub scan-requires-clause-pass_fits : goal.scan-requires-clause-pass_fits
scan-requires-clause-pass_fits c =
    let kept = c.loop-kind.invariant.0 in
    let steady = c.loop-kind.invariant.1.steady in
    rw (kept.3, kept.4) (steady.sound, units_onward steady.onward c.requires.pass_fits.1, steady.charted)

pub returns-in_err-scan-clause-kept : goal.returns-in_err-scan-clause-kept
returns-in_err-scan-clause-kept c = kept_trans c.args.self.now c.loop-kind.self c.scan.new.self c.loop-kind.invariant.0 c.in_err-scan.ensures.kept

pub returns-in_err-scan-clause-pass : goal.returns-in_err-scan-clause-pass
returns-in_err-scan-clause-pass c =
    let its = c.args.self.now in
    let looped = c.loop-kind in
    let kept = looped.invariant.0 in
    let step = rw (kept.3, kept.4, kept.5) at c.in_err-scan.ensures.pass in
    let turned = scans_turn looped.invariant.1 c.requires.set.0 c.loop-kind-test.true _
    (step ∙ ap (λ kind. scan (its_rules its) its.starts.now its.rows.now c.args.e kind (pass_in looped.self)) c.from.ensures) in
    let p = err_from_is_err_and c.from_residual.result c.from_residual.ensures.1 in
    rw (p.1, p.2)
    (sym (scan_all-stopped (its_rules its) its.starts.now its.rows.now c.args.e (drop (looped.kind-index + 1) c.args.kinds.now) _ (is_refusal _)) ∙ turned.same)

pub loop-kind-preserved : goal.loop-kind-preserved
loop-kind-preserved c =
    let its = c.args.self.now in
    let looped = c.loop-kind in
    let kept = looped.invariant.0 in
    let step = rw (kept.3, kept.4, kept.5) at c.in_ok-scan.ensures.pass in (
      kept_trans its looped.self c.scan.new.self kept c.in_ok-scan.ensures.kept,
      scans_turn looped.invariant.1 c.requires.set.0 c.loop-kind-test.true _
          (step ∙ ap (λ kind. scan (its_rules its) its.starts.now its.rows.now c.args.e kind (pass_in looped.self)) c.from.ensures),
    )

pub returns-clause-pass : goal.returns-clause-pass
returns-clause-pass c = scans_end c.loop-kind.invariant.1 c.loop-kind-test.false
