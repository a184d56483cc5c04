use Rattle.std.proofs.Common.{sym, ap, ◌∙◌, subst}
use Rattle.std.proofs.lemmas.Result.{err_from_is_err_and}
use Rattle.node.specs.declared.Node.TheVariants.{Evaluated}
use Rattle.completion.specs.Complete.{complete}
use Rattle.completion.specs.Lent.{its_rules, pass_in}
use Rattle.completion.proofs.Charting.{Steady, steady_refl, steady_append}
use Rattle.completion.proofs.Refusals.{complete-stopped}
use Rattle.completion.proofs.Scanning.{scan_on, scan_off}
use Rattle.completion.proofs.Stopping.{is_refusal}
use Rattle.completion.proofs.pass.Pass.scan.Goals as goal

pub returns-then-not-has_at-clause-pass : goal.returns-then-not-has_at-clause-pass
returns-then-not-has_at-clause-pass c =
    let its = c.args.self.now in
    sym (scan_off (its_rules its) its.starts.now its.rows.now c.args.e c.args.kind (pass_in its) (sym c.has_at.ensures ∙ c.if-not-has_at.true))

pub returns-in_err-append-clause-pass : goal.returns-in_err-append-clause-pass
returns-in_err-append-clause-pass c =
    let its = c.args.self.now in
    let kind = c.args.kind in
    let written = c.in_err-append.ensures.pass in
    let p = err_from_is_err_and c.from_residual.result c.from_residual.ensures.1 in
    rw (p.1, p.2)
    (sym (complete-stopped (its_rules its) its.starts.now its.rows.now c.args.e kind its.used _ (is_refusal _))
    ∙ ap (complete (its_rules its) its.starts.now its.rows.now c.args.e kind its.used) written
    ∙ sym (scan_on (its_rules its) its.starts.now its.rows.now c.args.e kind (pass_in its) (sym c.has_at.ensures ∙ c.if-not-has_at.false)))

pub complete-requires-clause-pass_fits : goal.complete-requires-clause-pass_fits
complete-requires-clause-pass_fits c =
    let its = c.args.self.now in
    let rs = its_rules its in
    let written = c.in_ok-append.ensures in
    let begun = subst (Steady rs its.starts.now (pass_in its)) (sym written.pass)
    (steady_append rs its.starts.now (pass_in its) (Evaluated c.args.kind) (pass_in its) (steady_refl rs its.starts.now (pass_in its) c.requires.pass_fits.0 c.requires.pass_fits.2)) in
    rw (written.kept.3, written.kept.4) (begun.sound, begun.charted)

pub returns-clause-pass : goal.returns-clause-pass
returns-clause-pass c =
    let its = c.args.self.now in
    let kind = c.args.kind in
    let written = c.in_ok-append.ensures in
    let completed = rw (written.kept.3, written.kept.4, written.kept.5) at c.complete.ensures.pass in
    completed
    ∙ ap (complete (its_rules its) its.starts.now its.rows.now c.args.e kind its.used) written.pass
    ∙ sym (scan_on (its_rules its) its.starts.now its.rows.now c.args.e kind (pass_in its) (sym c.has_at.ensures ∙ c.if-not-has_at.false))
