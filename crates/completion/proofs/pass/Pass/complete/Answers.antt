use Rattle.std.proofs.Common.{sym, ap, ◌∙◌, subst, arith}
use Rattle.std.proofs.lemmas.Result.{err_from_is_err_and}
use Rattle.completion.specs.Complete.{complete_unary_predictions, complete_binary_predictions}
use Rattle.completion.specs.Lent.{its_rules, pass_in}
use Rattle.completion.specs.inner.Ready.{PassFits}
use Rattle.completion.proofs.Keeping.{kept_trans}
use Rattle.completion.proofs.Pairs.{complete_passed, complete_parts, has-row, medials_sound}
use Rattle.completion.proofs.Refusals.{medials-refused, unaries-refused}
use Rattle.completion.proofs.Stopping.{is_refusal}
use Rattle.completion.proofs.Waiting.{rules-length}
use Rattle.completion.proofs.pass.Pass.complete.Goals as goal

pub returns-then-not-has_at-clause-pass : goal.returns-then-not-has_at-clause-pass
returns-then-not-has_at-clause-pass c =
    let its = c.args.self.now in
    let pair = c.args.pair in
    sym (complete_passed (its_rules its) its.starts.now its.rows.now pair.set pair.symbol pair.link (pass_in its) (sym c.has_at.ensures ∙ c.if-not-has_at.true))

pub complete_medial_items-requires-clause-count_le_max_rules : goal.complete_medial_items-requires-clause-count_le_max_rules
complete_medial_items-requires-clause-count_le_max_rules c =
    let its = c.args.self.now in
    (omega (arith, rules-length its.rules.now.words its.rules.now.count, c.requires.rules_fit.0.few_rules), c.requires.set.0, omega (arith, c.requires.set.1))

pub returns-in_err-complete_medial_items-clause-pass : goal.returns-in_err-complete_medial_items-clause-pass
returns-in_err-complete_medial_items-clause-pass c =
    let its = c.args.self.now in
    let pair = c.args.pair in
    let p = err_from_is_err_and c.from_residual.result c.from_residual.ensures.1 in
    rw (p.1, p.2)
    (medials-refused (its_rules its) its.starts.now its.rows.now pair.set pair.symbol pair.link (pass_in its) _ (sym c.has_at.ensures ∙ c.if-not-has_at.false)
    (is_refusal _) c.in_err-complete_medial_items.ensures.pass)

pub complete_unary_predictions-requires : goal.complete_unary_predictions-requires
complete_unary_predictions-requires c =
    let its = c.args.self.now in
    let pair = c.args.pair in
    let required = c.requires in
    let medial = c.in_ok-complete_medial_items.ensures in
    let sound = subst PassFits (sym medial.pass) (medials_sound (its_rules its) its.starts.now pair.set pair.symbol pair.link (pass_in its) required.pass_fits.0 required.pass_fits.1) in
    rw (medial.kept.3, medial.kept.5)
    (required.rules_fit.0, has-row its.starts.now its.rows.now pair.set required.rules_fit.1 required.set.0, sound, required.rules_fit.2, required.set.1)

pub returns-in_err-complete_unary_predictions-clause-pass : goal.returns-in_err-complete_unary_predictions-clause-pass
returns-in_err-complete_unary_predictions-clause-pass c =
    let its = c.args.self.now in
    let pair = c.args.pair in
    let medial = c.in_ok-complete_medial_items.ensures in
    let step = rw (medial.kept.3, medial.kept.5) at c.in_err-complete_unary_predictions.ensures.pass in
    let exit = c.from_residual-in_err-complete_unary_predictions in
    let p = err_from_is_err_and exit.result exit.ensures.1 in
    rw (p.1, p.2)
    (unaries-refused (its_rules its) its.starts.now its.rows.now pair.set pair.symbol pair.link (pass_in its) _ (sym c.has_at.ensures ∙ c.if-not-has_at.false)
    (is_refusal _) (step ∙ ap (complete_unary_predictions (its_rules its) its.rows.now pair.set pair.symbol pair.link) medial.pass))

pub returns-clause-pass : goal.returns-clause-pass
returns-clause-pass c =
    let its = c.args.self.now in
    let pair = c.args.pair in
    let medial = c.in_ok-complete_medial_items.ensures in
    let unary = c.in_ok-complete_unary_predictions.ensures in
    let kept = kept_trans its c.complete_medial_items.new.self c.complete_unary_predictions.new.self medial.kept unary.kept in
    let second = rw (medial.kept.3, medial.kept.5) at unary.pass in
    let third = rw (kept.3, kept.5) at c.complete_binary_predictions.ensures.pass in
    third
    ∙ ap (complete_binary_predictions (its_rules its) its.rows.now pair.set pair.symbol pair.link)
    (second ∙ ap (complete_unary_predictions (its_rules its) its.rows.now pair.set pair.symbol pair.link) medial.pass)
    ∙ sym (complete_parts (its_rules its) its.starts.now its.rows.now pair.set pair.symbol pair.link (pass_in its) (sym c.has_at.ensures ∙ c.if-not-has_at.false))
