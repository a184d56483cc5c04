-- `recognizer::step::complete_position` meets its contract.
use mathlib.Core.Path.{◌≡◌, sym, ap, ◌∙◌}
use Rattle.parse.specs.Words.{words_of}
use Rattle.grammar.specs.inner.Decoded.{rules_of, decoded}
use Rattle.completion.specs.Pass.{Pass}
use Rattle.completion.specs.Lent.{after, stopped_by}
use Rattle.completion.specs.Sums.{complete_all_sums}
use Rattle.completion.proofs.Refusals.{all-sums-stopped}
use Rattle.completion.proofs.Stopping.{is_refusal}
use Rattle.demands.specs.Steps.{completed}
use Rattle.recognizer.proofs.Came.{came_to}
use Rattle.recognizer.proofs.OnePosition.{scan_asks, sums_ask}
use Rattle.recognizer.proofs.step.complete_position.Goals as goal
use Rattle.recognizer.proofs.step.complete_position.Goals.{in-Ok, in-Err}

pub scan_all-requires-clause-pass_fits : goal.scan_all-requires-clause-pass_fits
scan_all-requires-clause-pass_fits c =
    let given = c.args in
    let required = c.requires in
    (scan_asks given.grammar.now required.0 given.state (words_of given.items.now given.starts.now given.rows.now given.queue.now given.store.now) required.1 given.kinds.now required.2 required.3).1.1

pub complete_all_sums_entirely-completed-requires : goal.complete_all_sums_entirely-completed-requires
complete_all_sums_entirely-completed-requires c =
    let given = c.args in
    let required = c.requires in
    let asked = sums_ask given.grammar.now required.0 given.state (words_of given.items.now given.starts.now given.rows.now given.queue.now given.store.now) required.1 given.kinds.now in
    let scanned = c.in-Ok.ensures in
    rw (scanned.kept.3, scanned.kept.4, scanned.kept.5, scanned.pass) (asked.0, asked.1, asked.2, required.3)

pub returns-in-Err-completed : goal.returns-in-Err-completed
returns-in-Err-completed c =
    let given = c.args in
    let rs = rules_of given.grammar.now.rules in
    let starts = given.starts.now in
    let rows = given.rows.now in
    let v = words_of given.items.now starts rows given.queue.now given.store.now in
    let pass = c.match-scan_all.pass in
    let all : (after c.match-scan_all.completed pass ≡ completed (decoded given.grammar.now) given.state v given.kinds.now)
    × (c.pass-1.given ≡ pass.items.ghost_name) × (c.pass-2-1.given ≡ pass.queue.ghost_name) × (c.pass-3-1.given ≡ pass.store.ghost_name) =
    elim c.match-scan_all.branch [
      | in-Ok w ↦
          let scanned = w.in-Ok.ensures in
          let summed = w.complete_all_sums_entirely-completed.ensures in
          rw (w.pass-is, w.completed-is) (
            (rw (scanned.kept.3, scanned.kept.4, scanned.kept.5) at summed.pass) ∙ ap (complete_all_sums rs starts rows) scanned.pass,
            sym (summed.kept.0 ∙ scanned.kept.0),
            sym (summed.kept.1 ∙ scanned.kept.1),
            sym (summed.kept.2 ∙ scanned.kept.2),
          )
      | in-Err w ↦
          let scanned = w.in-Err.ensures in
          rw (w.pass-is, w.completed-is) (
            scanned.pass ∙ sym (all-sums-stopped rs starts rows _ (λ zero. is_refusal w.in-Err.full (ap (λ (p : Pass). p.at.stopped) scanned.pass ∙ zero))),
            sym scanned.kept.0,
            sym scanned.kept.1,
            sym scanned.kept.2,
          )
    ] in
    came_to c.match-scan_all.completed pass all.0 (ap stopped_by c.in-Err-completed.is) (c.items-1.given.1.1 all.1) (c.queue-1.given.1.1 all.2) (c.store-1.given.1.1 all.3) (record {})
