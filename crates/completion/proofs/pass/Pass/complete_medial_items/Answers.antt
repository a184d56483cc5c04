use Rattle.std.proofs.Common.{◌≡◌, refl, sym, ap, ◌∙◌, subst, ℕ, ◌+◌, ◌-◌, ◌<◌, arith}
use Rattle.std.proofs.lemmas.Result.{err_from_is_err_and}
use Rattle.laws.specs.Turns.{over}
use Rattle.laws.proofs.Turns.{over-next, over_none}
use Rattle.completion.specs.Pass.{Pass}
use Rattle.completion.specs.Lent.{its_rules, pass_in}
use Rattle.completion.specs.inner.Ready.{PassFits}
use Rattle.completion.proofs.Keeping.{kept_trans}
use Rattle.completion.proofs.Pushes.{stays}
use Rattle.completion.proofs.Searching.{queueing, medial_found, queueing_sound, queueing_step}
use Rattle.completion.proofs.Stopping.{is_refusal, turns_stopped}
use Rattle.completion.proofs.pass.Pass.complete_medial_items.Goals as goal

pub loop-place-init : goal.loop-place-init
loop-place-init c =
    let range = c.into_iter-place-iterator.result in (
      (refl, refl, refl, refl, refl, refl),
      omega arith,
      omega arith,
      refl,
      over_none _ _ ∙ ap (λ (n : ℕ). over n (queueing c.args.pair.link range.start) (pass_in c.args.self.now)) (let none : 0 ≡ range.start - range.start = omega arith in none),
    )

pub enqueue-requires : goal.enqueue-requires
enqueue-requires c =
    let its = c.args.self.now in
    let required = c.requires in
    let range = c.into_iter-place-iterator.result in
    let looped = c.loop-place in
    let n = looped.place-iterator.start - range.start in
    let f = rw (← c.into_iter-place-iterator.ensures.into_iter_gives) at c.medial_item_set_range-place-items.ensures in
    let fit = required.pass_fits.1.starts_fit (c.args.pair.set + 1) in
    let taken = c.in-Some.ensures.steps in
    let known = queueing_sound c.args.pair.link range.start (range.end - range.start) n (pass_in its) required.pass_fits.0 (omega (arith, f.up_to, fit)) (omega (arith, looped.invariant.2, looped.invariant.3)) in (
      subst PassFits (sym looped.invariant.4) known.0,
      subst (λ (u : Pass). c.in-Some.place < u.at.items) (sym looped.invariant.4)
          (omega (arith, known.1, taken, looped.invariant, f.up_to, fit)),
    )

pub loop-place-preserved : goal.loop-place-preserved
loop-place-preserved c =
    let its = c.args.self.now in
    let range = c.into_iter-place-iterator.result in
    let looped = c.loop-place in
    let n = looped.place-iterator.start - range.start in
    let taken = c.in-Some.ensures.steps in
    let turn = queueing c.args.pair.link range.start in
    let step = queueing_step c.args.pair.link range.start n c.in-Some.place (pass_in looped.self) _ refl (omega (arith, taken, looped.invariant)) c.in_ok-enqueue.ensures.pass in
    let more : n + 1 ≡ c.next.new.self.start - range.start = omega (arith, taken, looped.invariant) in (
      kept_trans its looped.self c.enqueue.new.self looped.invariant.0 c.in_ok-enqueue.ensures.kept,
      omega (arith, taken, looped.invariant),
      omega (arith, taken, looped.invariant),
      taken.0 ∙ looped.invariant.3,
      over-next n turn (pass_in its) (pass_in looped.self) _ looped.invariant.4 step ∙ ap (λ (m : ℕ). over m turn (pass_in its)) more,
    )

pub returns-in_err-enqueue-clause-pass : goal.returns-in_err-enqueue-clause-pass
returns-in_err-enqueue-clause-pass c =
    let its = c.args.self.now in
    let pair = c.args.pair in
    let range = c.into_iter-place-iterator.result in
    let looped = c.loop-place in
    let n = looped.place-iterator.start - range.start in
    let taken = c.in-Some.ensures.steps in
    let f = rw (← c.into_iter-place-iterator.ensures.into_iter_gives) at c.medial_item_set_range-place-items.ensures in
    let step = queueing_step pair.link range.start n c.in-Some.place (pass_in looped.self) _ refl (omega (arith, taken, looped.invariant)) c.in_err-enqueue.ensures.pass in
    let p = err_from_is_err_and c.from_residual.result c.from_residual.ensures.1 in
    rw (p.1, p.2)
    (turns_stopped (queueing pair.link range.start) (λ i s stopped. stays s _ stopped) n (range.end - range.start) (pass_in its) (pass_in looped.self) _
    (omega (arith, taken, looped.invariant)) looped.invariant.4 (is_refusal _) step
    ∙ sym (medial_found (its_rules its) its.starts.now pair.set pair.symbol pair.link range.start (range.end - range.start) (pass_in its) f))

pub returns-clause-pass : goal.returns-clause-pass
returns-clause-pass c =
    let its = c.args.self.now in
    let pair = c.args.pair in
    let range = c.into_iter-place-iterator.result in
    let looped = c.loop-place in
    let f = rw (← c.into_iter-place-iterator.ensures.into_iter_gives) at c.medial_item_set_range-place-items.ensures in
    let all : looped.place-iterator.start - range.start ≡ range.end - range.start = omega (arith, c.in-None.ensures.steps, looped.invariant) in
    looped.invariant.4
    ∙ ap (λ (n : ℕ). over n (queueing pair.link range.start) (pass_in its)) all
    ∙ sym (medial_found (its_rules its) its.starts.now pair.set pair.symbol pair.link range.start (range.end - range.start) (pass_in its) f)
