use Rattle.std.proofs.Common.{◌≡◌, sym, ap, ap₂, ◌∙◌, arith}
use Rattle.std.proofs.lemmas.Result.{err_from_is_err_and}
use Rattle.binary_heap.specs.Entry.{entries_in}
use Rattle.binary_heap.proofs.Answers.{pop_empty_tells}
use Rattle.completion.specs.Pass.{append}
use Rattle.completion.specs.Lent.{stopped_by, pass_in, after}
use Rattle.completion.specs.Sums.{next_summand}
use Rattle.completion.proofs.Stopping.{is_refusal}
use Rattle.completion.proofs.Summing.{popped_entry, next_stopped}
use Rattle.completion.proofs.pass.Pass.next_summand.Goals as goal

pub returns-in-None-clause-pass : goal.returns-in-None-clause-pass
returns-in-None-clause-pass c =
    let its = c.args.self.now in
    let none : its.queued ≡ 0 = pop_empty_tells (entries_in its.queue.now) its.queued (sym c.pop.ensures.answer ∙ c.in-None.is) in
    absurd (omega (arith, c.requires.1))

pub returns-in_err-before-in-Some-clause-pass : goal.returns-in_err-before-in-Some-clause-pass
returns-in_err-before-in-Some-clause-pass c =
    let its = c.args.self.now in
    let p = err_from_is_err_and c.from_residual.result c.from_residual.ensures.1 in
    rw (p.1, p.2)
    (next_stopped (after c.args.before its) _ _ _ (entries_in c.pop.new.queue) (sym (ap stopped_by c.in_err-before-in-Some.was)) (is_refusal _)
    (sym c.pop.ensures.answer ∙ c.in-Some.is) c.pop.ensures.words)

pub returns-in_ok-before-in-Some-clause-pass : goal.returns-in_ok-before-in-Some-clause-pass
unfolding next_summand
returns-in_ok-before-in-Some-clause-pass c =
    let its = c.args.self.now in
    rw c.in_ok-before-in-Some.was
    (c.append.ensures.pass
    ∙ ap₂ append c.greatest_product-product.ensures
    (popped_entry (pass_in its) _ _ (entries_in c.pop.new.queue) (sym c.pop.ensures.answer ∙ c.in-Some.is) c.pop.ensures.words))
