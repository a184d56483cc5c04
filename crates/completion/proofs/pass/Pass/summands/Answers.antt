use Rattle.std.proofs.Common.{◌≡◌, sym, ◌∙◌, ◌+◌, ◌*◌, ◌≤◌, ◌<◌, arith}
use Rattle.binary_heap.specs.Entry.{entries_in}
use Rattle.completion.specs.Lent.{its_rules}
use Rattle.completion.proofs.Summing.{counted-few}
use Rattle.completion.proofs.Counting.{is_summand, counting_begins, counting_passed, counting_found, counting_done}
use Rattle.completion.proofs.pass.Pass.summands.Goals.{then-is_of, else-is_of}
use Rattle.completion.proofs.pass.Pass.summands.Goals as goal

pub loop-pos-init : goal.loop-pos-init
loop-pos-init c =
    let its = c.args.self.now in
    let pair = c.args.pair in
    let required = c.requires.rules_read in
    counting_begins (is_summand (its_rules its) pair.set pair.symbol its.items.now) (entries_in its.queue.now) its.queued required.0.sound.queued_fit required.1

pub overflow_add-number : goal.overflow_add-number
overflow_add-number c =
    let its = c.args.self.now in
    let pair = c.args.pair in
    let sound = c.requires.rules_read.0.sound in
    let looped = c.loop-pos in
    let few : looped.number ≤ looped.pos =
    counted-few (is_summand (its_rules its) pair.set pair.symbol its.items.now) (entries_in its.queue.now) looped.pos looped.number looped.invariant.counted in
    record { fits = omega (arith, few, c.loop-pos-test.true, sound.queued_fit, sound.few_entries) }

pub loop-pos-preserved : goal.loop-pos-preserved
loop-pos-preserved c =
    let its = c.args.self.now in
    let pair = c.args.pair in
    let fit = c.requires.rules_read.0.sound.queued_fit in
    let looped = c.loop-pos in
    let test = is_summand (its_rules its) pair.set pair.symbol its.items.now in
    let q = entries_in its.queue.now in
    let before : looped.pos < looped.end = omega (arith, looped.invariant.up_to, c.if-pos-end.false) in
    elim c.if-is_of.branch [
      | then-is_of w ↦
          let same : 2 * looped.pos + 3 ≡ 2 * (looped.pos + 1) + 1 = omega arith in
          rw (w.number-is, w.end-is, w.min-end.ensures, same)
          (counting_found test q its.queued fit looped.number looped.end looped.pos looped.invariant before (sym (w.if-is_of.true) ∙ c.is_of.ensures))
      | else-is_of w ↦
          rw (w.number-is, w.end-is)
          (counting_passed test q its.queued fit looped.number looped.end looped.pos looped.invariant before (sym (w.if-is_of.false) ∙ c.is_of.ensures))
    ]

pub returns-then-pos-end : goal.returns-then-pos-end
returns-then-pos-end c =
    let its = c.args.self.now in
    let pair = c.args.pair in
    let looped = c.loop-pos in
    counting_done (is_summand (its_rules its) pair.set pair.symbol its.items.now) (entries_in its.queue.now) its.queued c.requires.rules_read.0.sound.queued_fit
    looped.number looped.end looped.pos looped.invariant (omega (arith, c.if-pos-end.true)) c.requires.rooted.parents

pub returns-after-loop-pos : goal.returns-after-loop-pos
returns-after-loop-pos c =
    let its = c.args.self.now in
    let pair = c.args.pair in
    let looped = c.loop-pos in
    counting_done (is_summand (its_rules its) pair.set pair.symbol its.items.now) (entries_in its.queue.now) its.queued c.requires.rules_read.0.sound.queued_fit
    looped.number looped.end looped.pos looped.invariant (omega (arith, looped.invariant.within, c.loop-pos-test.false)) c.requires.rooted.parents
