use Rattle.std.proofs.Common.{sym, ◌∙◌, arith}
use Rattle.binary_heap.specs.Entry.{entries_in}
use Rattle.binary_heap.proofs.Held.{held-length}
use Rattle.completion.specs.Lent.{pass_in}
use Rattle.completion.proofs.Soundness.{sound-places, has-place}
use Rattle.completion.proofs.Pushes.{queue-refused, queue_took}
use Rattle.completion.proofs.pass.Pass.enqueue.Goals as goal

pub push-requires : goal.push-requires
push-requires c =
    let s = pass_in c.args.self.now in
    (sound-places s c.requires.0, omega (arith, held-length c.args.self.now.queue.now), has-place s c.requires.0 c.args.place c.requires.1)

pub returns-in-None-clause-pass : goal.returns-in-None-clause-pass
returns-in-None-clause-pass c =
    let pushed = c.push in
    queue-refused (pass_in c.args.self.now) c.args.place c.args.right _ (entries_in pushed.new.queue) (sym (held-length c.args.self.now.queue.now))
    (sym pushed.ensures.answer ∙ c.in-None.is) pushed.ensures.words

pub returns-in-Some-clause-pass : goal.returns-in-Some-clause-pass
returns-in-Some-clause-pass c =
    let pushed = c.push in
    queue_took (pass_in c.args.self.now) c.args.place c.args.right _ _ (entries_in pushed.new.queue) (sym (held-length c.args.self.now.queue.now))
    (sym pushed.ensures.answer ∙ c.in-Some.is) pushed.ensures.words
