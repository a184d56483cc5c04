use Rattle.std.proofs.Common.{sym, ap, ◌∙◌, List, ℕ, ◌+◌}
use Rattle.completion.specs.Pass.{pass_over}
use Rattle.completion.specs.Lent.{pass_in}
use Rattle.completion.proofs.Pushes.{store_done, store-refused}
use Rattle.completion.proofs.pass.Pass.store.Goals as goal

pub returns-then-self-clause-pass : goal.returns-then-self-clause-pass
returns-then-self-clause-pass c = sym (store-refused (pass_in c.args.self.now) c.args.item.origin c.args.item.rule c.args.item.handle c.if-self.true)

pub returns-clause-pass : goal.returns-clause-pass
returns-clause-pass c =
    let before = c.args.self.now in
    ap (λ (w : List ℕ). pass_over (record { stopped = 0; items = before.stored + 1; queued = before.queued; used = before.used }) w before.queue.now before.store.now) c.write.ensures
    ∙ sym (store_done (pass_in before) c.args.item.origin c.args.item.rule c.args.item.handle c.if-self.false)
