-- The queue's entries stay places of the items.
use Rattle.std.proofs.Common.{ℕ, sym, ◌∙◌, subst}
use Rattle.binary_heap.specs.Entry.{entries_in, entry_key}
use Rattle.binary_heap.specs.Queue.{Places}
use Rattle.binary_heap.proofs.Kept.{kept-empty, kept_entry}
use Rattle.replay_heap.proofs.pop.Goals as goal

pub returns-in-Some : goal.returns-in-Some
returns-in-Some c =
    let called = c.pop in
    kept_entry (entry_key c.args.items.now) c.args.items.now (entries_in c.args.queue.now) _ _ c.requires _ _
    (sym called.ensures.answer ∙ c.in-Some.is) called.ensures.words

pub returns-in-None : goal.returns-in-None
returns-in-None c =
    let called = c.pop in
    subst (λ (n : ℕ). Places c.args.items.now (entries_in called.new.queue) n) (sym c.refused.ensures)
    (kept-empty (entry_key c.args.items.now) c.args.items.now (entries_in c.args.queue.now) _ _ c.requires
    (sym called.ensures.answer ∙ c.in-None.is) called.ensures.words)
