-- The queue's entries stay places of the items.
use Rattle.std.proofs.Common.{ℕ, sym, ◌∙◌, subst, arith}
use Rattle.binary_heap.specs.Entry.{entries_in, entry_key}
use Rattle.binary_heap.specs.Queue.{Places}
use Rattle.binary_heap.proofs.Held.{held-length}
use Rattle.binary_heap.proofs.Kept.{kept_full, kept-count}
use Rattle.replay_heap.proofs.push.Goals as goal

pub returns-then-place-items : goal.returns-then-place-items
returns-then-place-items c =
    subst (λ (n : ℕ). Places c.args.items.now (entries_in c.args.queue.now) n) (sym c.refused.ensures) c.requires

pub push-requires : goal.push-requires
push-requires c =
    (c.requires, omega (arith, held-length c.args.queue.now), omega arith)

pub returns-in-Some : goal.returns-in-Some
returns-in-Some c =
    let called = c.push in
    kept-count (entry_key c.args.items.now) c.args.items.now (entries_in c.args.queue.now) _ _ c.requires _ _ _ (omega arith)
    (sym called.ensures.answer ∙ c.in-Some.is) called.ensures.words

pub returns-in-None : goal.returns-in-None
returns-in-None c =
    let called = c.push in
    subst (λ (n : ℕ). Places c.args.items.now (entries_in called.new.queue) n) (sym c.refused-in-None.ensures)
    (kept_full (entry_key c.args.items.now) c.args.items.now (entries_in c.args.queue.now) _ _ c.requires _ _
    (sym called.ensures.answer ∙ c.in-None.is) called.ensures.words)
