-- A pass as the code holds it: words that are lent to it, and how far it has come.
use Rattle.std.specs.Prelude.{◌≡◌, List, ℕ, Result, Ok, Err}
use Rattle.grammar.specs.Rules.{Rule}
use Rattle.grammar.specs.inner.Decoded.{rules_of}
use Rattle.completion.specs.declared.pass.Pass.{Pass as Lent}
use Rattle.completion.specs.declared.pass.Full.{Full}
use Rattle.completion.specs.declared.pass.Full.TheVariants.{Items, Queue, Store}
use Rattle.completion.specs.Pass.{Pass, pass_over, items_full, queue_full, store_full}

-- The rules that it reads.
abbrev pub its_rules : Lent → List Rule
its_rules p = rules_of p.rules.now

-- The number of a refusal.
abbrev pub number : Full → ℕ
number Items = items_full
number Queue = queue_full
number Store = store_full

-- What stopped it: nothing, or a refusal.
abbrev pub stopped_by : {A : Type 0} → Result A Full → ℕ
stopped_by (Ok done) = 0
stopped_by (Err full) = number full

-- The pass behind a call that answers so.
abbrev pub after : {A : Type 0} → Result A Full → Lent → Pass
after r p =
    pass_over (record { stopped = stopped_by r; items = p.stored; queued = p.queued; used = p.used }) p.items.now p.queue.now p.store.now

-- A pass that nothing stopped.
abbrev pub pass_in : Lent → Pass
pass_in p =
    pass_over (record { stopped = 0; items = p.stored; queued = p.queued; used = p.used }) p.items.now p.queue.now p.store.now

-- What no call changes: the words that it reads, and which words it writes.
abbrev pub Kept : Lent → Lent → Type 0
Kept p q =
    (q.items.ghost_name ≡ p.items.ghost_name)
    × (q.queue.ghost_name ≡ p.queue.ghost_name)
    × (q.store.ghost_name ≡ p.store.ghost_name)
    × (q.rules ≡ p.rules)
    × (q.starts ≡ p.starts)
    × (q.rows ≡ p.rows)
