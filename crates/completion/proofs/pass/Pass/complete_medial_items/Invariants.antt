-- The places up to the iterator's are queued.
use Rattle.std.proofs.Common.{◌≡◌, ◌-◌, ◌≤◌}
use Rattle.laws.specs.Turns.{over}
use Rattle.completion.specs.Lent.{pass_in, Kept}
use Rattle.completion.proofs.Searching.{queueing}
use Rattle.completion.proofs.pass.Pass.complete_medial_items.Given as goal

abbrev pub invariant-loop-place : goal.invariant-loop-place
invariant-loop-place l =
    let first = l.initial.place-iterator.start in
    Kept l.fn.self l.self
    × (first ≤ l.place-iterator.start)
    × (l.place-iterator.start - first ≤ l.place-iterator.end - first)
    × (l.place-iterator.end ≡ l.initial.place-iterator.end)
    × (pass_in l.self ≡ over (l.place-iterator.start - first) (queueing l.pair.link first) (pass_in l.fn.self))
