-- `reading::stands` meets its contract. The invariant: the units passed are in their places.
use Rattle.std.proofs.Common.{ℕ, ◌≡◌, ◌+◌, ◌<◌, get_or}
use Rattle.node.proofs.reading.stands.Given as goal

abbrev pub invariant-loop-i : goal.invariant-loop-i
invariant-loop-i l = (k : ℕ) → k < l.i → get_or l.s (l.q + k) 0 ≡ get_or l.units k 0
