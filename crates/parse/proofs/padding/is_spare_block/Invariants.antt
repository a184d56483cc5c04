-- `parse::padding::is_spare_block` meets its contract: it keeps whether all words so far are spare.
use mathlib.Core.Path.{◌≡◌}
use mathlib.Core.Bool.{true}
use Prim.Native.Nat.{◌+◌, ◌-◌, ◌≤◌}
use Rattle.parse.specs.inner.Parts.{block_words, SpareBetween}
use Rattle.parse.proofs.padding.is_spare_block.Given as goal

abbrev pub invariant-loop-i : goal.invariant-loop-i
invariant-loop-i g l = (l.i ≤ l.i-end) × (l.i-end ≡ l.from + block_words) × (l.from ≤ l.i) × (l.spare ≡ true → SpareBetween g.W.Word.SPARE l.words l.from l.i)

abbrev pub decreases-loop-i : goal.decreases-loop-i
decreases-loop-i g l = l.i-end - l.i
