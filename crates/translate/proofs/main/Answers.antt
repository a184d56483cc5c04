-- `translate::main` is safe: what came, the file and the line are fronts of their arrays.
use Prim.Native.Nat.{ℕ}
use mathlib.Core.Path.{sym}
use lib.ListN.{length-replicate}
use Rattle.translate.proofs.main.Goals as goal

pub slice_bounds-read_full-end : goal.slice_bounds-read_full-end
slice_bounds-read_full-end c = sym (length-replicate {A = ℕ} 2359270 0)

pub slice_bounds-written-end : goal.slice_bounds-written-end
slice_bounds-written-end c = c.read_full-came.ensures.place.0

pub slice_bounds-answer-end : goal.slice_bounds-answer-end
slice_bounds-answer-end c = c.read_full-came.ensures.place.1

pub slice_bounds-file-end : goal.slice_bounds-file-end
slice_bounds-file-end c = c.answer-said.ensures.place.0

pub slice_bounds-write_all-end : goal.slice_bounds-write_all-end
slice_bounds-write_all-end c = c.answer-said.ensures.place.1
