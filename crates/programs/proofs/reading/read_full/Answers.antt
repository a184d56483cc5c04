use Rattle.std.proofs.Common.{◌≡◌, ℕ, ◌+◌, ◌≤◌, List, ◌++◌, rules, length, take, sym, ap, ◌∙◌, subst, length-take-le}
use Rattle.std.proofs.Math.Seq.{take-append-add}
use Rattle.std.proofs.lemmas.List.{take-append-le}
use Rattle.std.proofs.KnownBytes.{Consumes-trans}
use Rattle.std.specs.Io.KnownBytes.{Consumes}
use borrow.Rule.Slice.PartMut.{put_mid, post_of}
use Rattle.programs.proofs.reading.read_full.Goals as goal

-- The front after a read into the rest of the slice.
front : (a k n : ℕ) (xs ys : List ℕ) → a ≤ length xs → n ≤ length ys → take a xs ++ take n ys ≡ take (a + n) (put_mid a k xs ys)
front a k n xs ys within fits =
    ap (λ l. take a xs ++ l) (sym (take-append-le n ys (post_of a k xs) fits)) ∙ sym (take-append-add (take a xs) (ys ++ post_of a k xs) n)
    ∙ ap (λ m. take (m + n) (put_mid a k xs ys)) (length-take-le a xs within)

pub loop-done-preserved : goal.loop-done-preserved
loop-done-preserved g c = record {
  within = search rules;
  came = subst (Consumes _ _) (front _ _ _ _ _ c.loop-done.invariant.within c.in-Ok.ensures.bound.0) (Consumes-trans _ _ _ _ _ c.loop-done.invariant.came c.in-Ok.ensures.bytes.0);
}
