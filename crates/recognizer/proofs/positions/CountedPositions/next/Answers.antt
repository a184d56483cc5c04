-- `positions::Counted` reads the positions that its words hold.
use mathlib.Core.Path.{◌≡◌, sym, ap, ap₂, ◌∙◌}
use Prim.Native.Nat.{ℕ, ◌-◌}
use native.Mathlib.Omega.{arith}
use borrow.Author.Tests.{eqb-true, eqb-false}
use lib.ListN.{length, take, drop, length-drop}
use lib.Seq.{take_all}
use mathlib.Core.List.{List, ◌∷◌}
use Rattle.recognizer.proofs.Remaining.{no_positions, position-cut, position-next}
use Rattle.demands.specs.Positions.{positions_from, positions_in}
use Rattle.recognizer.proofs.positions.CountedPositions.next.Goals as goal

-- All behind the first word.
behind : (words : List ℕ) → take (length words - 1) (drop 1 words) ≡ drop 1 words
behind words = take_all (length words - 1) (drop 1 words) (omega (arith, length-drop 1 words))

pub returns-then-is_empty : goal.returns-then-is_empty
returns-then-is_empty c = no_positions _ (eqb-true _ _ (sym c.is_empty.ensures ∙ c.if-is_empty.true))

pub returns-then-many-behind : goal.returns-then-many-behind
unfolding positions_from
returns-then-many-behind c =
    let words = c.args.self.now.0.now in
    let some = eqb-false _ _ (sym c.is_empty.ensures ∙ c.if-is_empty.false) in
    position-cut words (omega (arith, some)) (omega (arith, c.if-many-behind.true, c.from-many.ensures, ap length (behind words)))

pub returns : goal.returns
returns c =
    let words = c.args.self.now.0.now in
    let some = eqb-false _ _ (sym c.is_empty.ensures ∙ c.if-is_empty.false) in
    position-next words (omega (arith, some)) (omega (arith, c.if-many-behind.false, c.from-many.ensures, ap length (behind words)))
    ∙ sym
    (ap₂ (λ (front back : List ℕ). front ∷ positions_in back)
    (c.split_at.ensures.front ∙ ap₂ take c.from-many.ensures (behind words))
    (c.split_at.ensures.back ∙ ap₂ drop c.from-many.ensures (behind words)))
