-- Marks by rounds: what is marked is right, and a round goes over the rules and marks more, until one marks nothing.
use mathlib.Core.Path.{◌≡◌, ◌∙◌, subst, sym}
use mathlib.Core.Logic.{⊎_elim}
use mathlib.Core.Bool.{Bool, true, false}
use mathlib.Core.List.{List, [], ◌∷◌}
use Prim.Native.Nat.{ℕ, zero, suc, ◌+◌, ◌≤◌, ◌<◌}
use native.Mathlib.Omega.{arith}
use lib.ListN.{length, get_or, set, length-set}
use Rattle.laws.proofs.Decides.{true_false}
use Rattle.grammar.specs.Accepted.{max_symbols}
use Rattle.grammar.specs.inner.Checking.{Marked}
use Rattle.grammar.proofs.Marks.{mark_kept, mark_old}

-- How many symbols are not marked.
pub unmarked : List Bool → ℕ
unmarked [] = zero
unmarked (true ∷ l) = unmarked l
unmarked (false ∷ l) = suc (unmarked l)

-- A new mark makes them fewer.
pub unmarked_less : (l : List Bool) (a : ℕ) → a < length l → get_or l a false ≡ false → unmarked (set l a true) < unmarked l
unfolding unmarked
unmarked_less [] a l e = absurd (omega arith)
unmarked_less (true ∷ xs) zero l e = absurd (true_false e)
unmarked_less (false ∷ xs) zero l e = omega arith
unmarked_less (true ∷ xs) (suc a) l e = unmarked_less xs a (omega arith) e
unmarked_less (false ∷ xs) (suc a) l e = let h : unmarked (set xs a true) < unmarked xs = unmarked_less xs a (omega arith) e in omega arith

-- No mark makes them more.
pub unmarked_no_more : (l : List Bool) (a : ℕ) → unmarked (set l a true) ≤ unmarked l
unfolding unmarked
unmarked_no_more [] a = omega arith
unmarked_no_more (true ∷ xs) zero = omega arith
unmarked_no_more (false ∷ xs) zero = omega arith
unmarked_no_more (true ∷ xs) (suc a) = unmarked_no_more xs a
unmarked_no_more (false ∷ xs) (suc a) = let h : unmarked (set xs a true) ≤ unmarked xs = unmarked_no_more xs a in omega arith

-- `Given` is marked from the start; `Right` is what a mark says of a symbol.
module _ (Given Right : ℕ → Type 0) where
  -- Marks that are right so far.
  pub record Marking (marks : List Bool) : Type 0 where
    pub long : length marks ≡ max_symbols
    pub given : (a : ℕ) → Given a → Marked marks a
    pub sound : (a : ℕ) → Marked marks a → Right a

  -- They stay so with one more that is right.
  pub marking-more : (marks : List Bool) (a : ℕ) → Marking marks → a < max_symbols → Right a → Marking (set marks a true)
  marking-more marks a h low right = record {
    long = length-set marks a true ∙ h.long;
    given = λ b x. mark_kept marks a b (h.given b x) (omega (arith, h.long));
    sound = λ b m. ⊎_elim (λ (e : b ≡ a). subst Right (sym e) right) (h.sound b) (mark_old marks a b m);
  }

  -- `Marks marks r`: rule `r` has something to mark.
  module _ (Marks : List Bool → ℕ → Type 0) (count : ℕ) where
    -- A round up to rule `r`: fewer are unmarked, or no rule before `r` has something to mark.
    pub record Round (before marks : List Bool) (marked : Bool) (r : ℕ) : Type 0 where
      pub right : Marking marks
      pub few : r ≤ count
      pub no_more : unmarked marks ≤ unmarked before
      pub less : marked ≡ true → unmarked marks < unmarked before
      pub quiet : marked ≡ false → (q : ℕ) → q < r → Marks marks q → ⊥

    -- A round begins, passes a rule that has nothing to mark, or marks.
    pub round_marks : (before marks more : List Bool) (marked : Bool) (r : ℕ) → Round before marks marked r → r < count → Marking more → unmarked more < unmarked marks
        → Round before more true (r + 1)
    round_marks before marks more marked r h l right fewer = record {
      right = right;
      few = omega arith;
      no_more = omega (arith, h.no_more);
      less = λ e. omega (arith, h.no_more);
      quiet = λ e. absurd (true_false e);
    }
