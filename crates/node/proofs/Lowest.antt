-- The lowest fault: the head where anything is wrong there, and otherwise the first unit that is not zero where zero is due.
use Rattle.std.proofs.Common.{ℕ, ◌+◌, ◌≤◌, ◌<◌, min, ◌≡◌, refl, ap, ◌∙◌, Bool, true, false, List, [], ◌∷◌, arith, length, get_or, ltb, leb, eqb, lt-ltb, ne_eqb, leb-true, Some}
use Rattle.node.specs.Choice.{pick, both}
use Rattle.node.specs.Rows.{units_at}
use Rattle.node.specs.Reading.{holds, head_stands, head_right, not_zero, faults, lowest}
use Rattle.node.specs.declared.Node.{Node}
use Rattle.node.proofs.Choices.{Both, both_true}
use Rattle.node.proofs.Stands.{held}

-- No unit behind a fault at q is lower than it.
head-lowest : (s : List ℕ) (q k : ℕ) (us : List ℕ) → q ≤ k → lowest (q ∷ not_zero s k us) ≡ q
unfolding not_zero lowest
head-lowest s q k [] le = refl
head-lowest s q k (u ∷ us) le =
    on (both (eqb u 0) (ltb 0 (get_or s k 0))) (head-lowest s q (k + 1) us (omega arith)) (head-lowest s k (k + 1) us (omega arith))
  where
    on : (t : Bool) → lowest (q ∷ not_zero s (k + 1) us) ≡ q → lowest (k ∷ not_zero s (k + 1) us) ≡ k
        → lowest (q ∷ pick t (k ∷ not_zero s (k + 1) us) (not_zero s (k + 1) us)) ≡ q
    on true from-q from-k = ap (min q) from-k ∙ omega arith
    on false from-q from-k = from-q

-- Where the head is wrong, the head is told.
pub wrong_head : (s : List ℕ) (q : ℕ) (n : Node) → head_right s q (units_at q n) ≡ false → lowest (faults s q (Some n)) ≡ q
unfolding faults
wrong_head s q n wrong = rw wrong (head-lowest s q q (units_at q n) (omega arith))

-- A head that is another than the node's own is wrong.
pub other-head : (s : List ℕ) (q u : ℕ) (us : List ℕ) → (get_or s q 0 ≡ u → ⊥) → head_right s q (u ∷ us) ≡ false
unfolding head_right head_stands holds
other-head s q u us other = simp (ne_eqb (get_or s q 0) u other) (no (ltb q (length s)) (leb (q + length (u ∷ us)) (length s)))
  where
    no : (a b : Bool) → both (both a false) b ≡ false
    no true b = refl
    no false b = refl

-- A head that is right is the node's own, and its units have room in the store.
pub record HeadRight (s : List ℕ) (q u : ℕ) (us : List ℕ) : Type 0 where
  pub head : get_or s q 0 ≡ u
  pub inside : q + length (u ∷ us) ≤ length s

pub right-head : (s : List ℕ) (q u : ℕ) (us : List ℕ) → head_right s q (u ∷ us) ≡ true → HeadRight s q u us
unfolding head_right head_stands
right-head s q u us e =
    let h : Both (holds s q u) (leb (q + length (u ∷ us)) (length s)) = both_true _ _ e in
    record { head = (held s q u h.first).there; inside = leb-true _ _ h.second }

-- Of units of which the second must be zero and is not, the second is told where the head is right.
pub second_told :
    (s : List ℕ) (q w : ℕ) (us : List ℕ) (n : Node) → units_at q n ≡ w ∷ 0 ∷ us → (w ≡ 0 → ⊥) → head_right s q (w ∷ 0 ∷ us) ≡ true
    → 0 < get_or s (q + 1) 0
    → lowest (faults s q (Some n)) ≡ q + 1
unfolding faults not_zero
second_told s q w us n is some right not-zero =
    rw is (simp (right, ne_eqb w 0 some, lt-ltb 0 (get_or s (q + 1) 0) not-zero) (head-lowest s (q + 1) (q + 1 + 1) us (omega arith)))
