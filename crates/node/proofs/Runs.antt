-- Units one behind another: two at a time, in the store and put there.
use Rattle.std.proofs.Common.{ℕ, ◌+◌, ◌≤◌, ◌<◌, min, ◌≡◌, refl, sym, ap, ◌∙◌, Bool, true, false, List, [], ◌∷◌, arith, leb-true, leb-false, le-leb, leb, length, set, take, length-set, length-take, take_all}
use borrow.Author.Tests.{lt-leb}
use Rattle.node.specs.Rows.{}
use Rattle.node.specs.Answers.{answer, refused, done, out_of_room, nothing, position}
use Rattle.node.specs.Writing.{usable, usable_units, put, place, write_units}

-- Putting units changes no length.
pub length-put : (s : List ℕ) (p : ℕ) (us : List ℕ) → length (put s p us) ≡ length s
unfolding put
length-put s p [] = refl
length-put s p (u ∷ us) = length-put (set s p u) (p + 1) us ∙ length-set s p u

-- A node with units is placed.
pub write_some : (s : List ℕ) (p : ℕ) (us : List ℕ) → (length us ≡ 0 → ⊥) → write_units s p us ≡ place s p us
unfolding write_units
write_some s p [] some = absurd (some refl)
write_some s p (u ∷ us) some = refl

-- The first units of a store up to the smaller of the limit and its length are its usable units.
pub usable-part : (r : ℕ) (s : List ℕ) → r ≡ min usable_units (length s) → take r s ≡ usable s
usable-part r s is = on (leb usable_units (length s)) refl
  where
    on : (t : Bool) → leb usable_units (length s) ≡ t → take r s ≡ usable s
    on true e =
        let all : r ≡ usable_units = omega (arith, leb-true usable_units (length s) e) in ap (λ n. take n s) all
    on false e =
        let short : length s < usable_units = leb-false usable_units (length s) e in
        take_all r s (omega (arith, short, is)) ∙ sym (take_all usable_units s (omega (arith, short)))

-- Of the usable units there are as many as the limit and the length allow.
pub length-usable : (s : List ℕ) → length (usable s) ≡ min usable_units (length s)
length-usable s = length-take usable_units s

-- Units that fit are put; others leave the store untouched.
pub place_done :
    (s : List ℕ) (p : ℕ) (us : List ℕ) → p + length us ≤ min usable_units (length s)
    → place s p us ≡ record { answer = answer done (position (p + length us)); store = put s p us }
unfolding place
place_done s p us fits = rw (le-leb (p + length us) (length (usable s)) (omega (arith, length-usable s)))

pub place-full :
    (s : List ℕ) (p : ℕ) (us : List ℕ) → min usable_units (length s) < p + length us
    → place s p us ≡ record { answer = refused out_of_room p nothing; store = s }
unfolding place
place-full s p us full = rw (lt-leb (p + length us) (length (usable s)) (omega (arith, length-usable s)))
