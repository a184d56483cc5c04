-- A store after units were put into it.
use Rattle.std.proofs.Common.{ℕ, zero, suc, ◌+◌, ◌≤◌, ◌<◌, min, ◌≡◌, refl, sym, ap, ◌∙◌, Bool, true, false, List, [], ◌∷◌, ◌++◌, add-zero, arith, length, get_or, set, take, drop, length-set, add-one, append_assoc, ltb, ltb-true, ltb-false, get_or-set_same, get_or-set_other, get_or-take}
use lib.ListN.{get_or-eq_default}
use borrow.Rule.Slice.PartMut.{put_mid}
use Rattle.std.proofs.lemmas.List.Edits.{sets, sets-eq, paste_all}
use Rattle.std.proofs.lemmas.Slice.{put_mid-paste}
use lib.Seq.{set-get_or}
use Rattle.node.specs.Writing.{usable, usable_units, put}
use Rattle.node.specs.Reading.{stand_all}
use Rattle.node.proofs.Runs.{length-put, length-usable}
use Rattle.node.proofs.Almost.{Narrow}
use Rattle.node.proofs.Stands.{First, first-stands, all-stand}

-- Below the position no unit changes, nor behind the units put.
pub put-below : (s : List ℕ) (p : ℕ) (us : List ℕ) (i : ℕ) → i < p → get_or (put s p us) i 0 ≡ get_or s i 0
unfolding put
put-below s p [] i h = refl
put-below s p (u ∷ us) i h =
    put-below (set s p u) (p + 1) us i (omega arith) ∙ get_or-set_other s p i u 0 (λ e. omega (arith, e))

pub put-behind : (s : List ℕ) (p : ℕ) (us : List ℕ) (i : ℕ) → p + length us ≤ i → get_or (put s p us) i 0 ≡ get_or s i 0
unfolding put
put-behind s p [] i h = refl
put-behind s p (u ∷ us) i h =
    put-behind (set s p u) (p + 1) us i (omega arith) ∙ get_or-set_other s p i u 0 (λ e. omega (arith, e, h))

-- The units put are where they were put.
pub put-there :
    (s :
    List ℕ) (p : ℕ) (us : List ℕ) → p + length us ≤ length s → (k : ℕ) → k < length us
    → get_or (put s p us) (p + k) 0 ≡ get_or us k 0
unfolding put
put-there s p [] fits k h = absurd (omega (arith, h))
put-there s p (u ∷ us) fits zero h =
    ap (λ i. get_or (put (set s p u) (p + 1) us) i 0) (add-zero p)
    ∙ put-below (set s p u) (p + 1) us p (omega arith)
    ∙ get_or-set_same s p u 0 (omega (arith, fits))
put-there s p (u ∷ us) fits (suc k) h =
    let at : p + suc k ≡ p + 1 + k = omega arith in
    ap (λ i. get_or (put (set s p u) (p + 1) us) i 0) at
    ∙ put-there (set s p u) (p + 1) us (omega (arith, fits, length-set s p u)) k (omega arith)

-- Units put one behind another, as the library says it: the part from p on replaced by them.
put_sets : (s : List ℕ) (p : ℕ) (us : List ℕ) → put s p us ≡ sets s p us
unfolding put
put_sets s p [] = refl
put_sets s p (u ∷ us) = put_sets (set s p u) (p + 1) us ∙ ap (λ k. sets (set s p u) k us) (add-one p)

pub put-part :
    (s : List ℕ) (p k : ℕ) (us vs : List ℕ) → vs ≡ us → k ≡ length us → p + length us ≤ length s → put_mid p k s vs ≡ put s p us
put-part s p k us vs same at fits =
    put_mid-paste p k s vs us k same refl at ∙ paste_all s p us k at ∙ ap (λ n. take p s ++ (us ++ drop (p + n) s)) at
    ∙ sym (append_assoc (take p s) us (drop (p + length us) s)) ∙ sym (sets-eq us s p fits) ∙ sym (put_sets s p us)

-- A unit of the store is a unit of its usable part.
pub usable-unit : (s : List ℕ) (i : ℕ) → i < usable_units → get_or (usable s) i 0 ≡ get_or s i 0
usable-unit s i h = get_or-take usable_units s i 0 h

-- What fits every unit of the store fits every unit of its usable part.
pub usable-narrow : (s : List ℕ) → Narrow s → Narrow (usable s)
usable-narrow s narrow = record { fits = λ i. on i (ltb i usable_units) refl }
  where
    on : (i : ℕ) (t : Bool) → ltb i usable_units ≡ t → get_or (usable s) i 0 < 65536
    on i true e = omega (arith, usable-unit s i (ltb-true i usable_units e), narrow.fits i)
    on i false e =
        let past : length (usable s) ≤ i = omega (arith, length-usable s, ltb-false i usable_units e) in
        omega (arith, get_or-eq_default (usable s) 0 past)

-- So the units put stand there.
pub put-stands :
    (s : List ℕ) (p : ℕ) (us : List ℕ) → p + length us ≤ min usable_units (length s) → stand_all (usable (put s p us)) p us ≡ true
put-stands s p us fits = all-stand (usable (put s p us)) p us (λ k h. record {
  within = omega (arith, fits, length-usable (put s p us), length-put s p us);
  there = usable-unit (put s p us) (p + k) (omega (arith, fits)) ∙ put-there s p us (omega (arith, fits)) k h;
})

-- Putting the units that stand there changes nothing.
pub put-standing : (s : List ℕ) (p : ℕ) (us : List ℕ) → stand_all (usable s) p us ≡ true → put s p us ≡ s
unfolding put
put-standing s p [] st = refl
put-standing s p (u ∷ us) st =
    let f : First (usable s) p u us = first-stands (usable s) p u us st in
    let is : get_or s p 0 ≡ u =
    sym (usable-unit s p (omega (arith, f.first.within, length-usable s))) ∙ f.first.there in
    let same : set s p u ≡ s = ap (set s p) (sym is) ∙ set-get_or s p 0 in
    ap (λ l. put l (p + 1) us) same ∙ put-standing s (p + 1) us f.others
