-- A fault is seen exactly where no node stands: so of a 12 there is a lowest one.
use Rattle.std.proofs.Common.{ℕ, ◌+◌, ◌≡◌, refl, sym, subst, ◌∙◌, Bool, true, false, List, [], ◌∷◌, ◌++◌, arith, get_or, ltb, eqb, le-ltb, ltb-false, eqb-true, ne_eqb, Some}
use Rattle.node.specs.Choice.{pick, both}
use Rattle.node.specs.Rows.{units_at}
use Rattle.node.specs.Reading.{stand, stand_all, spelt, head_right, not_zero, faults}
use Rattle.node.specs.declared.Node.{Node}
use Rattle.node.proofs.Stands.{First, first-stands}
use Rattle.node.proofs.Almost.{Narrow, Almost, almost, stands, wide}
use Rattle.node.proofs.Exact.{right_of, stand-right}

-- Of units that stand none is other than zero where zero is due.
none_due : (s : List ℕ) (q : ℕ) (us : List ℕ) → stand_all s q us ≡ true → not_zero s q us ≡ []
unfolding not_zero
none_due s q [] st = refl
none_due s q (u ∷ us) st = on (eqb u 0) refl (none_due s (q + 1) us f.others)
  where
    f : First s q u us
    f = first-stands s q u us st

    on : (t : Bool) → eqb u 0 ≡ t → not_zero s (q + 1) us ≡ []
        → pick (both t (ltb 0 (get_or s q 0))) (q ∷ not_zero s (q + 1) us) (not_zero s (q + 1) us) ≡ []
    on true e rest =
        let none : ltb 0 (get_or s q 0) ≡ false = le-ltb 0 (get_or s q 0) (omega (arith, f.first.there, eqb-true u 0 e)) in rw none rest
    on false e rest = rest

-- Where a node stands, no fault is seen.
pub none_seen : (s : List ℕ) (q : ℕ) (n : Node) → stand s q (units_at q n) ≡ true → faults s q (Some n) ≡ []
unfolding faults stand
none_seen s q n st = on (units_at q n) st
  where
    on : (us : List ℕ) → stand s q us ≡ true → pick (head_right s q us) [] (q ∷ []) ++ not_zero s q us ≡ []
    on [] st = cc
    on (u ∷ us) st = rw (right_of s q u us us refl st) (none_due s q (u ∷ us) st)

-- Where the node that units spell does not stand, one is.
pub one_seen :
    (s : List ℕ) (q : ℕ) (n : Node) → Narrow s → spelt s q ≡ Some n → stand s q (units_at q n) ≡ false → faults s q (Some n) ≡ [] → ⊥
unfolding faults not_zero
one_seen s q n narrow like fallen none = right_case (head_right s q (units_at q n)) refl
  where
    differ : (t : Bool) → t ≡ true → t ≡ false → ⊥
    differ t a b = let z : ◌≡◌ {A = ℕ} 0 1 = cc in omega arith

    wide_case : (w l h : ℕ) → (w ≡ 0 → ⊥) → units_at q n ≡ w ∷ 0 ∷ l ∷ h ∷ [] → head_right s q (units_at q n) ≡ true
        → stand_all s q (w ∷ get_or s (q + 1) 0 ∷ l ∷ h ∷ []) ≡ true → (t : Bool) → ltb 0 (get_or s (q + 1) 0) ≡ t → ⊥
    wide_case w l h nonzero is right st true e =
        let z : ◌≡◌ {A = List ℕ} ((q + 1) ∷ not_zero s (q + 1 + 1) (l ∷ h ∷ [])) [] =
        sym (rw (right, is) (simp (ne_eqb w 0 nonzero, e))) ∙ none in
        let y : ◌≡◌ {A = ℕ} 0 1 = cc in omega arith
    wide_case w l h nonzero is right st false e =
        let zero-there : get_or s (q + 1) 0 ≡ 0 = omega (arith, ltb-false 0 (get_or s (q + 1) 0) e) in
        let whole : stand_all s q (units_at q n) ≡ true =
        subst (λ us. stand_all s q us ≡ true) (sym is) (subst (λ g. stand_all s q (w ∷ g ∷ l ∷ h ∷ []) ≡ true) zero-there st) in
        differ _ (stand-right s q (units_at q n) right whole) fallen

    almost_case : head_right s q (units_at q n) ≡ true → Almost s q (units_at q n) → ⊥
    almost_case right (stands st) = differ _ (stand-right s q (units_at q n) right st) fallen
    almost_case right (wide w l h nonzero is st) = wide_case w l h nonzero is right st (ltb 0 (get_or s (q + 1) 0)) refl

    right_case : (t : Bool) → head_right s q (units_at q n) ≡ t → ⊥
    right_case true right = almost_case right (almost s q narrow n like right)
    right_case false wrong =
        let z : ◌≡◌ {A = List ℕ} (q ∷ not_zero s q (units_at q n)) [] = sym (rw wrong) ∙ none in
        let y : ◌≡◌ {A = ℕ} 0 1 = cc in omega arith
