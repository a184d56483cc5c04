-- Skipping fillers, one unit at a time.
use Rattle.std.proofs.Common.{ℕ, suc, ◌+◌, ◌≤◌, ◌<◌, ◌≡◌, refl, sym, ap, ◌∙◌, Bool, true, false, cond, eqb, List, [], ◌∷◌, add-zero, add-one, arith, length, get_or, drop, drop_of_length-le, drop-cons, eq-eqb, ne_eqb}
use Rattle.std.specs.List.{prefix_len}
use Rattle.std.proofs.lemmas.List.Sums.{prefix_len-le-length}
use Rattle.node.specs.Choice.{pick}
use Rattle.node.specs.Reading.{filler, fillers, head_from}

-- The library's word for it.
pub fillers_are : (us : List ℕ) → fillers us ≡ prefix_len (λ u. eqb u filler) us
unfolding fillers
fillers_are [] = refl
fillers_are (u ∷ us) = on (eqb u filler) (fillers_are us)
  where
    on : (t : Bool) → fillers us ≡ prefix_len (λ u. eqb u filler) us
        → pick t (suc (fillers us)) 0 ≡ cond t (1 + prefix_len (λ u. eqb u filler) us) 0
    on true rest = omega (arith, rest)
    on false rest = refl

pub fillers-few : (us : List ℕ) → fillers us ≤ length us
fillers-few us = omega (arith, fillers_are us, prefix_len-le-length (λ u. eqb u filler) us)

-- Past the end there is nothing to skip.
pub head_past : (s : List ℕ) (q : ℕ) → length s ≤ q → head_from s q ≡ q
unfolding fillers
head_past s q h = ap (λ us. q + fillers us) (drop_of_length-le s h) ∙ add-zero q

-- A unit that is no filler is the head.
pub head-here : (s : List ℕ) (q : ℕ) → q < length s → (get_or s q 0 ≡ filler → ⊥) → head_from s q ≡ q
unfolding fillers
head-here s q h differs =
    ap (λ us. q + fillers us) (drop-cons s q 0 h)
    ∙ ap (λ t. q + pick t (suc (fillers (drop (suc q) s))) 0) (ne_eqb (get_or s q 0) filler differs)
    ∙ add-zero q

-- A filler is skipped.
pub head_skip : (s : List ℕ) (q : ℕ) → q < length s → get_or s q 0 ≡ filler → head_from s q ≡ head_from s (q + 1)
unfolding fillers
head_skip s q h is =
    ap (λ us. q + fillers us) (drop-cons s q 0 h)
    ∙ ap (λ t. q + pick t (suc (fillers (drop (suc q) s))) 0) (eq-eqb (get_or s q 0) filler is)
    ∙ (let e : q + suc (fillers (drop (suc q) s)) ≡ q + 1 + fillers (drop (suc q) s) = omega arith in e)
    ∙ ap (λ k. q + 1 + fillers (drop k s)) (sym (add-one q))
