-- A list in front of a place, and what is put behind it.
use mathlib.Core.Path.{◌≡◌, refl, sym, ap, subst, subst₂, ◌∙◌}
use mathlib.Core.List.{List, [], ◌∷◌, ◌++◌, append_assoc}
use Prim.Native.Nat.{ℕ, suc, ◌+◌, ◌≤◌, ◌<◌}
use native.Mathlib.Omega.{arith}
use lib.ListN.{length, set, drop, length-append, length-drop}
use lib.Seq.{take_at, drop-append-add, drop-drop, set-append_seam, drop-cons}
use Rattle.std.specs.Prelude.{Ok, Err}
use Rattle.reports.specs.declared.Unfilled.TheVariants.{TooShort}
use Rattle.reports.specs.inner.Puts.{Puts, written}

-- Words put right behind a list that stands in front of a place stand in front with it.
pub front-written : (place l words : List ℕ) → written (l ++ drop (length l) place) (length l) words ≡ (l ++ words) ++ drop (length (l ++ words)) place
front-written place l words =
    ap (λ (front : List ℕ). front ++ (words ++ drop (length l + length words) (l ++ drop (length l) place))) (take_at l (drop (length l) place) (length l) refl)
    ∙ ap (λ (rest : List ℕ). l ++ (words ++ rest)) (drop-append-add l (drop (length l) place) (length words) ∙ drop-drop (length words) (length l) place)
    ∙ sym (append_assoc l words (drop (length l + length words) place))
    ∙ ap (λ (n : ℕ). (l ++ words) ++ drop n place) (sym (length-append l words))

-- So does one word that is stored there.
pub front-stored : (place l : List ℕ) (x : ℕ) → length l < length place
    → set (l ++ drop (length l) place) (length l) x ≡ (l ++ (x ∷ [])) ++ drop (length (l ++ (x ∷ []))) place
front-stored place l x room =
    ap (λ (rest : List ℕ). set (l ++ rest) (length l) x) (drop-cons place (length l) 0 room)
    ∙ set-append_seam l _ (drop (suc (length l)) place) x
    ∙ sym (append_assoc l (x ∷ []) (drop (suc (length l)) place))
    ∙ ap (λ (n : ℕ). (l ++ (x ∷ [])) ++ drop n place) more
  where
    more : suc (length l) ≡ length (l ++ (x ∷ []))
    more = omega (arith, length-append l (x ∷ []))

-- A place with a list in front is as long as it was.
pub front_long : (place l : List ℕ) → length l ≤ length place → length (l ++ drop (length l) place) ≡ length place
front_long place l fits = omega (arith, length-append l (drop (length l) place), length-drop (length l) place)

-- A place that is shorter than the count of the list, and one that has the list in front.
pub puts_short : (list place : List ℕ) (needed : ℕ) → needed ≡ length list → length place < needed → Puts list place (Err (TooShort needed)) place
puts_short list place needed is l =
    let short : length place < length list = omega arith in subst (λ (n : ℕ). Puts list place (Err (TooShort n)) place) (sym is) (Puts.short short)

pub puts_wrote : (list place : List ℕ) (needed : ℕ) (out : List ℕ) → needed ≡ length list → needed ≤ length place → out ≡ list ++ drop (length list) place
    → Puts list place (Ok needed) out
puts_wrote list place needed out is l are =
    let fits : length list ≤ length place = omega arith in
    subst₂ (λ (n : ℕ) (o : List ℕ). Puts list place (Ok n) o) (sym is) (sym are) (Puts.wrote fits)
