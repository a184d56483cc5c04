-- Words put into a place, one stretch behind the other.
use mathlib.Core.Path.{◌≡◌, refl, sym, ap, ap₂, subst, ◌∙◌}
use mathlib.Core.List.{List, [], ◌∷◌, ◌++◌, append_assoc}
use Prim.Native.Nat.{ℕ, suc, ◌+◌, ◌/◌, ◌%◌, ◌≤◌, ◌<◌}
use native.Mathlib.Omega.{arith}
use lib.ListN.{length, take, drop, set, length-append, length-drop, take-append-drop}
use lib.Seq.{length-take-le, take_at, drop-append-add, drop-drop, set_split}
use Rattle.reports.specs.Decimal.{digit, decimal}
use Rattle.std.specs.Prelude.{Ok, Err}
use Rattle.reports.specs.declared.Unfilled.TheVariants.{TooShort}
use Rattle.reports.specs.inner.Puts.{Puts, written}
use Rattle.reports.specs.inner.Puts.Puts.{short, wrote}
use Rattle.reports.specs.inner.Lines.{PutAt}
use Rattle.reports.proofs.Digits.{below_ten, from_ten, one_digit, one_more}

module _ (place : List ℕ) (at : ℕ) where
  -- The place stays as long as it is.
  written-length : (words : List ℕ) → at + length words ≤ length place → length (written place at words) ≡ length place
  written-length words l =
      length-append (take at place) (words ++ drop (at + length words) place)
      ∙ omega (arith, length-append words (drop (at + length words) place), length-take-le at place (omega arith), length-drop (at + length words) place)

  -- Nothing written changes nothing.
  written_none : written place at [] ≡ place
  written_none =
      let here : at + 0 ≡ at = omega arith in
      ap (λ (n : ℕ). take at place ++ drop n place) here ∙ take-append-drop at place

  -- Written twice, one behind the other, is written once.
  written_twice : (a b : List ℕ) → at + length a ≤ length place → written (written place at a) (at + length a) b ≡ written place at (a ++ b)
  written_twice a b l =
      let rest : List ℕ = drop (at + length a) place in
      let front : List ℕ = take at place ++ a in
      let long : length front ≡ at + length a = omega (arith, length-append (take at place) a, length-take-le at place (omega arith)) in
      let whole : written place at a ≡ front ++ rest = sym (append_assoc (take at place) a rest) in
      let before : take (at + length a) (written place at a) ≡ front = ap (take (at + length a)) whole ∙ take_at front rest (at + length a) long in
      let both : at + length a + length b ≡ at + length (a ++ b) = omega (arith, length-append a b) in
      let behind : drop (at + length a + length b) (written place at a) ≡ drop (at + length (a ++ b)) place =
      ap (drop (at + length a + length b)) whole
      ∙ ap (λ (n : ℕ). drop (n + length b) (front ++ rest)) (sym long)
      ∙ drop-append-add front rest (length b)
      ∙ drop-drop (length b) (at + length a) place
      ∙ ap (λ (n : ℕ). drop n place) both in
      ap₂ (λ (x y : List ℕ). x ++ (b ++ y)) before behind
      ∙ append_assoc (take at place) a (b ++ drop (at + length (a ++ b)) place)
      ∙ ap (λ (x : List ℕ). take at place ++ x) (sym (append_assoc a b (drop (at + length (a ++ b)) place)))

  -- A store is one word written.
  written_one : (w : ℕ) → at < length place → set place at w ≡ written place at (w ∷ [])
  written_one w l =
      let next : suc at ≡ at + 1 = omega arith in
      set_split place at w l ∙ ap (λ (n : ℕ). take at place ++ (w ∷ drop n place)) next

-- A place keeps its length.
pub put-length : {place left words : List ℕ} {at end : ℕ} → PutAt place at words end left → length left ≡ length place
put-length {place} {left} {words} {at} p = ap length p.leaves ∙ written-length place at words p.fits

-- Nothing put.
pub put_none : (place : List ℕ) → PutAt place 0 [] 0 place
put_none place = record { fits = omega arith; ends = refl; leaves = sym (written_none place 0) }

-- Words put, and others behind them.
pub put_then : {place mid left a b : List ℕ} {at m end : ℕ} → PutAt place at a m mid → PutAt mid m b end left → PutAt place at (a ++ b) end left
put_then {place} {mid} {left} {a} {b} {at} {m} p q = record {
  fits = omega (arith, length-append a b, p.ends, q.fits, put-length p);
  ends = omega (arith, length-append a b, p.ends, q.ends);
  leaves = q.leaves ∙ ap₂ (λ (l : List ℕ) (n : ℕ). written l n b) p.leaves p.ends ∙ written_twice place at a b p.fits;
}

-- A byte stored.
put_byte : (place : List ℕ) (at b : ℕ) → at < length place → PutAt place at (b ∷ []) (at + 1) (set place at b)
put_byte place at b l = record { fits = omega arith; ends = refl; leaves = written_one place at b l }

-- Words copied over as many words from `at` on.
pub put_over : (place words copied : List ℕ) (at size : ℕ) → at + length words ≤ length place → size ≡ length words → copied ≡ words
    → PutAt place at words (at + length words) (take at place ++ (copied ++ drop size (drop at place)))
put_over place words copied at size fits counts is = record {
  fits = fits;
  ends = refl;
  leaves = ap (λ (x : List ℕ). take at place ++ x)
      (ap₂ (λ (x : List ℕ) (n : ℕ). x ++ drop n (drop at place)) is counts ∙ ap (λ (x : List ℕ). words ++ x) (drop-drop (length words) at place));
}

-- A number below ten is put by its one digit.
pub put-digit : {place : List ℕ} {at n b : ℕ} → at + length (decimal n) ≤ length place → n < 10 → b ≡ digit n → PutAt place at (decimal n) (at + 1) (set place at b)
put-digit {place} {at} {n} {b} fits l e =
    subst (λ (ds : List ℕ). PutAt place at ds (at + 1) (set place at b)) (ap (λ (d : ℕ). d ∷ []) e ∙ sym (below_ten n l))
    (put_byte place at b (omega (arith, one_digit n l)))

-- From ten on the tens are put, and the last digit behind them.
pub put_tens : {place mid : List ℕ} {at m n b : ℕ} → at + length (decimal n) ≤ length place → 10 ≤ n → PutAt place at (decimal (n / 10)) m mid
    → b ≡ digit (n % 10) → PutAt place at (decimal n) (m + 1) (set mid m b)
put_tens {place} {mid} {at} {m} {n} {b} fits l p e =
    subst (λ (ds : List ℕ). PutAt place at ds (m + 1) (set mid m b)) (ap (λ (d : ℕ). decimal (n / 10) ++ (d ∷ [])) e ∙ sym (from_ten n l))
    (put_then p (put_byte mid m b (omega (arith, p.ends, one_more n l, put-length p))))

-- A list that is put from the start of its place on is written ..
pub told_wrote : {list place left : List ℕ} {end : ℕ} → PutAt place 0 list end left → Puts list place (Ok end) left
told_wrote {list} {place} {left} {end} p =
    subst (λ (n : ℕ). Puts list place (Ok n) left) (sym whole) (subst (Puts list place (Ok (length list))) (sym leaves) (wrote (omega (arith, p.fits))))
  where
    whole : end ≡ length list
    whole = omega (arith, p.ends)

    leaves : left ≡ list ++ drop (length list) place
    leaves =
        let from-the-start : 0 + length list ≡ length list = omega arith in
        p.leaves ∙ ap (λ (n : ℕ). list ++ drop n place) from-the-start

-- .. and of one that is longer than its place the length is told.
pub told_short : {list place : List ℕ} {needed : ℕ} → needed ≡ length list → length place < needed → Puts list place (Err (TooShort needed)) place
told_short {list} {place} e l = subst (λ (n : ℕ). Puts list place (Err (TooShort n)) place) (sym e) (short (omega (arith, e)))
