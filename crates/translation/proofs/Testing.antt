-- Tests of right sides: what they tell.
use Rattle.std.proofs.Common.{◌≡◌, refl, sym, ap₂, ◌∙◌, Bool, true, ◌&&◌, List, [], ◌∷◌, ℕ, ◌<◌, ltb, ⊎_elim, ltb-true, lt-ltb}
use Rattle.std.specs.List.{list_all, list_any}
use Rattle.laws.proofs.Tests.{both_true}
use Rattle.laws.proofs.Decides.{false_true}
use Rattle.laws.specs.Decides.{Decides}
use Rattle.written.specs.Form.{symbols_at}
use Rattle.written.proofs.Lists.{each_map}
use Rattle.translation.specs.inner.Symbols.{AllBelow}
use Rattle.written.specs.Lists.{In, Each}
use Rattle.written.specs.Lists.Each.{end, and}
use Rattle.written.proofs.Listing.{either_true, or_first, or_second}

module _ (test : ℕ → Bool) where
  -- Yes exactly where all pass.
  pub each_true : (l : List ℕ) → list_all test l ≡ true → Each (λ (x : ℕ). test x ≡ true) l
  each_true [] e = end
  each_true (x ∷ l) e = let b = both_true (test x) (list_all test l) e in and b.0 (each_true l b.1)

  pub true_each : {l : List ℕ} → Each (λ (x : ℕ). test x ≡ true) l → list_all test l ≡ true
  true_each end = refl
  true_each (and p q) = ap₂ ◌&&◌ p (true_each q)

  -- Yes exactly where one does.
  pub record Some (l : List ℕ) : Type 0 where
    pub symbol : ℕ
    pub within : In symbol l
    pub passes : test symbol ≡ true

  some_more : (y : ℕ) {l : List ℕ} → Some l → Some (y ∷ l)
  some_more y s = record { symbol = s.symbol; within = In.there s.within; passes = s.passes }

  pub some_true : (l : List ℕ) → list_any test l ≡ true → Some l
  some_true [] e = absurd (false_true e)
  some_true (x ∷ l) e = ⊎_elim (λ h. record { symbol = x; within = In.here; passes = h }) (λ h. some_more x (some_true l h)) (either_true (test x) (list_any test l) e)

  pub true_some : {l : List ℕ} {x : ℕ} → In x l → test x ≡ true → list_any test l ≡ true
  true_some (In.here {l = l}) h = or_first (list_any test l) h
  true_some (In.there {y = y} i) h = or_second (test y) (true_some i h)

-- Whether all symbols are below a limit.
pub below-decided : {answer : Bool} (limit : ℕ) (bytes : List ℕ) (at n : ℕ) → answer ≡ list_all (λ (x : ℕ). ltb x limit) (symbols_at bytes at n) → Decides answer (AllBelow limit bytes at n)
below-decided limit bytes at n e = record {
  if_yes = λ y. record { below = each_map (λ x (t : ltb x limit ≡ true). ltb-true x limit t) (each_true _ _ (sym e ∙ y)) };
  if_no = λ n a. false_true (sym n ∙ e ∙ true_each _ (each_map (λ x (h : x < limit). lt-ltb x limit h) a.below));
}
