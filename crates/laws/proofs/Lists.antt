-- Laws on lists that the kit lacks.
use mathlib.Core.Path.{◌≡◌, refl, ap, ◌∙◌}
use mathlib.Core.List.{List, [], ◌∷◌}
use Prim.Native.Nat.{ℕ, zero, suc, ◌-◌}
use native.Mathlib.Omega.{arith}
use lib.ListN.{get_or, set, drop, replicate}

-- A word of 0s is 0, there or not.
pub zeros_word : (n i : ℕ) → ◌≡◌ {A = ℕ} (get_or (replicate n 0) i 0) 0
zeros_word zero i = refl
zeros_word (suc n) zero = refl
zeros_word (suc n) (suc i) = zeros_word n i

-- Of 0s without the first, 0s are left.
pub drop_zeros : (n k : ℕ) → ◌≡◌ {A = List ℕ} (drop k (replicate n 0)) (replicate (n - k) 0)
drop_zeros n zero = let same : n ≡ n - 0 = omega arith in ap (λ (m : ℕ). replicate m 0) same
drop_zeros zero (suc k) = let same : 0 ≡ 0 - suc k = omega arith in ap (λ (m : ℕ). replicate m 0) same
drop_zeros (suc n) (suc k) = let same : n - k ≡ suc n - suc k = omega arith in drop_zeros n k ∙ ap (λ (m : ℕ). replicate m 0) same

module _ {A : Type 0} where
  -- After a store each place has what was stored or what it had.
  pub set-either : (P : A → Type 0) (l : List A) (i : ℕ) (a : A) (k : ℕ) (d : A) → P a → P (get_or l k d) → P (get_or (set l i a) k d)
  set-either P [] i a k d new old = old
  set-either P (x ∷ l) zero a zero d new old = new
  set-either P (x ∷ l) zero a (suc k) d new old = old
  set-either P (x ∷ l) (suc i) a zero d new old = old
  set-either P (x ∷ l) (suc i) a (suc k) d new old = set-either P l i a k d new old
