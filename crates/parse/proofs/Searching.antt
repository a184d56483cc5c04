-- A test asked of each number of a range.
use Rattle.std.proofs.Common.{arith, ◌≡◌, ℕ, ◌+◌, ◌-◌, ◌≤◌, ◌<◌, Bool, true, false, length, get_or, sym, subst}
use Rattle.std.specs.Bool.{MatchBool}
use Rattle.std.specs.List.{range_with_len, AllWithin, HoldsAt}
use Rattle.std.proofs.lemmas.List.FromFn.{length-range_with_len, get_or-range_with_len}
use Rattle.laws.specs.Decides.{Decides}
use Rattle.laws.proofs.Decides.{says_yes_lem, says_no}

-- `all` over a range decides that the test holds of each number in it.
pub all_decides : (P : ℕ → Type 0) (r : Bool) (a b : ℕ) → MatchBool r (AllWithin P (range_with_len a (b - a)) 0 (length (range_with_len a (b - a)))) ((k : ℕ) × (k < length (range_with_len a (b - a))) × HoldsAt (λ x. P x → ⊥) (range_with_len a (b - a)) k)
    → Decides r ((x : ℕ) → a ≤ x → x < b → P x)
all_decides P true a b m = says_yes_lem (λ x low high. subst P (at x low high) (m (x - a) 0 (omega arith) (omega (arith, length-range_with_len a (b - a)))))
  where
    at : (x : ℕ) → a ≤ x → x < b → get_or (range_with_len a (b - a)) (x - a) 0 ≡ x
    at x low high = omega (arith, get_or-range_with_len a (b - a) (x - a) 0 (omega arith))
all_decides P false a b m =
    let k = m.0 in
    let low : k < b - a = omega (arith, m.1, length-range_with_len a (b - a)) in
    says_no (λ h. m.2 0 (subst P (sym (get_or-range_with_len a (b - a) k 0 low)) (h (a + k) (omega arith) (omega arith))))
