-- What a filled place is settles the number, the count and the place.
use mathlib.Core.Path.{◌≡◌, refl, ap}
use mathlib.Core.List.{List, ◌++◌}
use Prim.Native.Nat.{ℕ}
use native.Mathlib.Omega.{arith}
use lib.ListN.{length, drop}
use Rattle.laws.specs.Fills.{Fills}
use Rattle.laws.specs.Fills.Fills.{refused, short, done}

pub record SameFill {A : Type 0} (n c : ℕ) (out : List A) (m d : ℕ) (other : List A) : Type 0 where
  pub number : n ≡ m
  pub count : c ≡ d
  pub place : out ≡ other

-- Faults and lists that are one each, and never both, leave one answer.
module _ {A : Type 0} {Fault : ℕ → Type 0} {Gives : List A → Type 0} {place : List A} (one-fault : (n m : ℕ) → Fault n → Fault m → n ≡ m)
    (one_list : (l k : List A) → Gives l → Gives k → l ≡ k) (never_both : (n : ℕ) (l : List A) → Fault n → Gives l → ⊥) where
  pub fills_agree : {n c : ℕ} {out : List A} {m d : ℕ} {other : List A} → Fills Fault Gives place n c out → Fills Fault Gives place m d other
      → SameFill n c out m d other
  fills_agree (refused f) (refused h) = record { number = one-fault _ _ f h; count = refl; place = refl }
  fills_agree (refused f) (short g l) = absurd (never_both _ _ f g)
  fills_agree (refused f) (done g l) = absurd (never_both _ _ f g)
  fills_agree (short g l) (refused f) = absurd (never_both _ _ f g)
  fills_agree (short g l) (short h k) = record { number = refl; count = ap length (one_list _ _ g h); place = refl }
  fills_agree (short g l) (done h k) = absurd (omega (arith, ap length (one_list _ _ g h)))
  fills_agree (done g l) (refused f) = absurd (never_both _ _ f g)
  fills_agree (done g l) (short h k) = absurd (omega (arith, ap length (one_list _ _ g h)))
  fills_agree (done g l) (done h k) = record {
    number = refl;
    count = ap length (one_list _ _ g h);
    place = ap (λ (x : List A). x ++ drop (length x) place) (one_list _ _ g h);
  }
