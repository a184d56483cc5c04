-- How a yes or no comes about.
use mathlib.Core.Path.{◌≡◌, refl, sym, subst}
use mathlib.Core.Bool.{Bool, true, false, not}
use Prim.Native.Nat.{ℕ, ◌≤◌, ◌<◌}
use native.Mathlib.Omega.{arith}
use lib.Dec.{ltb, leb, eqb}
use borrow.Author.Tests.{ltb-true, ltb-false, leb-true, leb-false, eqb-true, eqb-false, not-true, not-false}
use Rattle.laws.specs.Decides.{Decides}

-- Yes is not no.
pub true_false : true ≡ false → ⊥
true_false e = let z : ◌≡◌ {A = ℕ} 0 1 = cc in omega arith

pub false_true : false ≡ true → ⊥
false_true e = let z : ◌≡◌ {A = ℕ} 0 1 = cc in omega arith

module _ {P : Type 0} where
  -- Yes, since P holds; no, since it does not.
  pub says_yes_lem : P → Decides true P
  says_yes_lem p = record { if_yes = λ e. p; if_no = λ e x. true_false e }

  pub says_no : (P → ⊥) → Decides false P
  says_no n = record { if_yes = λ e. absurd (false_true e); if_no = λ e. n }

  -- The same of an answer that is known to be no.
  pub known_no : {b : Bool} → b ≡ false → (P → ⊥) → Decides b P
  known_no {b} e n = subst (λ (t : Bool). Decides t P) (sym e) (says_no n)

  -- The answer is a comparison.
  pub says-ltb : (a b : ℕ) → (a < b → P) → (b ≤ a → P → ⊥) → Decides (ltb a b) P
  says-ltb a b y n = record { if_yes = λ e. y (ltb-true a b e); if_no = λ e. n (ltb-false a b e) }

  pub says-leb : (a b : ℕ) → (a ≤ b → P) → (b < a → P → ⊥) → Decides (leb a b) P
  says-leb a b y n = record { if_yes = λ e. y (leb-true a b e); if_no = λ e. n (leb-false a b e) }

  pub says-eqb : (a b : ℕ) → (a ≡ b → P) → ((a ≡ b → ⊥) → P → ⊥) → Decides (eqb a b) P
  says-eqb a b y n = record { if_yes = λ e. y (eqb-true a b e); if_no = λ e. n (eqb-false a b e) }

  pub says_differ : (a b : ℕ) → ((a ≡ b → ⊥) → P) → (a ≡ b → P → ⊥) → Decides (not (eqb a b)) P
  says_differ a b y n = record {
    if_yes = λ e. y (eqb-false a b (not-true _ e));
    if_no = λ e. n (eqb-true a b (not-false _ e));
  }

-- What decides P decides whatever holds exactly where P does.
pub decides_map : {P Q : Type 0} {b : Bool} → (P → Q) → (Q → P) → Decides b P → Decides b Q
decides_map to from d = record { if_yes = λ e. to (d.if_yes e); if_no = λ e q. d.if_no e (from q) }

-- No, where a part of it was told not to hold.
pub part_fails : {a : Bool} {P Q : Type 0} → Decides a P → not a ≡ true → (Q → P) → Decides false Q
part_fails {a} d e part = says_no (λ q. d.if_no (not-true a e) (part q))

-- What was told to hold holds.
pub passes : {a : Bool} {P : Type 0} → Decides a P → not a ≡ false → P
passes {a} d e = d.if_yes (not-false a e)

-- What decides of two numbers decides of their equals.
pub decides_of : {r : Bool} (P : ℕ → ℕ → Type 0) {a b c d : ℕ} → a ≡ c → b ≡ d → Decides r (P a b) → Decides r (P c d)
decides_of {r} P {a} {b} {c} {d} p q t = subst (λ (y : ℕ). Decides r (P c y)) q (subst (λ (x : ℕ). Decides r (P x b)) p t)

-- What equals a comparison decides it.
pub says-lower : {r : Bool} (a b : ℕ) → r ≡ ltb a b → Decides r (a < b)
says-lower {r} a b s = subst (λ (t : Bool). Decides t (a < b)) (sym s) (says-ltb a b (λ l. l) (λ m l. not_lt m l))
  where
    not_lt : b ≤ a → a < b → ⊥
    not_lt m l = omega arith

-- Two answers that decide one thing agree.
pub decide_alike : {a b : Bool} {P : Type 0} → Decides a P → Decides b P → a ≡ b
decide_alike {a = true} {b = true} s t = refl
decide_alike {a = true} {b = false} s t = absurd (t.if_no refl (s.if_yes refl))
decide_alike {a = false} {b = true} s t = absurd (s.if_no refl (t.if_yes refl))
decide_alike {a = false} {b = false} s t = refl
