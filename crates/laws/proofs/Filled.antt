-- A loop that fills places of a list one after the other.
use mathlib.Core.Path.{◌≡◌, sym, ap, ◌∙◌}
use mathlib.Core.Logic.{◌≢◌}
use mathlib.Core.List.{List}
use Prim.Native.Nat.{ℕ, ◌+◌, ◌<◌}
use native.Mathlib.Decide.{ℕ_discrete}
use native.Mathlib.Omega.{arith}
use lib.ListN.{length, get_or, set}
use lib.Seq.{get_or-set_same, get_or-set_other}

module _ {A : Type 0} (d : A) (f : ℕ → A) (l : List A) where
  -- One place more behind `b` is filled by what `f` says.
  pub filled_at : (b i : ℕ) (a : A) → a ≡ f i → b + i < length l → ((j : ℕ) → j < i → get_or l (b + j) d ≡ f j)
      → (j : ℕ) → j < i + 1 → get_or (set l (b + i) a) (b + j) d ≡ f j
  filled_at b i a e lt h j lj = elim (ℕ_discrete j i) [
    | yes p ↦ ap (λ (k : ℕ). get_or (set l (b + i) a) (b + k) d) p ∙ get_or-set_same l (b + i) a d lt ∙ e ∙ ap f (sym p)
    | no n ↦ get_or-set_other l (b + i) (b + j) a d (λ (q : b + j ≡ b + i). n (omega arith)) ∙ h j (lower n)
  ]
    where
      lower : j ≢ i → j < i
      lower n = omega arith

  -- The same from the list's first place on.
  pub filled_more : (i : ℕ) (a : A) → a ≡ f i → i < length l → ((j : ℕ) → j < i → get_or l j d ≡ f j)
      → (j : ℕ) → j < i + 1 → get_or (set l i a) j d ≡ f j
  filled_more i a e lt h j lj = elim (ℕ_discrete j i) [
    | yes p ↦ ap (λ (k : ℕ). get_or (set l i a) k d) p ∙ get_or-set_same l i a d lt ∙ e ∙ ap f (sym p)
    | no n ↦ get_or-set_other l i j a d n ∙ h j (lower n)
  ]
    where
      lower : j ≢ i → j < i
      lower n = omega arith
