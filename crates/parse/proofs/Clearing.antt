-- Words that are spare from a place on, looked at one after the other.
use mathlib.Core.Path.{◌≡◌, refl, sym, subst, ◌∙◌}
use mathlib.Core.List.{List, [], ◌∷◌}
use Prim.Native.Nat.{ℕ, zero, suc, ◌+◌, ◌≤◌, ◌<◌}
use native.Mathlib.Decide.{dec_lt, ℕ_discrete}
use native.Mathlib.Omega.{arith}
use lib.ListN.{length, get_or, get_or-eq_default}
use Rattle.parse.specs.inner.Parts.{Spare, SpareBetween}
use Rattle.parse.proofs.Passing.{Passed}

-- The word at a place is spare.
abbrev pub IsSpare : {A : Type 0} → A → List A → ℕ → Type 0
IsSpare d words i = get_or words i d ≡ d

-- All have been looked at.
pub all_spare : {A : Type 0} (d : A) (words : List A) (from i : ℕ) → Passed (IsSpare d words) from i → length words ≤ i → Spare d words from
all_spare d words from i h last = record {
  each = λ j l. elim (dec_lt j i) [ yes b ↦ h.each j l b | no n ↦ get_or-eq_default words d {n = j} (omega arith) ];
}

-- Of a word that is there it does not matter what stands for one that is not.
pub there : {A : Type 0} (words : List A) (i : ℕ) (d e : A) → i < length words → get_or words i d ≡ get_or words i e
there [] i d e l = absurd (omega (arith, l))
there (w ∷ ws) zero d e l = refl
there (w ∷ ws) (suc i) d e l = there ws i d e (omega arith)

-- A block that is spare so far, with one more word.
pub block_more : {A : Type 0} (d : A) (words : List A) (from i : ℕ) → SpareBetween d words from i → get_or words i d ≡ d → SpareBetween d words from (i + 1)
block_more d words from i h here = record { each = λ j l m. elim (ℕ_discrete j i) [ yes e ↦ subst (IsSpare d words) (sym e) here | no n ↦ h.each j l (lower j m n) ] }
  where
    lower : (j : ℕ) → j < i + 1 → (j ≡ i → ⊥) → j < i
    lower j m n = omega arith

-- A word read there is spare where it equals the spare one, and only there.
pub read_spare : {A : Type 0} (words : List A) (i : ℕ) {x s d : A} → i < length words → x ≡ get_or words i x → s ≡ d → x ≡ s → get_or words i d ≡ d
read_spare words i {x} {s} {d} l is spare same = there words i d x l ∙ sym is ∙ same ∙ spare

pub spare_read : {A : Type 0} (words : List A) (i : ℕ) {x s d : A} → i < length words → x ≡ get_or words i x → s ≡ d → get_or words i d ≡ d → x ≡ s
spare_read words i {x} {s} {d} l is spare e = is ∙ there words i x d l ∙ e ∙ sym spare
