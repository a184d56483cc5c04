-- Each condition of the check as the code comes to it.
use mathlib.Core.List.{List}
use Prim.Native.Nat.{ℕ, ◌+◌, ◌<◌}
use native.Mathlib.Omega.{arith}
use borrow.Author.Count.{below_more}
use Rattle.grammar.specs.inner.Checking.{Drawn, Adjoins, Precedes, Ruled, Same}

-- Every rule from 1 to `r` is as asked, one after the other.
pub ruled_none : (words : List ℕ) (n t : ℕ) → Ruled words n t 1
ruled_none words n t = record { drawn = λ r l m. absurd (omega arith); adjoins = λ r l m. absurd (omega arith); precedes = λ r l m. absurd (omega arith) }

pub ruled-more : (words : List ℕ) (n t r : ℕ) → Ruled words n t r → Drawn words n t r → Adjoins words r → Precedes words r → Ruled words n t (r + 1)
ruled-more words n t r h d a p = record {
  drawn = λ q z m. below_more (λ k. 0 < k → Drawn words n t k) r (λ k l u. h.drawn k u l) (λ u. d) q m z;
  adjoins = λ q z m. below_more (λ k. 0 < k → Adjoins words k) r (λ k l u. h.adjoins k u l) (λ u. a) q m z;
  precedes = λ q z m. below_more (λ k. 0 < k → Precedes words k) r (λ k l u. h.precedes k u l) (λ u. p) q m z;
}

-- A search among all pairs: no pair below rule `r` is equal, and none of `q` lower rules equals rule `r`.
pub record PairsPassed (words : List ℕ) (r : ℕ) : Type 0 where
  pub passed : (h : ℕ) → h < r → (k : ℕ) → k < h → Same words k h → ⊥

pub record RowPassed (words : List ℕ) (r q : ℕ) : Type 0 where
  pub passed : (k : ℕ) → k < q → Same words k r → ⊥
