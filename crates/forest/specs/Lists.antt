-- Lists in order, lists in which nothing is twice, and the k-th member.
use mathlib.Core.List.{List, [], ◌∷◌, Memᴰ as Member}
use Rattle.std.specs.Prelude.{◌≢◌, ℕ, zero, suc}

-- Each member stands in the relation to every one behind it.
pub data Ordered {A : Type 0} (R : A → A → Type 0) : List A → Type 0 where
  none : Ordered R []
  more : {x : A} {l : List A} → ((y : A) → Member y l → R x y) → Ordered R l → Ordered R (x ∷ l)

-- Nothing is there twice.
abbrev pub Once : {A : Type 0} → List A → Type 0
Once l = Ordered (λ x y. x ≢ y) l

-- `x` is the k-th member, k from 0.
pub data At {A : Type 0} : List A → ℕ → A → Type 0 where
  first : {x : A} {l : List A} → At (x ∷ l) zero x
  later : {x y : A} {l : List A} {k : ℕ} → At l k x → At (y ∷ l) (suc k) x
