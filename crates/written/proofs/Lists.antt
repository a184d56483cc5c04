-- Laws on what is in a list, on what holds of all of it, on what stands before what, and on lists with nothing twice.
use mathlib.Core.Path.{◌≡◌, refl, sym, subst}
use mathlib.Core.List.{List, [], ◌∷◌, ◌++◌}
use mathlib.Core.Logic.{◌⊎◌, inl, inr, ⊎_elim}
use Prim.Native.Nat.{ℕ, zero, suc, ◌<◌}
use native.Mathlib.Omega.{arith}
use lib.ListN.{length, get_or}
use Rattle.written.specs.Lists.{In, Each}
use Rattle.written.specs.Lists.In.{here, there}
use Rattle.written.specs.Lists.Each.{end, and}

pub each-join : {A : Type 0} {P : A → Type 0} {l m : List A} → Each P l → Each P m → Each P (l ++ m)
each-join end q = q
each-join (and p l) q = and p (each-join l q)

pub each_part : {A : Type 0} {P : A → Type 0} (l m : List A) → Each P (l ++ m) → Each P l × Each P m
each_part [] m q = (end, q)
each_part (x ∷ l) m (and p q) = let r = each_part l m q in (and p r.0, r.1)

pub each_map : {A : Type 0} {P Q : A → Type 0} {l : List A} → ((x : A) → P x → Q x) → Each P l → Each Q l
each_map f end = end
each_map f (and {x = x} p q) = and (f x p) (each_map f q)

-- What holds of all holds of each that is there; and the other way round.
pub each_in : {A : Type 0} {P : A → Type 0} {l : List A} {x : A} → Each P l → In x l → P x
each_in end i = elim i [ ]
each_in (and p q) here = p
each_in (and p q) (there i) = each_in q i

pub in_each : {A : Type 0} {P : A → Type 0} (l : List A) → ((x : A) → In x l → P x) → Each P l
in_each [] f = end
in_each (x ∷ l) f = and (f x here) (in_each l (λ y i. f y (there i)))

-- Nothing is in the empty list.
pub none_there : {A : Type 0} {x : A} → In x [] → ⊥
none_there i = elim i [ ]

-- A place in a list, and what is in the list.
pub at_in : {A : Type 0} (l : List A) (i : ℕ) (d : A) → i < length l → In (get_or l i d) l
at_in [] i d h = absurd (omega arith)
at_in (x ∷ l) zero d h = here
at_in (x ∷ l) (suc i) d h = there (at_in l i d (omega arith))

pub record Placed {A : Type 0} (l : List A) (d x : A) : Type 0 where
  pub place : ℕ
  pub within : place < length l
  pub is : get_or l place d ≡ x

pub in_at : {A : Type 0} {l : List A} {x : A} (d : A) → In x l → Placed l d x
in_at d here = record { place = 0; within = omega arith; is = refl }
in_at d (there i) = let p = in_at d i in record { place = suc p.place; within = let h = p.within in omega arith; is = p.is }

-- The first of a list, or one behind it.
pub head_or_tail : {A : Type 0} {x y : A} {l : List A} {C : Type 0} → In x (y ∷ l) → (y ≡ x → C) → (In x l → C) → C
head_or_tail here f g = f refl
head_or_tail (there i) f g = g i

-- `a` stands before `b`.
pub data Before (a b : ℕ) : List ℕ → Type 0 where
  first : {l : List ℕ} → In b l → Before a b (a ∷ l)
  later : {x : ℕ} {l : List ℕ} → Before a b l → Before a b (x ∷ l)

-- In one of two lists.
pub in_front : {A : Type 0} {x : A} {l : List A} (m : List A) → In x l → In x (l ++ m)
in_front m here = here
in_front m (there i) = there (in_front m i)

pub in_back : {A : Type 0} {x : A} (l : List A) {m : List A} → In x m → In x (l ++ m)
in_back [] i = i
in_back (y ∷ l) i = there (in_back l i)

pub in_either : {A : Type 0} {x : A} (l m : List A) → In x (l ++ m) → In x l ⊎ In x m
in_either [] m i = inr i
in_either (y ∷ l) m here = inl here
in_either (y ∷ l) m (there i) = ⊎_elim (λ j. inl (there j)) inr (in_either l m i)

pub before_back : {a b : ℕ} (l : List ℕ) {m : List ℕ} → Before a b m → Before a b (l ++ m)
before_back [] p = p
before_back (x ∷ l) p = later (before_back l p)

pub before_across : {a b : ℕ} {l m : List ℕ} → In a l → In b m → Before a b (l ++ m)
before_across {l = x ∷ l} here j = first (in_back l j)
before_across (there i) j = later (before_across i j)

-- Nothing stands twice.
pub data NoTwice {A : Type 0} : List A → Type 0 where
  empty : NoTwice []
  more : {x : A} {l : List A} → (In x l → ⊥) → NoTwice l → NoTwice (x ∷ l)

pub no_twice_first : {A : Type 0} {x : A} {l : List A} → NoTwice (x ∷ l) → In x l → ⊥
no_twice_first (NoTwice.more n m) = n

pub no_twice_rest : {A : Type 0} {x : A} {l : List A} → NoTwice (x ∷ l) → NoTwice l
no_twice_rest (NoTwice.more n m) = m

-- Two lists that share nothing.
pub no_twice_join : {A : Type 0} (l m : List A) → NoTwice l → NoTwice m → ((x : A) → In x l → In x m → ⊥) → NoTwice (l ++ m)
no_twice_join [] m p q apart = q
no_twice_join (x ∷ l) m (NoTwice.more n p) q apart =
    NoTwice.more (λ i. ⊎_elim n (λ j. apart x here j) (in_either l m i)) (no_twice_join l m p q (λ y i j. apart y (there i) j))

pub no_twice_snoc : {A : Type 0} (l : List A) (x : A) → NoTwice l → (In x l → ⊥) → NoTwice (l ++ x ∷ [])
no_twice_snoc l x p n =
    no_twice_join l (x ∷ []) p (NoTwice.more none_there NoTwice.empty) (λ y i j. head_or_tail j (λ e. n (subst (λ z. In z l) (sym e) i)) (λ k. none_there k))

-- So equal places are one place.
pub no_twice_at : {A : Type 0} (l : List A) (d : A) (q r : ℕ) → NoTwice l → q < r → r < length l → get_or l q d ≡ get_or l r d → ⊥
no_twice_at [] d q r n h k e = omega arith
no_twice_at (x ∷ l) d zero zero n h k e = omega arith
no_twice_at (x ∷ l) d zero (suc r) n h k e = no_twice_first n (subst (λ z. In z l) (sym e) (at_in l r d (omega arith)))
no_twice_at (x ∷ l) d (suc q) zero n h k e = omega arith
no_twice_at (x ∷ l) d (suc q) (suc r) n h k e = no_twice_at l d q r (no_twice_rest n) (omega arith) (omega arith) e

-- What stands before another is there, and so is the other.
pub before-first : {a b : ℕ} {l : List ℕ} → Before a b l → In a l
before-first (Before.first i) = here
before-first (Before.later p) = there (before-first p)

pub before-second : {a b : ℕ} {l : List ℕ} → Before a b l → In b l
before-second (Before.first i) = there i
before-second (Before.later p) = there (before-second p)

-- Where nothing stands twice, nothing stands both before and behind another.
pub before_one_way : {a b : ℕ} (l : List ℕ) → NoTwice l → Before a b l → Before b a l → ⊥
before_one_way [] n p q = elim p [ ]
before_one_way (x ∷ l) n (Before.first i) (Before.first j) = no_twice_first n i
before_one_way (x ∷ l) n (Before.first i) (Before.later q) = no_twice_first n (before-second q)
before_one_way (x ∷ l) n (Before.later p) (Before.first j) = no_twice_first n (before-second p)
before_one_way (x ∷ l) n (Before.later p) (Before.later q) = before_one_way l (no_twice_rest n) p q

-- What holds of all holds at each place.
pub each_at : {A : Type 0} {P : A → Type 0} (l : List A) (d : A) (i : ℕ) → Each P l → i < length l → P (get_or l i d)
each_at l d i e h = each_in e (at_in l i d h)
