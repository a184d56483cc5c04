-- The k-th member of joined lists and of pairs: how a walker chooses.
use Rattle.std.proofs.Common.{◌≡◌, sym, subst, List, [], ◌∷◌, ◌++◌, ℕ, zero, suc, ◌+◌, ◌*◌, ◌/◌, ◌%◌, suc-mul, zero-mul, mul_comm, arith, length, length-append}
use mathlib.Core.List.{map, flat_map}
use native.Mathlib.Nat.{div-add-mod}
use lib.ListN.{length-map}
use Rattle.forest.specs.Lists.{At, first, later}
use Rattle.forest.specs.Forests.{pairs}

-- Of two lists, one behind the other, the first's are passed over.
pub at_left : {A : Type 0} {l : List A} {k : ℕ} {x : A} (m : List A) → At l k x → At (l ++ m) k x
at_left m first = first
at_left m (later h) = later (at_left m h)

pub at_right : {A : Type 0} (l : List A) {m : List A} {k : ℕ} {x : A} → At m k x → At (l ++ m) (length l + k) x
at_right [] {m} {k} {x} h = let e : k ≡ 0 + k = omega arith in subst (λ n. At m n x) e h
at_right (y ∷ l) {m} {k} {x} h =
    let e : suc (length l + k) ≡ suc (length l) + k = omega arith in
    subst (λ n. At (y ∷ (l ++ m)) n x) e (later (at_right l h))

-- What is made of the k-th is the k-th made.
pub at_map : {A B : Type 0} (f : A → B) {l : List A} {k : ℕ} {x : A} → At l k x → At (map f l) k (f x)
at_map f first = first
at_map f (later h) = later (at_map f h)

-- As many pairs as the product.
pub length_pairs : {A B C : Type 0} (f : A → B → C) (l : List A) (m : List B) → length (pairs f l m) ≡ length l * length m
unfolding flat_map
length_pairs f [] m = sym (zero-mul (length m))
length_pairs f (x ∷ l) m =
    omega (arith, length-append (map (f x) m) (pairs f l m), length-map m (f x), length_pairs f l m, suc-mul (length l) (length m))

-- The first's number counts as often as there are seconds.
pub at_pairs : {A B C : Type 0} (f : A → B → C) {l : List A} (m : List B) {i j : ℕ} {x : A} {y : B} → At l i x → At m j y
    → At (pairs f l m) (i * length m + j) (f x y)
unfolding flat_map
at_pairs f m {j = j} {y = y} (first {x = x} {l = l}) h =
    let z = zero-mul (length m) in
    let e : j ≡ zero * length m + j = omega arith in
    subst (λ n. At (map (f x) m ++ pairs f l m) n (f x y)) e (at_left (pairs f l m) (at_map (f x) h))
at_pairs f m {j = j} {x = x} {y = y} (later {y = u} {l = l} {k = k} g) h =
    let n = length-map m (f u) in
    let s = suc-mul k (length m) in
    let e : length (map (f u) m) + (k * length m + j) ≡ suc k * length m + j = omega arith in
    subst (λ n. At (map (f u) m ++ pairs f l m) n (f x y)) e (at_right (map (f u) m) (at_pairs f m g h))

-- THE WALKER'S CHOICE: the k-th pair is of the first's at k divided by the number of seconds, and of the second's at what is left.
pub at_divided : {A B C : Type 0} (f : A → B → C) {l : List A} (m : List B) (k : ℕ) {x : A} {y : B} → At l (k / length m) x → At m (k % length m) y
    → At (pairs f l m) k (f x y)
at_divided f {l} m k {x} {y} g h =
    let c = mul_comm (k / length m) (length m) in
    let d = div-add-mod k (length m) in
    let e : k / length m * length m + k % length m ≡ k = omega arith in
    subst (λ n. At (pairs f l m) n (f x y)) e (at_pairs f m g h)
