-- The number of derivations: lists that have them all, each once, are of one length.
use Rattle.std.proofs.Common.{◌≡◌, refl, sym, ap, ◌∙◌, ◌≢◌, List, [], ◌∷◌, suc, ◌≤◌, arith, length}
use mathlib.Core.List.Memᴰ.{head as here}
use mathlib.Core.List.Memᴰ.{not-nil as no_member}
use mathlib.Core.List.Memᴰ.{tail as there}
use mathlib.Core.List.{Memᴰ as Member}
use Rattle.grammar.specs.Rules.{Grammar}
use Rattle.earley.specs.Positions.{Positions}
use Rattle.forest.specs.Lists.{Ordered, Once}
use Rattle.forest.specs.Trees.{Tree}
use Rattle.planting.specs.Finished.{TreesOf}

-- A list without one of its members.
record Without {A : Type 0} (x : A) (l : List A) : Type 0 where
  pub rest : List A
  pub shorter : length l ≡ suc (length rest)
  pub others : (y : A) → Member y l → y ≢ x → Member y rest

without : {A : Type 0} {x : A} (l : List A) → Member x l → Without x l
without [] m = absurd (no_member m)
without {x = x} (z ∷ l) (here same) = record { rest = l; shorter = refl; others = λ y m other. behind m other }
  where
    behind : {y : _} → Member y (z ∷ l) → y ≢ x → Member y l
    behind (here is) other = absurd (other (is ∙ sym same))
    behind (there m) other = m
without {x = x} (z ∷ l) (there m) = on (without l m)
  where
    on : Without x l → Without x (z ∷ l)
    on w = record { rest = z ∷ w.rest; shorter = ap suc w.shorter; others = λ y m other. kept m other }
      where
        kept : {y : _} → Member y (z ∷ l) → y ≢ x → Member y (z ∷ w.rest)
        kept (here is) other = here is
        kept (there m) other = there (w.others _ m other)

-- What has nothing twice is no longer than what has all of it.
once_shorter : {A : Type 0} {l : List A} (m : List A) → Once l → ((x : A) → Member x l → Member x m) → length l ≤ length m
once_shorter m Ordered.none all = omega arith
once_shorter m (Ordered.more {x = x} differs once) all =
    let w : Without x m = without m (all x (here refl)) in
    let rest = once_shorter w.rest once (λ y n. w.others y (all y (there n)) (λ is. differs y n (sym is))) in
    omega (arith, w.shorter, rest)

pub one_number : {g : Grammar} {a : Positions} {l m : List Tree} → TreesOf g a l → TreesOf g a m → length l ≡ length m
one_number {l = l} {m = m} one other =
    let there-too : length l ≤ length m = once_shorter m one.once (λ d n. (other.all d).1 ((one.all d).0 n)) in
    let and-back : length m ≤ length l = once_shorter l other.once (λ d n. (one.all d).1 ((other.all d).0 n)) in
    omega arith
