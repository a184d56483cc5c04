-- The list has every rule that was to be listed, each once and no others; and written left side by left side it has them all.
use mathlib.Core.Path.{◌≡◌, refl, sym, ap, ap₂, subst, ◌∙◌}
use mathlib.Core.Bool.{Bool, true, false, ◌&&◌, ◌||◌}
use mathlib.Core.List.{List, [], ◌∷◌, ◌++◌}
use mathlib.Core.Logic.{◌⊎◌, inl, inr, ⊎_elim}
use Prim.Native.Nat.{ℕ, suc, ◌+◌, ◌≤◌}
use native.Mathlib.Decide.{ℕ_discrete}
use native.Mathlib.Omega.{arith}
use lib.ListN.{length, length-append}
use lib.Dec.{eqb}
use borrow.Author.Tests.{eqb-true, eq-eqb, ne_eqb}
use Rattle.laws.proofs.Tests.{either_way, both_true}
use Rattle.laws.proofs.Decides.{false_true, true_false}
use Rattle.grammar.specs.Rules.{Rule}
use Rattle.written.specs.Lists.{In}
use Rattle.written.specs.Lists.In.{here, there}
use Rattle.written.specs.Split.{rule, given}
use Rattle.written.specs.Translation.{equal, has_rule, adding, listing, rules_of, blocks}
use Rattle.written.proofs.Lists.{NoTwice, no_twice_snoc, no_twice_join, no_twice_first, no_twice_rest, none_there, head_or_tail, in_front, in_back, in_either}

-- Either of two tests.
pub either_true : (a b : Bool) → (a || b) ≡ true → (a ≡ true) ⊎ (b ≡ true)
either_true true b e = inl refl
either_true false b e = inr e

pub or_first : {a : Bool} (b : Bool) → a ≡ true → (a || b) ≡ true
or_first b e = ap (λ (x : Bool). x || b) e

pub or_second : (a : Bool) {b : Bool} → b ≡ true → (a || b) ≡ true
or_second true e = refl
or_second false e = e

-- Rules with equal symbols are equal.
pub rules_parts : {a b c a' b' c' : ℕ} → a ≡ a' → b ≡ b' → c ≡ c' → rule a b c ≡ rule a' b' c'
rules_parts x y z = cc

-- The test of two rules tells whether they are equal.
pub equal-same : (q r : Rule) → equal q r ≡ true → q ≡ r
equal-same q r e =
    let one = both_true (eqb q.left r.left) (eqb q.first r.first && eqb q.second r.second) e in
    let two = both_true (eqb q.first r.first) (eqb q.second r.second) one.1 in
    rules_parts (eqb-true q.left r.left one.0) (eqb-true q.first r.first two.0) (eqb-true q.second r.second two.1)

pub same-equal : (r : Rule) → equal r r ≡ true
same-equal r = ap₂ ◌&&◌ (eq-eqb r.left r.left refl) (ap₂ ◌&&◌ (eq-eqb r.first r.first refl) (eq-eqb r.second r.second refl))

-- The test whether a list has a rule tells whether it is in it.
pub has_in : (l : List Rule) (r : Rule) → has_rule l r ≡ true → In r l
unfolding has_rule
has_in [] r e = absurd (false_true e)
has_in (q ∷ l) r e = ⊎_elim (λ h. subst (λ (x : Rule). In r (x ∷ l)) (sym (equal-same q r h)) here) (λ h. there (has_in l r h)) (either_true (equal q r) (has_rule l r) e)

pub in_has : {r : Rule} {l : List Rule} → In r l → has_rule l r ≡ true
unfolding has_rule
in_has {r} (here {l = l}) = or_first (has_rule l r) (same-equal r)
in_has {r} (there {y = q} i) = or_second (equal q r) (in_has i)

-- One rule more.
pub adding-there : (l : List Rule) (r : Rule) → has_rule l r ≡ true → adding l r ≡ l
unfolding adding
adding-there l r e = rw (adding, e) refl

pub adding-new : (l : List Rule) (r : Rule) → has_rule l r ≡ false → adding l r ≡ l ++ r ∷ []
unfolding adding
adding-new l r e = rw (adding, e) refl

pub adding-keeps : (l : List Rule) (r : Rule) {q : Rule} → In q l → In q (adding l r)
adding-keeps l r {q} i = either_way (has_rule l r)
    (λ e. subst (In q) (sym (adding-there l r e)) i)
    (λ e. subst (In q) (sym (adding-new l r e)) (in_front (r ∷ []) i))

pub adding-has : (l : List Rule) (r : Rule) → In r (adding l r)
adding-has l r = either_way (has_rule l r)
    (λ e. subst (In r) (sym (adding-there l r e)) (has_in l r e))
    (λ e. subst (In r) (sym (adding-new l r e)) (in_back l here))

pub adding-only : (l : List Rule) (r : Rule) {q : Rule} → In q (adding l r) → In q l ⊎ (r ≡ q)
adding-only l r {q} i = either_way (has_rule l r)
    (λ e. inl (subst (In q) (adding-there l r e) i))
    (λ e. ⊎_elim inl (λ j. head_or_tail j inr (λ k. absurd (none_there k))) (in_either l (r ∷ []) (subst (In q) (adding-new l r e) i)))

pub adding-once : (l : List Rule) (r : Rule) → NoTwice l → NoTwice (adding l r)
adding-once l r n = either_way (has_rule l r)
    (λ e. subst NoTwice (sym (adding-there l r e)) n)
    (λ e. subst NoTwice (sym (adding-new l r e)) (no_twice_snoc l r n (λ i. true_false (sym (in_has i) ∙ e))))

-- All of them.
pub listing-keeps : (l rules : List Rule) {q : Rule} → In q l → In q (listing l rules)
unfolding listing
listing-keeps l [] i = i
listing-keeps l (r ∷ rules) i = listing-keeps (adding l r) rules (adding-keeps l r i)

pub listing-has : (l : List Rule) {rules : List Rule} {q : Rule} → In q rules → In q (listing l rules)
unfolding listing
listing-has l (here {x = q} {l = rules}) = listing-keeps (adding l q) rules (adding-has l q)
listing-has l (there {y = r} {l = rules} i) = listing-has (adding l r) i

pub listing-only : (l rules : List Rule) {q : Rule} → In q (listing l rules) → In q l ⊎ In q rules
unfolding listing
listing-only l [] i = inl i
listing-only l (r ∷ rules) {q} i = ⊎_elim
    (λ j. ⊎_elim inl (λ e. inr (subst (λ (x : Rule). In q (x ∷ rules)) (sym e) here)) (adding-only l r j))
    (λ j. inr (there j))
    (listing-only (adding l r) rules i)

pub listing-once : (l rules : List Rule) → NoTwice l → NoTwice (listing l rules)
unfolding listing
listing-once l [] n = n
listing-once l (r ∷ rules) n = listing-once (adding l r) rules (adding-once l r n)

-- No more rules than were to be listed.
adding-few : (l : List Rule) (r : Rule) → length (adding l r) ≤ length l + 1
adding-few l r = either_way (has_rule l r)
    (λ e. let h = ap length (adding-there l r e) in omega arith)
    (λ e. let h = ap length (adding-new l r e) in omega (arith, length-append l (r ∷ [])))

pub listing-few : (l rules : List Rule) → length (listing l rules) ≤ length l + length rules
unfolding listing
listing-few l [] = omega arith
listing-few l (r ∷ rules) = let h = listing-few (adding l r) rules in let a = adding-few l r in omega arith

-- More rules keep what there was: the list grows only.
pub listing_grows : (l rules : List Rule) → length l ≤ length (listing l rules)
unfolding listing
listing_grows l [] = omega arith
listing_grows l (r ∷ rules) = let h = listing_grows (adding l r) rules in let a = more in omega arith
  where
    more : length l ≤ length (adding l r)
    more = either_way (has_rule l r)
        (λ e. let h = ap length (adding-there l r e) in omega arith)
        (λ e. let h = ap length (adding-new l r e) in omega (arith, length-append l (r ∷ [])))

-- Rules behind rules.
pub listing-append : (l a b : List Rule) → listing l (a ++ b) ≡ listing (listing l a) b
unfolding listing
listing-append l [] b = refl
listing-append l (r ∷ a) b = listing-append (adding l r) a b

-- The rules of one left side.
pub of_in : {q : Rule} {rules : List Rule} → In q rules → In q (rules_of rules q.left)
unfolding rules_of given
of_in {q} (here {l = rules}) = rw (rules_of, eq-eqb q.left q.left refl) here
of_in {q} (there {y = r} {l = rules} i) = in_back (given (eqb r.left q.left) (r ∷ [])) (of_in i)

pub record OfLeft (rules : List Rule) (a : ℕ) (q : Rule) : Type 0 where
  pub within : In q rules
  pub left : q.left ≡ a

of_more : (r : Rule) {rules : List Rule} {a : ℕ} {q : Rule} → OfLeft rules a q → OfLeft (r ∷ rules) a q
of_more r o = record { within = there o.within; left = o.left }

pub in_of : (rules : List Rule) (a : ℕ) {q : Rule} → In q (rules_of rules a) → OfLeft rules a q
unfolding rules_of given
in_of [] a i = absurd (none_there i)
in_of (r ∷ rules) a {q} i = either_way (eqb r.left a)
    (λ e. head_or_tail (rw (rules_of, e) at i)
    (λ s. record { within = subst (λ (x : Rule). In q (x ∷ rules)) (sym s) here; left = ap (λ (x : Rule). x.left) (sym s) ∙ eqb-true r.left a e })
    (λ j. of_more r (in_of rules a j)))
    (λ e. of_more r (in_of rules a (rw (rules_of, e) at i)))

pub of_once : (rules : List Rule) (a : ℕ) → NoTwice rules → NoTwice (rules_of rules a)
unfolding rules_of given
of_once [] a n = NoTwice.empty
of_once (r ∷ rules) a n = either_way (eqb r.left a)
    (λ e. rw (rules_of, e) (NoTwice.more (λ i. no_twice_first n (in_of rules a i).within) (of_once rules a (no_twice_rest n))))
    (λ e. rw (rules_of, e) (of_once rules a (no_twice_rest n)))

-- Left side by left side.
pub blocks_in : {q : Rule} {rules : List Rule} {order : List ℕ} → In q rules → In q.left order → In q (blocks rules order)
unfolding blocks
blocks_in {q} {rules} i (here {l = order}) = in_front (blocks rules order) (of_in i)
blocks_in {q} {rules} i (there {y = a} j) = in_back (rules_of rules a) (blocks_in i j)

pub record InBlocks (rules : List Rule) (order : List ℕ) (q : Rule) : Type 0 where
  pub within : In q rules
  pub left : In q.left order

pub in_blocks : (rules : List Rule) (order : List ℕ) {q : Rule} → In q (blocks rules order) → InBlocks rules order q
unfolding blocks
in_blocks rules [] i = absurd (none_there i)
in_blocks rules (a ∷ order) {q} i = ⊎_elim
    (λ j. let o = in_of rules a j in record { within = o.within; left = subst (λ (x : ℕ). In q.left (x ∷ order)) o.left here })
    (λ j. let o = in_blocks rules order j in record { within = o.within; left = there o.left })
    (in_either (rules_of rules a) (blocks rules order) i)

pub blocks-once : (rules : List Rule) (order : List ℕ) → NoTwice rules → NoTwice order → NoTwice (blocks rules order)
unfolding blocks
blocks-once rules [] n m = NoTwice.empty
blocks-once rules (a ∷ order) n m =
    no_twice_join (rules_of rules a) (blocks rules order) (of_once rules a n) (blocks-once rules order n (no_twice_rest m))
    (λ q i j. no_twice_first m (subst (λ (x : ℕ). In x order) (in_of rules a i).left (in_blocks rules order j).left))

-- As many as there are rules, where each left side comes once.
of_none : (rules : List Rule) (r : Rule) (order : List ℕ) → (In r.left order → ⊥) → length (blocks (r ∷ rules) order) ≡ length (blocks rules order)
unfolding blocks rules_of given
of_none rules r [] n = refl
of_none rules r (a ∷ order) n =
    let none : given (eqb r.left a) (r ∷ []) ++ rules_of rules a ≡ rules_of rules a =
    ap (λ (b : Bool). given b (r ∷ []) ++ rules_of rules a) (ne_eqb r.left a (λ e. n (subst (λ (x : ℕ). In r.left (x ∷ order)) e here))) in
    length-append (given (eqb r.left a) (r ∷ []) ++ rules_of rules a) (blocks (r ∷ rules) order)
    ∙ ap₂ ◌+◌ (ap length none) (of_none rules r order (λ i. n (there i)))
    ∙ sym (length-append (rules_of rules a) (blocks rules order))

of_one : (rules : List Rule) (r : Rule) (order : List ℕ) → NoTwice order → In r.left order → length (blocks (r ∷ rules) order) ≡ suc (length (blocks rules order))
unfolding blocks rules_of given
of_one rules r [] m i = absurd (none_there i)
of_one rules r (a ∷ order) m i = elim (ℕ_discrete r.left a) [
  | yes e ↦
      let one : given (eqb r.left a) (r ∷ []) ++ rules_of rules a ≡ r ∷ rules_of rules a = ap (λ (b : Bool). given b (r ∷ []) ++ rules_of rules a) (eq-eqb r.left a e) in
      length-append (given (eqb r.left a) (r ∷ []) ++ rules_of rules a) (blocks (r ∷ rules) order)
      ∙ ap₂ ◌+◌ (ap length one) (of_none rules r order (λ j. no_twice_first m (subst (λ (x : ℕ). In x order) e j)))
      ∙ omega arith
      ∙ ap suc (sym (length-append (rules_of rules a) (blocks rules order)))
  | no n ↦
      let none : given (eqb r.left a) (r ∷ []) ++ rules_of rules a ≡ rules_of rules a = ap (λ (b : Bool). given b (r ∷ []) ++ rules_of rules a) (ne_eqb r.left a n) in
      length-append (given (eqb r.left a) (r ∷ []) ++ rules_of rules a) (blocks (r ∷ rules) order)
      ∙ ap₂ ◌+◌ (ap length none) (of_one rules r order (no_twice_rest m) (head_or_tail i (λ e. absurd (n (sym e))) (λ j. j)))
      ∙ omega arith
      ∙ ap suc (sym (length-append (rules_of rules a) (blocks rules order)))
]

no_blocks : (order : List ℕ) → length (blocks [] order) ≡ 0
unfolding blocks rules_of
no_blocks [] = refl
no_blocks (a ∷ order) = no_blocks order

pub blocks-count : (rules : List Rule) (order : List ℕ) → NoTwice order → ((q : Rule) → In q rules → In q.left order) → length (blocks rules order) ≡ length rules
blocks-count [] order m all = no_blocks order
blocks-count (r ∷ rules) order m all = of_one rules r order m (all r here) ∙ ap suc (blocks-count rules order m (λ q i. all q (there i)))
