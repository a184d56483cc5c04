-- The order of left sides and the blocks of their rules: nothing stands twice, and of two rules the first one's left side does not stand behind.
use mathlib.Core.Path.{◌≡◌, refl, sym, ap, ap₂, subst, ◌∙◌}
use mathlib.Core.Bool.{Bool, true, ◌&&◌, not}
use mathlib.Core.List.{List, [], ◌∷◌, ◌++◌}
use mathlib.Core.Logic.{⊎_elim}
use Prim.Native.Nat.{ℕ, zero, suc, ◌+◌, ◌≤◌, ◌<◌}
use native.Mathlib.Decide.{ℕ_discrete}
use native.Mathlib.Omega.{arith}
use lib.ListN.{length, get_or}
use lib.Dec.{eqb}
use borrow.Author.Tests.{eqb-true, eq-eqb}
use Rattle.laws.proofs.Tests.{either_way, both_true}
use Rattle.laws.proofs.Decides.{false_true}
use Rattle.grammar.specs.Rules.{Rule, none}
use Rattle.written.specs.Lists.{In, Each}
use Rattle.written.specs.Lists.In.{here, there}
use Rattle.written.specs.Lists.Each.{end, and}
use Rattle.written.specs.Split.{rule}
use Rattle.written.specs.Order.{has, named, passing, ordered}
use Rattle.written.specs.Translation.{rules_of, blocks, up_from}
use Rattle.written.proofs.Lists.{NoTwice, no_twice_join, no_twice_first, no_twice_rest, none_there, head_or_tail, each-join, in_each, in_either, each_at, Before}
use Rattle.written.proofs.Loops.{Led}
use Rattle.written.proofs.Listing.{either_true, or_first, or_second, in_of, in_blocks, rules_parts}
use Rattle.written.proofs.Ordering.{passing_in}

-- The test whether a number is in a list tells whether it is.
pub has_there : (l : List ℕ) (x : ℕ) → has l x ≡ true → In x l
unfolding has
has_there [] x e = absurd (false_true e)
has_there (y ∷ l) x e =
    ⊎_elim (λ h. subst (λ (z : ℕ). In x (z ∷ l)) (sym (eqb-true y x h)) here) (λ h. there (has_there l x h)) (either_true (eqb y x) (has l x) e)

pub there_has : {x : ℕ} {l : List ℕ} → In x l → has l x ≡ true
unfolding has
there_has {x} (here {l = l}) = or_first (has l x) (eq-eqb x x refl)
there_has {x} (there {y = y} i) = or_second (eqb y x) (there_has i)

-- A rule `a ::= b` is in the list.
pub record Names (rules : List Rule) (a b : ℕ) : Type 0 where
  pub rule-there : In (rule a b none) rules

names_more : {rules : List Rule} (q : Rule) {a b : ℕ} → Names rules a b → Names (q ∷ rules) a b
names_more q n = record { rule-there = there n.rule-there }

-- The test whether `b` is named tells whether some rule of the left sides names it.
pub named_led : (rules : List Rule) (left : List ℕ) (b : ℕ) → named rules left b ≡ true → Led (Names rules) left b
unfolding named
named_led [] left b e = absurd (false_true e)
named_led (q ∷ rules) left b e = ⊎_elim this (λ h. later (named_led rules left b h)) (either_true (eqb q.second none && (eqb q.first b && has left q.left)) (named rules left b) e)
  where
    this : (eqb q.second none && (eqb q.first b && has left q.left)) ≡ true → Led (Names (q ∷ rules)) left b
    this h =
        let one = both_true (eqb q.second none) (eqb q.first b && has left q.left) h in
        let two = both_true (eqb q.first b) (has left q.left) one.1 in
        record {
          from = q.left;
          within = has_there left q.left two.1;
          leads = record { rule-there = subst (λ (r : Rule). In r (q ∷ rules)) (rules_parts refl (eqb-true q.first b two.0) (eqb-true q.second none one.0)) here };
        }

    later : Led (Names rules) left b → Led (Names (q ∷ rules)) left b
    later l = record { from = l.from; within = l.within; leads = names_more q l.leads }

pub led_named : (rules : List Rule) (left : List ℕ) (a b : ℕ) → In a left → Names rules a b → named rules left b ≡ true
unfolding named
led_named [] left a b i n = absurd (none_there n.rule-there)
led_named (q ∷ rules) left a b i n = head_or_tail n.rule-there
    (λ e. or_first (named rules left b) (ap₂ ◌&&◌
    (eq-eqb q.second none (ap (λ (r : Rule). r.second) e))
    (ap₂ ◌&&◌ (eq-eqb q.first b (ap (λ (r : Rule). r.first) e)) (ap (has left) (ap (λ (r : Rule). r.left) e) ∙ there_has i))))
    (λ j. or_second (eqb q.second none && (eqb q.first b && has left q.left)) (led_named rules left a b i (record { rule-there = j })))

-- What passes stands once where the list's stand once, and is in no list of what does not pass.
passing-once : (test : ℕ → Bool) (l : List ℕ) → NoTwice l → NoTwice (passing test l)
unfolding passing
passing-once test [] n = NoTwice.empty
passing-once test (x ∷ l) n = either_way (test x)
    (λ k. rw (passing, k) (NoTwice.more (λ i. no_twice_first n (passing_in test l i).within) (passing-once test l (no_twice_rest n))))
    (λ k. rw (passing, k) (passing-once test l (no_twice_rest n)))

-- The order has only the left sides that there were.
pub ordered_in : (n : ℕ) (rules : List Rule) (left : List ℕ) {x : ℕ} → In x (ordered n rules left) → In x left
unfolding ordered
ordered_in zero rules left i = absurd (none_there i)
ordered_in (suc n) rules left i = ⊎_elim
    (λ j. (passing_in (λ b. not (named rules left b)) left j).within)
    (λ j. (passing_in (named rules left) left (ordered_in n rules (passing (named rules left) left) j)).within)
    (in_either (passing (λ b. not (named rules left b)) left) (ordered n rules (passing (named rules left) left)) i)

pub ordered-once : (n : ℕ) (rules : List Rule) (left : List ℕ) → NoTwice left → NoTwice (ordered n rules left)
unfolding ordered
ordered-once zero rules left m = NoTwice.empty
ordered-once (suc n) rules left m =
    no_twice_join (passing (λ b. not (named rules left b)) left) (ordered n rules (passing (named rules left) left))
    (passing-once (λ b. not (named rules left b)) left m)
    (ordered-once n rules (passing (named rules left) left) (passing-once (named rules left) left m))
    (λ x i j. false_true
    (sym (ap not (passing_in (named rules left) left (ordered_in n rules (passing (named rules left) left) j)).passes)
    ∙ (passing_in (λ b. not (named rules left b)) left i).passes))

-- Numbers from `a` on.
pub up_in : (a n x : ℕ) → a ≤ x → x < a + n → In x (up_from a n)
unfolding up_from
up_in a zero x l h = absurd (omega arith)
up_in a (suc n) x l h = elim (ℕ_discrete a x) [
  | yes e ↦ subst (λ (y : ℕ). In x (y ∷ up_from (suc a) n)) (sym e) here
  | no d ↦ there (up_in (suc a) n x (omega arith) (omega arith))
]

pub in_up : (a n : ℕ) {x : ℕ} → In x (up_from a n) → (a ≤ x) × (x < a + n)
unfolding up_from
in_up a zero i = absurd (none_there i)
in_up a (suc n) {x} i = head_or_tail i (λ e. (omega arith, omega arith)) (λ j. let r = in_up (suc a) n j in (omega (arith, r.0), omega (arith, r.1)))

pub up_once : (a n : ℕ) → NoTwice (up_from a n)
unfolding up_from
up_once a zero = NoTwice.empty
up_once a (suc n) = NoTwice.more above (up_once (suc a) n)
  where
    above : In a (up_from (suc a) n) → ⊥
    above i = let r = in_up (suc a) n i in omega (arith, r.0)

pub up_count : (a n : ℕ) → length (up_from a n) ≡ n
unfolding up_from
up_count a zero = refl
up_count a (suc n) = ap suc (up_count (suc a) n)

-- Something that holds of each pair of places of a list.
pub data Pairwise {A : Type 0} (P : A → A → Type 0) : List A → Type 0 where
  empty : Pairwise P []
  more : {x : A} {l : List A} → Each (P x) l → Pairwise P l → Pairwise P (x ∷ l)

pub pairwise_at : {A : Type 0} {P : A → A → Type 0} (l : List A) (d : A) (q r : ℕ) → Pairwise P l → q < r → r < length l → P (get_or l q d) (get_or l r d)
pairwise_at [] d q r p h k = absurd (omega arith)
pairwise_at (x ∷ l) d zero zero p h k = absurd (omega arith)
pairwise_at (x ∷ l) d zero (suc r) (Pairwise.more e p) h k = each_at l d r e (omega arith)
pairwise_at (x ∷ l) d (suc q) zero p h k = absurd (omega arith)
pairwise_at (x ∷ l) d (suc q) (suc r) (Pairwise.more e p) h k = pairwise_at l d q r p (omega arith) (omega arith)

pairwise_join : {A : Type 0} {P : A → A → Type 0} (l m : List A) → Pairwise P l → Pairwise P m → ((x y : A) → In x l → In y m → P x y) → Pairwise P (l ++ m)
pairwise_join [] m p q f = q
pairwise_join (x ∷ l) m (Pairwise.more e p) q f =
    Pairwise.more (each-join e (in_each m (λ y i. f x y here i))) (pairwise_join l m p q (λ y z i j. f y z (there i) j))

all-pairs : {A : Type 0} {P : A → A → Type 0} (l : List A) → ((x y : A) → In x l → In y l → P x y) → Pairwise P l
all-pairs [] f = Pairwise.empty
all-pairs (x ∷ l) f = Pairwise.more (in_each l (λ y i. f x y here (there i))) (all-pairs l (λ y z i j. f y z (there i) (there j)))

pairwise_map : {A : Type 0} {P Q : A → A → Type 0} {l : List A} → ((x y : A) → P x y → Q x y) → Pairwise P l → Pairwise Q l
pairwise_map f Pairwise.empty = Pairwise.empty
pairwise_map f (Pairwise.more {x = x} e p) = Pairwise.more (each_of f x e) (pairwise_map f p)
  where
    each_of : {A : Type 0} {P Q : A → A → Type 0} → ((x y : A) → P x y → Q x y) → (x : A) → {l : List A} → Each (P x) l → Each (Q x) l
    each_of g x end = end
    each_of g x (and {x = y} h e) = and (g x y h) (each_of g x e)

-- Of two rules of the blocks the left sides are the same, or the first one's stands before the second one's.
pub data Follows (order : List ℕ) (q r : Rule) : Type 0 where
  same : q.left ≡ r.left → Follows order q r
  before : Before q.left r.left order → Follows order q r

follows-more : (a : ℕ) {order : List ℕ} (q r : Rule) → Follows order q r → Follows (a ∷ order) q r
follows-more a q r (Follows.same e) = Follows.same e
follows-more a q r (Follows.before b) = Follows.before (Before.later b)

pub blocks_follow : (rules : List Rule) (order : List ℕ) → Pairwise (Follows order) (blocks rules order)
unfolding blocks
blocks_follow rules [] = Pairwise.empty
blocks_follow rules (a ∷ order) =
    pairwise_join (rules_of rules a) (blocks rules order)
    (all-pairs (rules_of rules a) (λ q r i j. Follows.same ((in_of rules a i).left ∙ sym (in_of rules a j).left)))
    (pairwise_map (follows-more a) (blocks_follow rules order))
    (λ q r i j. Follows.before
    (subst (λ (x : ℕ). Before x r.left (a ∷ order)) (sym (in_of rules a i).left) (Before.first (in_blocks rules order j).left)))
