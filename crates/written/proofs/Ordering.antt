-- The order of left sides: a unary rule's left side comes before its right side, and none is left over.
use mathlib.Core.Path.{◌≡◌, refl, sym, ap, subst, ◌∙◌}
use mathlib.Core.Bool.{Bool, true, not}
use mathlib.Core.List.{List, [], ◌∷◌}
use mathlib.Core.Logic.{◌⊎◌, inl, inr, ⊎_elim}
use Prim.Native.Nat.{ℕ, zero, suc, ◌≤◌, ◌<◌}
use native.Mathlib.Omega.{arith}
use lib.ListN.{length}
use Rattle.laws.proofs.Tests.{either_way}
use Rattle.laws.proofs.Decides.{false_true}
use Rattle.grammar.specs.Rules.{Rule}
use Rattle.written.specs.Order.{named, passing, ordered}
use Rattle.written.specs.Lists.{In}
use Rattle.written.specs.Lists.In.{here, there}
use Rattle.written.proofs.Loops.{Led, has_loop}
use Rattle.written.proofs.Lists.{Before, in_front, in_back, in_either, before_back, before_across, head_or_tail}

-- Passing.
pub in_passing : {x : ℕ} (test : ℕ → Bool) {l : List ℕ} → In x l → test x ≡ true → In x (passing test l)
unfolding passing
in_passing {x} test here e = rw (e, passing) here
in_passing {x} test (there {y = y} {l = l} i) e = either_way (test y) (λ k. rw (k, passing) (there (in_passing test i e))) (λ k. rw (k, passing) (in_passing test i e))

pub record Passed (test : ℕ → Bool) (l : List ℕ) (x : ℕ) : Type 0 where
  pub within : In x l
  pub passes : test x ≡ true

passed_more : (test : ℕ → Bool) (y : ℕ) {l : List ℕ} {x : ℕ} → Passed test l x → Passed test (y ∷ l) x
passed_more test y p = record { within = there p.within; passes = p.passes }

pub passing_in : {x : ℕ} (test : ℕ → Bool) (l : List ℕ) → In x (passing test l) → Passed test l x
unfolding passing
passing_in test [] i = elim i [ ]
passing_in {x} test (y ∷ l) i = either_way (test y)
    (λ k. head_or_tail (rw (k, passing) at i)
    (λ e. record { within = subst (λ (z : ℕ). In x (z ∷ l)) (sym e) here; passes = ap test (sym e) ∙ k })
    (λ j. passed_more test y (passing_in test l j)))
    (λ k. passed_more test y (passing_in test l (rw (k, passing) at i)))

-- Those that pass are no more.
pub no_more : (test : ℕ → Bool) (l : List ℕ) → length (passing test l) ≤ length l
unfolding passing
no_more test [] = omega arith
no_more test (y ∷ l) = let h : length (passing test l) ≤ length l = no_more test l in either_way (test y) (λ k. rw (k, passing) (omega arith)) (λ k. rw (k, passing) (omega arith))

-- Either all pass, or fewer.
pub all_or_fewer : (test : ℕ → Bool) (l : List ℕ) → ((x : ℕ) → In x l → test x ≡ true) ⊎ (length (passing test l) < length l)
unfolding passing
all_or_fewer test [] = inl (λ x i. absurd (empty_in i))
  where
    empty_in : {x : ℕ} → In x [] → ⊥
    empty_in i = elim i [ ]
all_or_fewer test (y ∷ l) = either_way (test y)
    (λ k. ⊎_elim
    (λ h. inl (λ x i. head_or_tail i (λ e. ap test (sym e) ∙ k) (λ j. h x j)))
    (λ (h : length (passing test l) < length l). inr (rw (k, passing) (omega arith)))
    (all_or_fewer test l))
    (λ k. inr (let h = no_more test l in rw (k, passing) (omega arith)))

module _ (U : ℕ → ℕ → Type 0) (rules : List Rule) (up : (left : List ℕ) (b : ℕ) → named rules left b ≡ true → Led U left b) (down : (left : List ℕ) (a b : ℕ) → In a left → U a b → named rules left b ≡ true) where
  not_named : (left : List ℕ) (a b : ℕ) → In a left → U a b → not (named rules left b) ≡ true → ⊥
  not_named left a b i u e = false_true (sym (ap not (down left a b i u)) ∙ e)

  -- A unary rule's left side comes before its right side.
  pub comes_before : (n : ℕ) (left : List ℕ) (a b : ℕ) → In a left → In b left → U a b → In b (ordered n rules left) → Before a b (ordered n rules left)
  unfolding ordered
  comes_before zero left a b i j u k = absurd (elim k [ ])
  comes_before (suc n) left a b i j u k =
      let held : In b (passing (named rules left) left) = in_passing (named rules left) j (down left a b i u) in
      let back : In b (ordered n rules (passing (named rules left) left)) =
      ⊎_elim (λ f. absurd (not_named left a b i u (passing_in (λ x. not (named rules left x)) left f).passes)) (λ h. h)
      (in_either (passing (λ x. not (named rules left x)) left) (ordered n rules (passing (named rules left) left)) k) in
      either_way (named rules left a)
      (λ e. before_back (passing (λ x. not (named rules left x)) left) (comes_before n (passing (named rules left) left) a b (in_passing (named rules left) i e) held u back))
      (λ e. before_across (in_passing (λ x. not (named rules left x)) i (ap not e)) back)

  -- None is left over, where no symbol leads to itself.
  pub all_come : (R : ℕ → ℕ → Type 0) → ((a b : ℕ) → U a b → R a b) → ((x y z : ℕ) → R x y → R y z → R x z) → ((x : ℕ) → R x x → ⊥)
      → (n : ℕ) (left : List ℕ) → length left ≤ n → (x : ℕ) → In x left → In x (ordered n rules left)
  unfolding ordered
  all_come R sub on never zero left h x i = absurd (none_in left h i)
    where
      none_in : (l : List ℕ) → length l ≤ zero → In x l → ⊥
      none_in [] k j = elim j [ ]
      none_in (y ∷ l) k j = omega arith
  all_come R sub on never (suc n) left h x i = either_way (named rules left x)
      (λ e. in_back (passing (λ b. not (named rules left b)) left)
      (all_come R sub on never n (passing (named rules left) left)
      (⊎_elim (λ all. absurd (stuck all)) (λ (k : length (passing (named rules left) left) < length left). omega arith) (all_or_fewer (named rules left) left))
      x (in_passing (named rules left) i e)))
      (λ e. in_front (ordered n rules (passing (named rules left) left)) (in_passing (λ b. not (named rules left b)) i (ap not e)))
    where
      lead : ((b : ℕ) → In b left → named rules left b ≡ true) → (b : ℕ) → In b left → Led R left b
      lead all b j = let k = up left b (all b j) in record { from = k.from; within = k.within; leads = sub k.from b k.leads }

      stuck : ((b : ℕ) → In b left → named rules left b ≡ true) → ⊥
      stuck all = let k = has_loop R on left x i (lead all) in never k.at k.loops

-- No symbol leads to itself by unary rules. Some symbols are nonterminals; every other is longer than what it leads to; and a chain from
-- a nonterminal back to itself is impossible.
module _ (U : ℕ → ℕ → Type 0) (N : ℕ → Type 0) (which : (x : ℕ) → N x ⊎ (N x → ⊥)) (long : ℕ → ℕ) (shrinks : (a b : ℕ) → (N a → ⊥) → U a b → N b ⊎ (long b < long a)) where
  pub data Path⁺ : ℕ → ℕ → Type 0 where
    one : {a b : ℕ} → U a b → Path⁺ a b
    more : {a b c : ℕ} → U a b → Path⁺ b c → Path⁺ a c

  pub path_on : (a b c : ℕ) → Path⁺ a b → Path⁺ b c → Path⁺ a c
  path_on a b c (one u) q = more u q
  path_on a b c (more {b = d} u p) q = more u (path_on d b c p q)

  -- A nonterminal on the way.
  pub record Through (a c : ℕ) : Type 0 where
    pub at : ℕ
    pub nonterminal : N at
    pub onto : (at ≡ a) ⊎ Path⁺ a at
    pub from : (at ≡ c) ⊎ Path⁺ at c

  further : {a b c : ℕ} → U a b → Through b c → Through a c
  further {a} u t = record {
    at = t.at;
    nonterminal = t.nonterminal;
    onto = inr (⊎_elim (λ e. subst (Path⁺ a) (sym e) (one u)) (λ p. more u p) t.onto);
    from = t.from;
  }

  -- A way passes a nonterminal, or its end is shorter than its beginning.
  pub passes : {a c : ℕ} → Path⁺ a c → Through a c ⊎ (long c < long a)
  passes {a} (one {b = b} u) = ⊎_elim
      (λ n. inl (record { at = a; nonterminal = n; onto = inl refl; from = inr (one u) }))
      (λ n. ⊎_elim (λ m. inl (record { at = b; nonterminal = m; onto = inr (one u); from = inl refl })) inr (shrinks a b n u))
      (which a)
  passes {a} {c} (more {b = b} u p) = ⊎_elim
      (λ n. inl (record { at = a; nonterminal = n; onto = inl refl; from = inr (more u p) }))
      (λ n. ⊎_elim
      (λ m. inl (record { at = b; nonterminal = m; onto = inr (one u); from = inr p }))
      (λ (s : long b < long a). ⊎_elim (λ t. inl (further u t)) (λ (r : long c < long b). inr (omega arith)) (passes p))
      (shrinks a b n u))
      (which a)

  -- So a way from a symbol to itself gives one from a nonterminal to itself.
  pub no_loop : ((a : ℕ) → N a → Path⁺ a a → ⊥) → (x : ℕ) → Path⁺ x x → ⊥
  no_loop never x p = ⊎_elim round (λ (s : long x < long x). omega arith) (passes p)
    where
      back : (t : Through x x) → Path⁺ t.at t.at
      back t = ⊎_elim
          (λ e. subst (λ (n : ℕ). Path⁺ n n) (sym e) p)
          (λ q. ⊎_elim (λ e. subst (λ (n : ℕ). Path⁺ n n) (sym e) p) (λ r. path_on t.at x t.at r q) t.from)
          t.onto

      round : Through x x → ⊥
      round t = never t.at t.nonterminal (back t)
