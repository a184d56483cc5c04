-- Permutations by counts.
use mathlib.Core.Path.{◌≡◌, refl, sym, ap, ◌∙◌, subst}
use mathlib.Core.Bool.{Bool, true}
use mathlib.Core.List.{List, [], ◌∷◌, ◌++◌}
use Prim.Native.Nat.{ℕ, zero, suc, ◌+◌, ◌≤◌, ◌<◌, zero-le, suc-le-suc}
use native.Mathlib.Nat.{le_of_suc-le-suc, not-suc-le-zero}
use native.Mathlib.Omega.{arith}
use lib.ListN.{length, get_or, set, length-set}
use Rattle.laws.specs.Counts.{once, count, SameElements}
use Rattle.laws.proofs.Lists.{set-either}
use Rattle.laws.proofs.Tests.{either_way}

-- A place of a list whose element passes a test.
pub record Passes {A : Type 0} (test : A → Bool) (l : List A) (d : A) : Type 0 where
  pub place : ℕ
  pub within : place < length l
  pub passes : test (get_or l place d) ≡ true

module _ {A : Type 0} where
  -- The count of two lists is the sum of their counts.
  pub count-append : (test : A → Bool) (l m : List A) → count test (l ++ m) ≡ count test l + count test m
  unfolding count
  count-append test [] m = omega arith
  count-append test (a ∷ l) m = omega (arith, count-append test l m)

  -- A store takes the old element's count away and adds the new one's.
  pub count_set : (test : A → Bool) (l : List A) (i : ℕ) (a d : A) → i < length l
      → count test (set l i a) + once (test (get_or l i d)) ≡ count test l + once (test a)
  unfolding count
  count_set test [] i a d h = absurd (not-suc-le-zero h)
  count_set test (x ∷ l) zero a d h = omega arith
  count_set test (x ∷ l) (suc i) a d h = omega (arith, count_set test l i a d (le_of_suc-le-suc h))

  -- Every element passes the test that all pass.
  pub count-all : (l : List A) → count (λ _. true) l ≡ length l
  unfolding count
  count-all [] = refl
  count-all (a ∷ l) = omega (arith, count-all l)

  -- What passes at a place is counted,
  pub counted : (test : A → Bool) (l : List A) (k : ℕ) (d : A) → k < length l → test (get_or l k d) ≡ true → 0 < count test l
  unfolding count
  counted test [] k d h e = absurd (not-suc-le-zero h)
  counted test (a ∷ l) zero d h e = omega (arith, ap once e)
  counted test (a ∷ l) (suc k) d h e = omega (arith, counted test l k d (le_of_suc-le-suc h) e)

  -- and what is counted passes at a place.
  pub found : (test : A → Bool) (l : List A) (d : A) → 0 < count test l → Passes test l d
  unfolding count
  found test [] d h = absurd (not-suc-le-zero h)
  found test (a ∷ l) d h =
      let further : 0 < count test l → Passes test l d = found test l d in
      either_way (test a) (λ e. record { place = 0; within = suc-le-suc zero-le; passes = e })
      (λ e.
      let r = further (omega (arith, ap once e)) in
      record { place = suc r.place; within = suc-le-suc r.within; passes = r.passes })

  pub same_refl : (l : List A) → SameElements l l
  same_refl l = record { counts = λ test. refl }

  pub same_sym : {l m : List A} → SameElements l m → SameElements m l
  same_sym s = record { counts = λ test. sym (s.counts test) }

  pub same_trans : {l m r : List A} → SameElements l m → SameElements m r → SameElements l r
  same_trans s t = record { counts = λ test. s.counts test ∙ t.counts test }

  -- Lists with the same elements are equally long.
  pub same_length : (l m : List A) → SameElements l m → length l ≡ length m
  same_length l m s = sym (count-all l) ∙ s.counts (λ _. true) ∙ count-all m

  -- An element on its way: to move on, it lets the next place's element step into this one.
  pub step_same : (l : List A) (pos next : ℕ) (a d : A) → pos < length l → next < length l
      → SameElements (set (set l pos (get_or l next d)) next a) (set l pos a)
  step_same l pos next a d hp hn = record {
    counts = λ test.
        let stepped : List A = set l pos (get_or l next d) in
        let there : get_or stepped next d ≡ get_or l next d = set-either (λ v. v ≡ get_or l next d) l pos (get_or l next d) next d refl refl in
        omega (
          arith,
          count_set test l pos a d hp,
          count_set test l pos (get_or l next d) d hp,
          count_set test stepped next a d (subst (λ (n : ℕ). next < n) (sym (length-set l pos (get_or l next d))) hn),
          ap (λ (v : A). once (test v)) there,
        );
  }

-- No test passes more elements of `l` than of `m`: each element of `l` is one of `m`.
pub record Among {A : Type 0} (l m : List A) : Type 0 where
  pub counts : (test : A → Bool) → count test l ≤ count test m

pub same_among : {A : Type 0} (l m : List A) → SameElements l m → Among l m
same_among l m s = record { counts = λ test. omega (arith, s.counts test) }
