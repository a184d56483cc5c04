-- Marks of some symbols.
use Rattle.std.proofs.Common.{◌≡◌, refl, sym, ap, ◌∙◌, Bool, true, false, not, List, ◌++◌, ℕ, zero, suc, ◌+◌, ◌-◌, ◌≤◌, ◌<◌, length, get_or, take, drop, replicate, arith}
use Rattle.std.proofs.lemmas.List.{length-replicate, length-take-le, length-drop}
use Rattle.std.proofs.lemmas.List.{get_or-take, get_or-drop, get_or-replicate}
use Rattle.std.proofs.Math.ListN.{get_or-append}
use Rattle.std.proofs.Math.Seq.{get_or-append_right}
use Rattle.std.specs.List.{IsAnyAnswer}
use native.Mathlib.Decide.{dec_lt}
use mathlib.Core.Bool.{beq}
use lib.ListN.{get_or-eq_default}
use Rattle.translation.specs.inner.Circles.{SomeHeld}
use Rattle.laws.specs.Decides.{Decides}
use Rattle.laws.proofs.Decides.{true_false, false_true}
use Rattle.translation.specs.inner.Marks.{most_symbols, marked, OnlyWithin, AllWithin}

-- Nothing is marked at first.
pub none_marked : (n a : ℕ) → marked (replicate n false) a ≡ false
none_marked zero a = refl
none_marked (suc n) zero = refl
none_marked (suc n) (suc a) = none_marked n a

-- The symbols below `end` are marked, and no others.
pub record OnlyBelow (end : ℕ) (marks : List Bool) : Type 0 where
  pub long : length marks ≡ most_symbols
  pub below : (a : ℕ) → a < end → marked marks a ≡ true
  pub only : (a : ℕ) → marked marks a ≡ true → a < end

pub only_to : {n m : ℕ} {marks : List Bool} → n ≡ m → length marks ≡ most_symbols → OnlyWithin 0 n marks → OnlyBelow m marks
only_to {n} {m} e l o = record { long = l; below = λ a h. o.all a (omega arith) (omega arith); only = λ a h. let k = (o.only a h).1 in omega arith }

-- Marks filled between two places.
module _ (n from to : ℕ) (le : from ≤ to) (in-there : to ≤ n) (l mid : List Bool) (el : l ≡ replicate n false) (em : mid ≡ replicate (to - from) true) where
  abbrev filled : List Bool
  filled = take from l ++ (mid ++ drop (to - from) (drop from l))

  pub only-filled : OnlyWithin from to filled
  only-filled = record {
    all = λ a h k.
        get_or-append_right (take from l) (mid ++ drop (to - from) (drop from l)) a false (omega (arith, front-long))
        ∙ get_or-append mid (drop (to - from) (drop from l)) false (a - length (take from l)) (omega (arith, front-long, mid-long))
        ∙ ap (λ (m : List Bool). marked m (a - length (take from l))) em
        ∙ get_or-replicate (to - from) (a - length (take from l)) true false (omega (arith, front-long));
    only = λ a m. elim (dec_lt a from) [
      | yes h ↦ absurd (false_true (sym (before a h) ∙ m))
      | no g ↦ elim (dec_lt a to) [
        | yes h ↦ (omega arith, h)
        | no h ↦ absurd (false_true (sym (behind a g h) ∙ m))
      ]
    ];
  }
    where
      front-long : length (take from l) ≡ from
      front-long = length-take-le from l (omega (arith, ap length el, length-replicate n false))

      mid-long : length mid ≡ to - from
      mid-long = ap length em ∙ length-replicate (to - from) true

      none : (a : ℕ) → marked l a ≡ false
      none a = ap (λ (m : List Bool). marked m a) el ∙ none_marked n a

      before : (a : ℕ) → a < from → marked filled a ≡ false
      before a h = get_or-append (take from l) (mid ++ drop (to - from) (drop from l)) false a (omega (arith, front-long)) ∙ get_or-take from l a false h ∙ none a

      behind : (a : ℕ) → (a < from → ⊥) → (a < to → ⊥) → marked filled a ≡ false
      behind a g h =
          get_or-append_right (take from l) (mid ++ drop (to - from) (drop from l)) a false (omega (arith, front-long))
          ∙ get_or-append_right mid (drop (to - from) (drop from l)) (a - length (take from l)) false (omega (arith, front-long, mid-long))
          ∙ get_or-drop (to - from) (drop from l) (a - length (take from l) - length mid) false
          ∙ get_or-drop from l (to - from + (a - length (take from l) - length mid)) false
          ∙ none (from + (to - from + (a - length (take from l) - length mid)))

-- What a test for one mark says.
is_true : (b : Bool) → beq b true ≡ true → b ≡ true
is_true true e = refl
is_true false e = e

is_false : (b : Bool) → beq b false ≡ true → b ≡ false
is_false true e = sym e
is_false false e = refl

not_true_lem : (b : Bool) → beq b true ≡ false → b ≡ false
not_true_lem true e = e
not_true_lem false e = refl

not_false_lem : (b : Bool) → beq b false ≡ false → b ≡ true
not_false_lem true e = refl
not_false_lem false e = sym e

-- Whether all between two places are marked, by a search for one that is not.
module _ (marks : List Bool) (from to : ℕ) (inside : to ≤ length marks) where
  abbrev these : List Bool
  these = take (to - from) (drop from marks)

  at : (k : ℕ) → k < to - from → get_or these k false ≡ marked marks (from + k)
  at k h = get_or-take (to - from) (drop from marks) k false h ∙ get_or-drop from marks k false

  long : length these ≡ to - from
  long = length-take-le (to - from) (drop from marks) (omega (arith, length-drop from marks))

  pub all-decided : (answer : Bool) → IsAnyAnswer (λ y b. beq y false ≡ b) these answer → Decides (not answer) (AllWithin marks from to)
  all-decided true s = record {
    if_yes = λ e. absurd (false_true e);
    if_no = λ e w.
        let k : ℕ = s.0 in
        let low : k < to - from = omega (arith, s.1, long) in
        true_false (sym (w.all (from + k) (omega arith) (omega arith)) ∙ sym (at k low) ∙ is_false _ (s.2 false));
  }
  all-decided false s = record {
    if_yes = λ e. record {
      all = λ a g k.
          let place : from + (a - from) ≡ a = omega arith in
          sym (ap (marked marks) place) ∙ sym (at (a - from) (omega arith)) ∙ not_false_lem _ (s (a - from) false (omega arith) (omega (arith, long)));
    };
    if_no = λ e. absurd (true_false e);
  }

-- Whether one is marked, by a search for it.
pub some-decided : (marks : List Bool) (answer : Bool) → IsAnyAnswer (λ y b. beq y true ≡ b) marks answer → Decides answer (SomeHeld marks)
some-decided marks true s = record { if_yes = λ e. record { symbol = s.0; holds = is_true _ (s.2 false) }; if_no = λ e. absurd (true_false e) }
some-decided marks false s = record {
  if_yes = λ e. absurd (false_true e);
  if_no = λ e h. elim (dec_lt h.symbol (length marks)) [
    | yes l ↦ true_false (sym h.holds ∙ not_true_lem _ (s h.symbol false (omega arith) l))
    | no n ↦ true_false (sym h.holds ∙ get_or-eq_default marks false (past n))
  ];
}
  where
    past : {a : ℕ} → (a < length marks → ⊥) → length marks ≤ a
    past n = omega arith
