-- Marks, one a symbol.
use mathlib.Core.Path.{◌≡◌, sym, ap, subst, ◌∙◌}
use mathlib.Core.Logic.{◌⊎◌, inl, inr, ⊎_elim}
use mathlib.Core.Bool.{Bool, true, false}
use mathlib.Core.List.{List, ◌++◌}
use Rattle.std.specs.Bool.{MatchBool}
use Rattle.std.specs.List.{AllWithin, HoldsAt}
use Prim.Native.Nat.{ℕ, ◌+◌, ◌-◌, ◌≤◌, ◌<◌}
use native.Mathlib.Decide.{ℕ_discrete, dec_lt}
use native.Mathlib.Omega.{arith}
use borrow.Author.Count.{below_more}
use lib.ListN.{length, get_or, set, take, drop, replicate, length-set, length-replicate, get_or-replicate, get_or-eq_default}
use Rattle.std.proofs.lemmas.List.{length-append, length-drop, length-take-le, get_or-take, get_or-drop, get_or_append_left, get_or-append_right}
use lib.Seq.{get_or-set_same, get_or-set_other}
use Rattle.laws.proofs.Decides.{true_false, false_true, says_yes_lem, says_no}
use Rattle.grammar.specs.Accepted.{max_symbols}
use Rattle.grammar.specs.inner.Checking.{Marked, LeftBelow, Met, TokensMarked, AllMarked, LowSymbols, RightMarked, Last}
use Rattle.grammar.specs.Rules.{none}
use Rattle.grammar.specs.inner.Decoded.{left_in, first_in, second_in}
use Rattle.laws.specs.Decides.{Decides}

-- Nothing is marked at first.
pub unmarked_at : (n a : ℕ) → Marked (replicate n false) a → ⊥
unmarked_at n a m = elim (dec_lt a n) [
  | yes l ↦ false_true (sym (get_or-replicate n a false false l) ∙ m)
  | no g ↦ false_true (sym (get_or-eq_default (replicate n false) false {n = a} (out g)) ∙ m)
]
  where
    out : (a < n → ⊥) → length (replicate n false) ≤ a
    out g = omega (arith, length-replicate {A = Bool} n false)

-- A mark that is set is there, and others are kept.
pub mark_new : (marks : List Bool) (a : ℕ) → a < length marks → Marked (set marks a true) a
mark_new marks a l = get_or-set_same marks a true false l

pub mark_kept : (marks : List Bool) (a b : ℕ) → Marked marks b → a < length marks → Marked (set marks a true) b
mark_kept marks a b m l = elim (ℕ_discrete b a) [
  | yes e ↦ subst (λ (x : ℕ). Marked (set marks a true) x) (sym e) (mark_new marks a l)
  | no n ↦ get_or-set_other marks a b true false n ∙ m
]

pub mark_old : (marks : List Bool) (a b : ℕ) → Marked (set marks a true) b → (b ≡ a) ⊎ Marked marks b
mark_old marks a b m = elim (ℕ_discrete b a) [ yes e ↦ inl e | no n ↦ inr (sym (get_or-set_other marks a b true false n) ∙ m) ]

-- The tokens' marks, set all at once.
pub tokens_filled : (n t : ℕ) (marks : List Bool) → n ≡ max_symbols → t ≤ n → marks ≡ replicate (length (take t (replicate n false))) true
    → TokensMarked t (marks ++ drop t (replicate n false))
tokens_filled n t marks all few e = record {
  long = length-append marks (drop t (replicate n false)) ∙ omega (arith, long, length-drop t (replicate n false), length-replicate {A = Bool} n false);
  token = λ a l. get_or_append_left marks (drop t (replicate n false)) false a (omega (arith, long)) ∙ ap (λ (m : List Bool). get_or m a false) e
      ∙ get_or-replicate (length (take t (replicate n false))) a true false (omega (arith, taken));
  no_other = λ a m. elim (dec_lt a t) [
    | yes l ↦ l
    | no k ↦ absurd (unmarked_at n (t + (a - t)) (sym (get_or-append_right marks (drop t (replicate n false)) t a false long (omega arith) ∙ get_or-drop t (replicate n false) (a - t) false) ∙ m))
  ];
}
  where
    taken : length (take t (replicate n false)) ≡ t
    taken = length-take-le t (replicate n false) (omega (arith, length-replicate {A = Bool} n false))

    long : length marks ≡ t
    long = ap length e ∙ length-replicate {A = Bool} (length (take t (replicate n false))) true ∙ taken

-- No left side is met before rule 0, and then one rule's after the other's.
pub none_met : (words : List ℕ) → Met words 0 (replicate max_symbols false)
none_met words =
    record { long = length-replicate {A = Bool} max_symbols false; left = λ q l. absurd (omega arith); no_other = λ a m. absurd (unmarked_at max_symbols a m) }

pub more-met : (words : List ℕ) (marks : List Bool) (r a : ℕ) → Met words r marks → a ≡ left_in words r → a < max_symbols → Met words (r + 1) (set marks a true)
more-met words marks r a h e l = record {
  long = length-set marks a true ∙ h.long;
  left = below_more _ _ (λ q m. mark_kept marks a (left_in words q) (h.left q m) (omega (arith, h.long)))
      (subst (λ (x : ℕ). Marked (set marks a true) x) e (mark_new marks a (omega (arith, h.long))));
  no_other = λ b m. ⊎_elim (λ (is : b ≡ a). record { rule = r; below = omega arith; is = sym e ∙ sym is }) (λ (o : Marked marks b). older b (h.no_other b o)) (mark_old marks a b m);
}
  where
    older : (b : ℕ) → LeftBelow words r b → LeftBelow words (r + 1) b
    older b old = record { rule = old.rule; below = omega (arith, old.below); is = old.is }

-- A part of the marks is looked through up to the first that is not set.
module _ (marks : List Bool) (from to : ℕ) (order : from ≤ to) (there : to ≤ length marks) where
  abbrev part : List Bool
  part = take (to - from) (drop from marks)

  part-long : length part ≡ to - from
  part-long = length-take-le (to - from) (drop from marks) (omega (arith, length-drop from marks))

  part_at : (k : ℕ) → k < to - from → get_or part k false ≡ get_or marks (from + k) false
  part_at k l = get_or-take (to - from) (drop from marks) k false l ∙ get_or-drop from marks k false

  pub part-marked : (answer : Bool) → MatchBool answer (AllWithin (λ m. m ≡ true) part 0 (length part)) ((k : ℕ) × (k < length part) × HoldsAt (λ m. m ≡ false) part k)
      → Decides answer (AllMarked marks from to)
  part-marked true h = says_yes_lem (record { marked = λ a low high. ap (λ (k : ℕ). get_or marks k false) (omega arith) ∙ sym (part_at (a - from) (omega arith)) ∙ h (a - from) false (omega arith) (omega (arith, part-long)) })
  part-marked false h = says_no (λ all. true_false (sym (all.marked (from + h.0) (omega arith) (omega (arith, h.1, part-long))) ∙ sym (part_at h.0 (omega (arith, h.1, part-long))) ∙ h.2 false))

-- A right side is not marked where its first symbol is not; where that is, it is where its last symbol is.
pub right-last : (words : List ℕ) (marks : List Bool) (r b d : ℕ) → b ≡ first_in words r → get_or marks b false ≡ true → Last words r d
    → Decides (get_or marks d false) (RightMarked words marks r)
right-last words marks r b d e mb last = record {
  if_yes = λ m. record {
    first = subst (λ (x : ℕ). Marked marks x) e mb;
    second = elim (ℕ_discrete (second_in words r) none) [ yes one ↦ inl one | no two ↦ inr (subst (λ (x : ℕ). Marked marks x) (last.behind two) m) ];
  };
  if_no = λ m h. elim (ℕ_discrete (second_in words r) none) [
    | yes one ↦ true_false (sym h.first ∙ ap (λ (x : ℕ). get_or marks x false) (sym (last.alone one)) ∙ m)
    | no two ↦ ⊎_elim two (λ (y : Marked marks (second_in words r)). true_false (sym y ∙ ap (λ (x : ℕ). get_or marks x false) (sym (last.behind two)) ∙ m)) h.second
  ];
}

-- The last symbol is low.
pub low-last : (words : List ℕ) (r d : ℕ) → LowSymbols words (r + 1) → Last words r d → d < max_symbols
low-last words r d h last = elim (ℕ_discrete (second_in words r) none) [
  | yes one ↦ subst (λ (x : ℕ). x < max_symbols) (sym (last.alone one)) (h.first r (omega arith))
  | no two ↦ subst (λ (x : ℕ). x < max_symbols) (sym (last.behind two))
      (⊎_elim (λ (e : second_in words r ≡ none). absurd (two e)) (λ (l : second_in words r < max_symbols). l) (h.second r (omega arith)))
]

-- Fewer rules of low symbols.
pub low-less : (words : List ℕ) (count r : ℕ) → LowSymbols words count → r ≤ count → LowSymbols words r
low-less words count r h l = record {
  left = λ q m. h.left q (omega arith);
  first = λ q m. h.first q (omega arith);
  second = λ q m. h.second q (omega arith);
}
