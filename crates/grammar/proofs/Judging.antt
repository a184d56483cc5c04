-- From what the check asks of the words to `Accepted`, and back.
use mathlib.Core.Path.{◌≡◌, refl, sym, ap, subst, ◌∙◌}
use mathlib.Core.Logic.{◌⊎◌, inl, inr, ⊎_elim}
use mathlib.Core.List.{List}
use Prim.Native.Nat.{ℕ, zero, suc, ◌+◌, ◌-◌, ◌*◌, ◌≤◌, ◌<◌}
use native.Mathlib.Decide.{ℕ_discrete, dec_lt}
use native.Mathlib.Omega.{arith}
use lib.ListN.{length}
use Rattle.grammar.specs.Rules.{Rule, Grammar, none, rule_count, rule_at}
use Rattle.grammar.specs.Accepted.{Accepted, max_symbols, max_rules}
use Rattle.grammar.specs.inner.Decoded.{left_in, first_in, second_in, grammar_in}
use Rattle.grammar.specs.File.{Malformed, version_of, length_of, rule_count_of, header_bytes, rule_bytes}
use Rattle.grammar.specs.File.Malformed.{short, version, real_length, told_length}
use Rattle.grammar.specs.inner.Checking.{Sized, Wraps, Drawn, Ruled, Same, EqualPair, LowSymbols, AllProductive, AllReachable}
use Rattle.grammar.proofs.Decoding.{rule, in_count, in_rule, in_left, in_first, in_second}

module _ (words : List ℕ) (n t count : ℕ) (size : Sized n t count) where
  abbrev g : Grammar
  g = grammar_in words n t count

  abbrev some : 0 < count
  some = size.a_rule

  counted : {r : ℕ} → r < rule_count g → r < count
  counted {r} l = subst (λ (k : ℕ). r < k) (in_count words n t count) l

  there : {r : ℕ} → r < count → r < rule_count g
  there {r} l = subst (λ (k : ℕ). r < k) (sym (in_count words n t count)) l

  -- Rule 0 of an accepted grammar wraps.
  pub accepted-wraps : Accepted g → Wraps words n t
  accepted-wraps h = record {
    left = sym (in_left words n t count 0 some) ∙ h.wraps.left;
    second = sym (in_second words n t count 0 some) ∙ h.wraps.second;
    no_token_lem = subst (λ (s : ℕ). t ≤ s) (in_first words n t count 0 some) h.starts.no_token_lem;
    no_wrapper = subst (λ (s : ℕ). s < n - 2) (in_first words n t count 0 some) h.starts.no_wrapper;
  }

  -- Every other rule is as asked.
  pub accepted-ruled : Accepted g → Ruled words n t count
  accepted-ruled h = record { drawn = drawn; adjoins = λ r z l. record { adjacent = adjacent r l }; precedes = λ r z l. record { unary_below = below r l } }
    where
      drawn : (r : ℕ) → 0 < r → r < count → Drawn words n t r
      drawn r z l = record {
        no_token_lem = subst (λ (s : ℕ). t ≤ s) (in_left words n t count r l) (h.lefts r z (there l)).no_token_lem;
        no_wrapper = subst (λ (s : ℕ). s < n - 2) (in_left words n t count r l) (h.lefts r z (there l)).no_wrapper;
        first = subst (λ (s : ℕ). s < n - 2) (in_first words n t count r l) (h.firsts r z (there l));
        second = subst (λ (s : ℕ). (s ≡ none) ⊎ (s < n - 2)) (in_second words n t count r l) (h.seconds r z (there l));
      }

      lefts : (q r : ℕ) → q < count → r < count → left_in words q ≡ left_in words r → (rule_at g q).left ≡ (rule_at g r).left
      lefts q r lq lr e = in_left words n t count q lq ∙ e ∙ sym (in_left words n t count r lr)

      adjacent : (r : ℕ) → r < count → (q : ℕ) → q < r → left_in words q ≡ left_in words r → left_in words (r - 1) ≡ left_in words r
      adjacent r l q lq e = elim (ℕ_discrete q (r - 1)) [
        | yes x ↦ ap (left_in words) (sym x) ∙ e
        | no x ↦ sym (in_left words n t count (r - 1) (omega arith))
            ∙ sym (h.adjacent q (r - 1) r (omega arith) (omega arith) (there l) (lefts q r (omega arith) l e))
            ∙ lefts q r (omega arith) l e ∙ in_left words n t count r l
      ]

      below : (r : ℕ) → r < count → second_in words r ≡ none → (s : ℕ) → s ≤ r → left_in words s ≡ first_in words r → ⊥
      below r l e s ls x =
          let up : r < s = h.unary_below r s (there l) (there (omega arith)) (in_second words n t count r l ∙ e)
          (in_left words n t count s (omega arith) ∙ x ∙ sym (in_first words n t count r l)) in
          omega arith

  -- No two rules of an accepted grammar are equal.
  pub accepted-distinct : Accepted g → EqualPair words count → ⊥
  accepted-distinct h p =
      h.distinct p.lower p.higher p.order (there p.there)
      (in_rule words n t count p.lower (omega (arith, p.order, p.there))
      ∙ equal p.same.left p.same.first p.same.second
      ∙ sym (in_rule words n t count p.higher p.there))
    where
      equal : {a b c a' b' c' : ℕ} → a ≡ a' → b ≡ b' → c ≡ c' → rule a b c ≡ rule a' b' c'
      equal p q r = cc

  -- Every nonterminal of an accepted grammar is productive.
  pub accepted-productive : Accepted g → AllProductive g
  accepted-productive h = record { productive = h.productive }

  -- and reachable.
  pub accepted-reachable : Accepted g → AllReachable g
  accepted-reachable h = record { reachable = h.reachable }

  module _ (w : Wraps words n t) (h : Ruled words n t count) where
    -- Every symbol of the rules is below the limit.
    pub low : LowSymbols words count
    low = record { left = left; first = first; second = second }
      where
        low_of : (r s : ℕ) → s < n - 2 → s < max_symbols
        low_of r s l = omega (arith, size.few_symbols)

        left : (r : ℕ) → r < count → left_in words r < max_symbols
        left zero l = omega (arith, w.left, size.few_symbols, size.room)
        left (suc r) l = low_of r _ (h.drawn (suc r) (omega arith) l).no_wrapper

        first : (r : ℕ) → r < count → first_in words r < max_symbols
        first zero l = low_of 0 _ w.no_wrapper
        first (suc r) l = low_of r _ (h.drawn (suc r) (omega arith) l).first

        second : (r : ℕ) → r < count → (second_in words r ≡ none) ⊎ (second_in words r < max_symbols)
        second zero l = inr (omega (arith, w.second, size.few_symbols, size.room))
        second (suc r) l = ⊎_elim inl (λ (x : second_in words (suc r) < n - 2). inr (low_of r _ x)) (h.drawn (suc r) (omega arith) l).second

    -- Rules of one left side are adjacent: from each such pair down to the rule between.
    adjacent : (d q r : ℕ) → q < r → r + d < count → left_in words q ≡ left_in words (r + d) → left_in words q ≡ left_in words r
    adjacent zero q r l m e = e ∙ ap (left_in words) (omega arith)
    adjacent (suc d) q r l m e =
        adjacent d q r l (omega arith)
        (e ∙ sym ((h.adjoins (r + suc d) (omega arith) m).adjacent q (omega arith) e) ∙ ap (left_in words) (omega arith))

    -- Rule 0 is not unary, and no rule of B stands up to another that is A ::= B alone.
    below : (r s : ℕ) → r < count → second_in words r ≡ none → left_in words s ≡ first_in words r → s ≤ r → ⊥
    below zero s l e x ls = omega (arith, w.second, size.few_symbols, size.room)
    below (suc r) s l e x ls = (h.precedes (suc r) (omega arith) l).unary_below e s ls x

    -- What passes every test is accepted.
    pub judged : (EqualPair words count → ⊥) → AllProductive g → AllReachable g → Accepted g
    judged no-pair all used = record {
      a_token = size.a_token;
      room = size.room;
      few_symbols = size.few_symbols;
      a_rule = subst (λ (k : ℕ). 1 ≤ k) (sym (in_count words n t count)) size.a_rule;
      few_rules = subst (λ (k : ℕ). k ≤ max_rules) (sym (in_count words n t count)) size.few_rules;
      wraps = record {
        there = there some;
        left = in_left words n t count 0 some ∙ w.left;
        first = refl;
        second = in_second words n t count 0 some ∙ w.second;
      };
      starts = record {
        no_token_lem = subst (λ (s : ℕ). t ≤ s) (sym (in_first words n t count 0 some)) w.no_token_lem;
        no_wrapper = subst (λ (s : ℕ). s < n - 2) (sym (in_first words n t count 0 some)) w.no_wrapper;
      };
      lefts = λ r z l. record {
        no_token_lem = subst (λ (s : ℕ). t ≤ s) (sym (in_left words n t count r (counted l))) (h.drawn r z (counted l)).no_token_lem;
        no_wrapper = subst (λ (s : ℕ). s < n - 2) (sym (in_left words n t count r (counted l))) (h.drawn r z (counted l)).no_wrapper;
      };
      firsts = λ r z l. subst (λ (s : ℕ). s < n - 2) (sym (in_first words n t count r (counted l))) (h.drawn r z (counted l)).first;
      seconds = λ r z l. subst (λ (s : ℕ). (s ≡ none) ⊎ (s < n - 2)) (sym (in_second words n t count r (counted l))) (h.drawn r z (counted l)).second;
      adjacent = λ q r s lq lr ls e. together q r s lq lr (counted ls) e;
      distinct = λ q r l lr e. no-pair (record { lower = q; higher = r; order = l; there = counted lr; same = same q r l (counted lr) e });
      unary_below = λ r s lr ls e x. above r s (counted lr) (counted ls) e x;
      productive = all.productive;
      reachable = used.reachable;
    }
      where
        together : (q r s : ℕ) → q < r → r < s → s < count → (rule_at g q).left ≡ (rule_at g s).left → (rule_at g q).left ≡ (rule_at g r).left
        together q r s lq lr ls e =
            in_left words n t count q (omega arith)
            ∙ adjacent (s - r) q r lq (omega arith) (sym (in_left words n t count q (omega arith)) ∙ e ∙ in_left words n t count s ls ∙ ap (left_in words) (omega arith))
            ∙ sym (in_left words n t count r (omega arith))

        same : (q r : ℕ) → q < r → r < count → rule_at g q ≡ rule_at g r → Same words q r
        same q r l lr e = record {
          left = sym (in_left words n t count q (omega arith)) ∙ ap (λ (x : Rule). x.left) e ∙ in_left words n t count r lr;
          first = sym (in_first words n t count q (omega arith)) ∙ ap (λ (x : Rule). x.first) e ∙ in_first words n t count r lr;
          second = sym (in_second words n t count q (omega arith)) ∙ ap (λ (x : Rule). x.second) e ∙ in_second words n t count r lr;
        }

        above : (r s : ℕ) → r < count → s < count → (rule_at g r).second ≡ none → (rule_at g s).left ≡ (rule_at g r).first → r < s
        above r s lr ls e x = elim (dec_lt r s) [
          | yes l ↦ l
          | no k ↦ absurd (below r s lr (sym (in_second words n t count r lr) ∙ e)
              (sym (in_left words n t count s ls) ∙ x ∙ in_first words n t count r lr) (omega arith))
        ]

-- The header of a file that is not malformed.
pub record Formed (file : List ℕ) : Type 0 where
  pub header : header_bytes ≤ length file
  pub version : version_of file ≡ 1
  pub real_length : length_of file ≡ length file
  pub told_length : length_of file ≡ header_bytes + rule_bytes * rule_count_of file

-- A file that is not malformed has each part.
pub formed : (file : List ℕ) → (Malformed file → ⊥) → Formed file
formed file n = record {
  header = elim (dec_lt (length file) header_bytes) [ yes l ↦ absurd (n (short l)) | no k ↦ omega arith ];
  version = held (version_of file) 1 (λ k. n (version k));
  real_length = held (length_of file) (length file) (λ k. n (real_length k));
  told_length = held (length_of file) (header_bytes + rule_bytes * rule_count_of file) (λ k. n (told_length k));
}
  where
    held : (a b : ℕ) → ((a ≡ b → ⊥) → ⊥) → a ≡ b
    held a b k = elim (ℕ_discrete a b) [ yes e ↦ e | no m ↦ absurd (k m) ]

-- An accepted grammar's numbers.
pub accepted_sized : (g : Grammar) → Accepted g → Sized g.symbols g.tokens (rule_count g)
accepted_sized g h = record { a_token = h.a_token; room = h.room; few_symbols = h.few_symbols; a_rule = h.a_rule; few_rules = h.few_rules }

-- Every symbol of an accepted grammar's rules is below the limit.
pub accepted-low : (words : List ℕ) (n t count : ℕ) → Accepted (grammar_in words n t count) → LowSymbols words count
accepted-low words n t count h = low words n t count size (accepted-wraps words n t count size h) (accepted-ruled words n t count size h)
  where
    size : Sized n t count
    size = subst (Sized n t) (in_count words n t count) (accepted_sized (grammar_in words n t count) h)
