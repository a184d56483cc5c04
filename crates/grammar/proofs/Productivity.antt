-- Rounds that mark what derives some string of tokens: after one that marks nothing every other symbol derives none.
use mathlib.Core.Path.{◌≡◌, refl, sym, ap, subst, ◌∙◌}
use mathlib.Core.Logic.{◌⊎◌, inl, inr, ⊎_elim}
use mathlib.Core.Bool.{Bool, true, false}
use mathlib.Core.List.{List, [], ◌∷◌, ◌++◌}
use Prim.Native.Nat.{ℕ, ◌+◌, ◌-◌, ◌≤◌, ◌<◌}
use native.Mathlib.Decide.{ℕ_discrete}
use native.Mathlib.Omega.{arith}
use lib.ListN.{get_or, set}
use Rattle.laws.specs.Decides.{Decides}
use Rattle.laws.proofs.Decides.{true_false, decides_map}
use Rattle.grammar.specs.Rules.{Grammar, Says, none}
use Rattle.grammar.specs.Sentences.{Derives}
use Rattle.grammar.specs.Sentences.Derives.{token, unary, binary}
use Rattle.grammar.specs.Accepted.{max_symbols, Productive}
use Rattle.grammar.specs.inner.Decoded.{left_in, first_in, second_in, grammar_in}
use Rattle.grammar.specs.inner.Checking.{Marked, TokensMarked, AllMarked, Fires, AllProductive}
use Rattle.grammar.proofs.Decoding.{in_says, SaysIn, says_in_lem}
use Rattle.grammar.proofs.Rounds.{Marking, Round, unmarked_less, marking-more, round_marks}

module _ (words : List ℕ) (n t count : ℕ) where
  abbrev g : Grammar
  g = grammar_in words n t count

  -- Marks of productive symbols, the tokens among them, and a round in which rules fire.
  abbrev pub Yielding : List Bool → Type 0
  Yielding marks = Marking (λ a. a < t) (Productive g) marks

  abbrev pub Firing : List Bool → List Bool → Bool → ℕ → Type 0
  Firing before marks marked r = Round (λ a. a < t) (Productive g) (Fires words) count before marks marked r

  -- The tokens are productive.
  pub yielding_tokens : (marks : List Bool) → TokensMarked t marks → Yielding marks
  yielding_tokens marks h = record {
    long = h.long;
    given = h.token;
    sound = λ a m. record { string = a ∷ []; derives = token (h.no_other a m) };
  }

  -- The left side of a rule that fires is productive.
  fired : (marks : List Bool) (r : ℕ) → Yielding marks → r < count → Fires words marks r → Productive g (left_in words r)
  fired marks r h l f = ⊎_elim alone both f.right.second
    where
      one : Productive g (first_in words r)
      one = h.sound (first_in words r) f.right.first

      alone : second_in words r ≡ none → Productive g (left_in words r)
      alone e = record {
        string = one.string;
        derives = unary {r = r} (subst (λ (c : ℕ). Says g r (left_in words r) (first_in words r) c) e (in_says words n t count r l)) one.derives;
      }

      both : Marked marks (second_in words r) → Productive g (left_in words r)
      both m = elim (ℕ_discrete (second_in words r) none) [
        | yes e ↦ alone e
        | no x ↦ record {
          string = one.string ++ (h.sound (second_in words r) m).string;
          derives = binary {r = r} (in_says words n t count r l) x one.derives (h.sound (second_in words r) m).derives;
        }
      ]

  -- A rule that fires marks its left side.
  pub firing-marks : (before marks : List Bool) (marked : Bool) (r a : ℕ) → Firing before marks marked r → r < count → Fires words marks r → a ≡ left_in words r → a < max_symbols
      → Firing before (set marks a true) true (r + 1)
  firing-marks before marks marked r a h l f e low =
      round_marks _ _ _ _ _ marks _ marked r h l
      (marking-more _ _ marks a h.right low (subst (Productive g) (sym e) (fired marks r h.right l f)))
      (unmarked_less marks a (omega (arith, h.right.long)) (new (get_or marks a false) refl))
    where
      new : (b : Bool) → get_or marks a false ≡ b → get_or marks a false ≡ false
      new true m = absurd (f.left (subst (λ (x : ℕ). Marked marks x) e m))
      new false m = m

  -- Where no rule fires, a rule with a marked right side has a marked left side.
  closed : (marks : List Bool) → ((q : ℕ) → q < count → Fires words marks q → ⊥) → (r a b c : ℕ) → Says g r a b c
      → Marked marks b → (c ≡ none) ⊎ Marked marks c → Marked marks a
  closed marks quiet r a b c s mb mc = go (get_or marks a false) refl
    where
      in_words : SaysIn words count r a b c
      in_words = says_in_lem words n t count s

      go : (m : Bool) → get_or marks a false ≡ m → Marked marks a
      go true e = e
      go false e = absurd (quiet r in_words.there (record {
        left = λ m. true_false (sym m ∙ ap (λ (x : ℕ). get_or marks x false) in_words.left ∙ e);
        right = record {
          first = subst (λ (x : ℕ). Marked marks x) (sym in_words.first) mb;
          second = ⊎_elim (λ (x : c ≡ none). inl (in_words.second ∙ x)) (λ (m : Marked marks c). inr (subst (λ (x : ℕ). Marked marks x) (sym in_words.second) m)) mc;
        };
      }))

  -- Where no rule fires, every symbol that derives a string is marked.
  pub complete : (marks : List Bool) → Yielding marks → ((q : ℕ) → q < count → Fires words marks q → ⊥) → {a : ℕ} {w : List ℕ} → Derives g a w → Marked marks a
  complete marks h quiet (token l) = h.given _ l
  complete marks h quiet (unary {r = r} {a = a} {b = b} s d) =
      closed marks quiet r a b none s (complete marks h quiet d) (inl refl)
  complete marks h quiet (binary {r = r} {a = a} {b = b} {c = c} s x d e) =
      closed marks quiet r a b c s (complete marks h quiet d) (inr (complete marks h quiet e))

  -- So the marks decide.
  pub decided : (marks : List Bool) (answer : Bool) → t + 3 ≤ n → Yielding marks → ((q : ℕ) → q < count → Fires words marks q → ⊥)
      → Decides answer (AllMarked marks t (n - 2)) → Decides answer (AllProductive g)
  decided marks answer room h quiet =
      decides_map
      (λ m. record { productive = λ a k. h.sound a (m.marked a k.no_token_lem k.no_wrapper) })
      (λ p. record { marked = λ a l u. complete marks h quiet (p.productive a (record { no_token_lem = l; no_wrapper = u })).derives })
