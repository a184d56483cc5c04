-- Rounds that mark what S reaches: after one that marks nothing every other symbol is out of reach.
use mathlib.Core.Path.{◌≡◌, refl, sym, ap, subst, ◌∙◌}
use mathlib.Core.Logic.{⊎_elim}
use mathlib.Core.Bool.{Bool, true, false}
use mathlib.Core.List.{List}
use Prim.Native.Nat.{ℕ, ◌+◌, ◌-◌, ◌<◌}
use native.Mathlib.Decide.{ℕ_discrete}
use native.Mathlib.Omega.{arith}
use lib.ListN.{length, get_or, set, replicate, length-set, length-replicate}
use lib.Seq.{get_or-set_other}
use Rattle.laws.specs.Decides.{Decides}
use Rattle.laws.proofs.Decides.{true_false, decides_map}
use Rattle.grammar.specs.Rules.{Grammar, Says, none}
use Rattle.grammar.specs.Accepted.{max_symbols, Reachable}
use Rattle.grammar.specs.Accepted.Reachable.{from_start, by_first, by_second}
use Rattle.grammar.specs.inner.Decoded.{left_in, first_in, second_in, grammar_in}
use Rattle.grammar.specs.inner.Checking.{Marked, AllMarked, Spreads, Last, AllReachable}
use Rattle.grammar.proofs.Decoding.{in_first, in_says, SaysIn, says_in_lem}
use Rattle.grammar.proofs.Marks.{unmarked_at, mark_new, mark_old, right-last}
use Rattle.grammar.proofs.Rounds.{Marking, Round, unmarked, unmarked_less, unmarked_no_more, marking-more, round_marks}

-- Both symbols marked on the right of a rule that spreads leave fewer unmarked.
fewer : (words : List ℕ) (marks : List Bool) (r b d : ℕ) → Spreads words marks r → b ≡ first_in words r → Last words r d → b < length marks → d < length marks
    → unmarked (set (set marks b true) d true) < unmarked marks
fewer words marks r b d s eb last lb ld = first (get_or marks b false) refl
  where
    first : (m : Bool) → get_or marks b false ≡ m → unmarked (set (set marks b true) d true) < unmarked marks
    first false mb = omega (arith, unmarked_less marks b lb mb, unmarked_no_more (set marks b true) d)
    first true mb = second (get_or marks d false) refl
      where
        second : (m : Bool) → get_or marks d false ≡ m → unmarked (set (set marks b true) d true) < unmarked marks
        second true md = absurd (s.right ((right-last words marks r b d eb mb last).if_yes md))
        second false md =
            omega (
              arith,
              unmarked_no_more marks b,
              unmarked_less (set marks b true) d (subst (λ (k : ℕ). d < k) (sym (length-set marks b true)) ld) (get_or-set_other marks b d true false apart ∙ md),
            )
          where
            apart : d ≡ b → ⊥
            apart e = true_false (sym mb ∙ ap (λ (x : ℕ). get_or marks x false) (sym e) ∙ md)

module _ (words : List ℕ) (n t count : ℕ) where
  abbrev g : Grammar
  g = grammar_in words n t count

  -- Marks of reachable symbols, S among them, and a round in which rules spread.
  abbrev pub Reaching : List Bool → Type 0
  Reaching marks = Marking (λ a. a ≡ first_in words 0) (Reachable g) marks

  abbrev pub Spreading : List Bool → List Bool → Bool → ℕ → Type 0
  Spreading before marks marked r = Round (λ a. a ≡ first_in words 0) (Reachable g) (Spreads words) count before marks marked r

  -- S is reachable.
  start-reachable : 0 < count → Reachable g (first_in words 0)
  start-reachable some = subst (Reachable g) (in_first words n t count 0 some) from_start

  pub reaching-start : (s : ℕ) → 0 < count → s ≡ first_in words 0 → s < max_symbols → Reaching (set (replicate max_symbols false) s true)
  reaching-start s some e low = record {
    long = length-set (replicate max_symbols false) s true ∙ length-replicate {A = Bool} max_symbols false;
    given = λ a x. subst (λ (k : ℕ). Marked (set (replicate max_symbols false) s true) k) (e ∙ sym x)
        (mark_new (replicate max_symbols false) s (omega (arith, length-replicate {A = Bool} max_symbols false)));
    sound = λ a m.
        ⊎_elim (λ (x : a ≡ s). subst (Reachable g) (sym (x ∙ e)) (start-reachable some))
        (λ (x : Marked (replicate max_symbols false) a). absurd (unmarked_at max_symbols a x))
        (mark_old (replicate max_symbols false) s a m);
  }

  -- A rule that spreads marks both symbols on its right.
  pub spreading_marks : (before marks : List Bool) (marked : Bool) (r b d : ℕ) → Spreading before marks marked r → r < count → Spreads words marks r
      → b ≡ first_in words r → b < max_symbols → Last words r d → d < max_symbols → Spreading before (set (set marks b true) d true) true (r + 1)
  spreading_marks before marks marked r b d h l s eb lb last ld =
      round_marks _ _ _ _ _ marks _ marked r h l
      (marking-more _ _ (set marks b true) d (marking-more _ _ marks b h.right lb first) ld second)
      (fewer words marks r b d s eb last (omega (arith, h.right.long)) (omega (arith, h.right.long)))
    where
      left : Reachable g (left_in words r)
      left = h.right.sound (left_in words r) s.left

      first : Reachable g b
      first = subst (Reachable g) (sym eb) (by_first (in_says words n t count r l) left)

      second : Reachable g d
      second = elim (ℕ_discrete (second_in words r) none) [
        | yes e ↦ subst (Reachable g) (eb ∙ sym (last.alone e)) first
        | no x ↦ subst (Reachable g) (sym (last.behind x)) (by_second (in_says words n t count r l) x left)
      ]

  module _ (marks : List Bool) (h : Reaching marks) (quiet : (q : ℕ) → q < count → Spreads words marks q → ⊥) where
    -- Where no rule spreads, a rule with a marked left side has a marked right side.
    closed-first : {r a b c : ℕ} → Says g r a b c → Marked marks a → Marked marks b
    closed-first {r} {a} {b} {c} s m = go (get_or marks b false) refl
      where
        in_words : SaysIn words count r a b c
        in_words = says_in_lem words n t count s

        go : (v : Bool) → get_or marks b false ≡ v → Marked marks b
        go true e = e
        go false e = absurd (quiet r in_words.there (record {
          left = subst (λ (x : ℕ). Marked marks x) (sym in_words.left) m;
          right = λ w. true_false (sym w.first ∙ ap (λ (x : ℕ). get_or marks x false) in_words.first ∙ e);
        }))

    closed-second : {r a b c : ℕ} → Says g r a b c → (c ≡ none → ⊥) → Marked marks a → Marked marks c
    closed-second {r} {a} {b} {c} s some m = go (get_or marks c false) refl
      where
        in_words : SaysIn words count r a b c
        in_words = says_in_lem words n t count s

        go : (v : Bool) → get_or marks c false ≡ v → Marked marks c
        go true e = e
        go false e = absurd (quiet r in_words.there (record {
          left = subst (λ (x : ℕ). Marked marks x) (sym in_words.left) m;
          right = λ w.
              ⊎_elim (λ (x : second_in words r ≡ none). some (sym in_words.second ∙ x))
              (λ (x : Marked marks (second_in words r)). true_false (sym x ∙ ap (λ (y : ℕ). get_or marks y false) in_words.second ∙ e))
              w.second;
        }))

    -- So every reachable symbol is marked,
    complete : 0 < count → {a : ℕ} → Reachable g a → Marked marks a
    complete some from_start = h.given _ (in_first words n t count 0 some)
    complete some (by_first s p) = closed-first s (complete some p)
    complete some (by_second s x p) = closed-second s x (complete some p)

    -- and the marks decide.
    pub decided : (answer : Bool) → 0 < count → Decides answer (AllMarked marks t (n - 2)) → Decides answer (AllReachable g)
    decided answer some =
        decides_map
        (λ m. record { reachable = λ a k. h.sound a (m.marked a k.no_token_lem k.no_wrapper) })
        (λ p. record { marked = λ a l u. complete some (p.reachable a (record { no_token_lem = l; no_wrapper = u })) })
