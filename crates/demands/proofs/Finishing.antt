-- The last item of the latest set has rule 0 exactly when the accepted positions spell a sentence.
use mathlib.Core.Path.{◌≡◌, refl, sym, ap, ap₂, ◌∙◌, subst}
use mathlib.Core.Bool.{true, ◌&&◌}
use mathlib.Core.Logic.{◌↔◌, ⊎_elim}
use mathlib.Core.List.{List}
use Prim.Native.Nat.{ℕ, zero, suc, ◌+◌, ◌-◌, ◌≤◌, ◌<◌}
use native.Mathlib.Decide.{ℕ_discrete}
use native.Mathlib.Omega.{arith}
use lib.Dec.{eqb, ltb}
use borrow.Author.Tests.{ltb-true, lt-ltb, eqb-true, eq-eqb}
use Rattle.laws.proofs.Tests.{both_true}
use Rattle.item.specs.Item.{item_at, origin_at, rule_at}
use Rattle.grammar.specs.Rules.{Rule, Grammar, rule_at as rule_at_g}
use Rattle.grammar.specs.Accepted.{Accepted}
use Rattle.parse.specs.declared.State.{State}
use Rattle.parse.specs.Words.{Words, start_of}
use Rattle.parse.specs.WellFormed.{WellFormed, InSet, Fits, placing, second_of}
use Rattle.earley.specs.Positions.{Positions, SpellSentence}
use Rattle.earley.proofs.Answers.{Wrapped, wrapped_sentence, end-greatest}
use Rattle.demands.specs.Steps.{last_wraps}
use Rattle.demands.proofs.Chart.{Has, chart_of}
use Rattle.demands.proofs.Holding.{Holding}

-- In a set each item precedes the later ones.
module _ {n : ℕ} {rs : List Rule} {s : State} {v : Words} (well : WellFormed n rs s v) (k : ℕ) (there : k ≤ s.set) where
  pub rises_to : (d p q : ℕ) → p + suc d ≡ q → InSet v k p → InSet v k q → placing rs (item_at v.items p) < placing rs (item_at v.items q)
  rises_to zero p q e i j =
      let next : p + 1 ≡ q = omega arith in
      subst (λ (r : ℕ). placing rs (item_at v.items p) < placing rs (item_at v.items r)) next (well.rise k p there i (subst (InSet v k) (sym next) j))
  rises_to (suc d) p q e i j =
      let mid : InSet v k (p + 1) = record { from = omega (arith, i.from); up_to = omega (arith, j.up_to) } in
      omega (arith, well.rise k p there i mid, rises_to d (p + 1) q (omega arith) mid j)

module _ {g : Grammar} {a : Positions} {s : State} {v : Words} (accepted : Accepted g) (h : Holding g a s v) where
  abbrev e : ℕ
  e = s.set

  abbrev last : ℕ
  last = s.items - 1

  -- The last item is one of the latest set, if that has items.
  last_in_lem : start_of v e < s.items → InSet v e last
  last_in_lem some = record { from = omega arith; up_to = omega (arith, h.well.last_start) }

  last_has : start_of v e < s.items → Has v e (origin_at v.items last) (rule_at v.items last)
  last_has some = record { place = last; in_set = last_in_lem some; origin = refl; rule = refl }

  wraps : last_wraps s v ≡ true → Wrapped (chart_of s v)
  wraps says =
      let both : (ltb (start_of v e) s.items ≡ true) × (eqb (rule_at v.items last) 0 ≡ true) = both_true (ltb (start_of v e) s.items) (eqb (rule_at v.items last) 0) says in
      record {
        origin = origin_at v.items last;
        item = subst (Has v e (origin_at v.items last)) (eqb-true (rule_at v.items last) 0 both.1) (last_has (ltb-true (start_of v e) s.items both.0));
      }

  -- An item before the last is no rule 0's, or the last is too.
  last-zero : (o : ℕ) → Has v e o 0 → start_of v e < s.items → rule_at v.items last ≡ 0
  last-zero o has some = elim (ℕ_discrete has.place last) [
    | yes here ↦ ap (rule_at v.items) (sym here) ∙ has.rule
    | no n ↦
        ⊎_elim
        (λ (z : (rule_at v.items last ≡ 0) × (origin_at v.items last ≡ 0)). z.0)
        (λ (l : (rule_at_g g (rule_at v.items last)).second < (rule_at_g g 0).second). absurd (below n l))
        (end-greatest accepted h.holds (omega arith) (last_has some))
  ]
    where
      below : (has.place ≡ last → ⊥) → (rule_at_g g (rule_at v.items last)).second < (rule_at_g g 0).second → ⊥
      below n l =
          let fits : Fits g.rules e (item_at v.items last) = h.well.fit e last (omega arith) (last_in_lem some) in
          let less : has.place < last = omega (arith, has.in_set.up_to, h.well.last_start) in
          let second : second_of g.rules (item_at v.items has.place) ≡ (rule_at_g g 0).second = ap (λ (r : ℕ). (rule_at_g g r).second) has.rule in
          omega (
            arith,
            rises_to h.well e (omega arith) (last - has.place - 1) has.place last (omega arith) has.in_set (last_in_lem some),
            fits.earlier,
            fits.is_rule,
            accepted.few_rules,
            h.cut.rowed.few_sets,
            h.well.set_fits,
            second,
          )

  wrapped : Wrapped (chart_of s v) → last_wraps s v ≡ true
  wrapped w =
      let some : start_of v e < s.items = omega (arith, w.item.in_set.from, w.item.in_set.up_to, h.well.last_start) in
      ap₂ ◌&&◌ (lt-ltb (start_of v e) s.items some) (eq-eqb (rule_at v.items last) 0 (last-zero w.origin w.item some))

  -- FINISHED EXACTLY ON SENTENCES.
  pub finished-sentence : (last_wraps s v ≡ true) ↔ SpellSentence g a
  finished-sentence =
      ((λ says. (wrapped_sentence accepted h.holds).0 (wraps says)), (λ sentence. wrapped ((wrapped_sentence accepted h.holds).1 sentence)))
