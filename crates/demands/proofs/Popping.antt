-- Popping a sum: no item leaves the queue but those of its pair.
use mathlib.Core.Path.{◌≡◌, refl, sym, ap, ◌∙◌, subst₂}
use mathlib.Core.Logic.{⊎_elim}
use mathlib.Core.Bool.{Bool, true, false, ◌&&◌, not, ◌||◌}
use mathlib.Core.List.{List}
use Prim.Native.Nat.{ℕ}
use native.Mathlib.Omega.{arith}
use lib.ListN.{get_or}
use lib.Dec.{eqb}
use borrow.Author.Tests.{eqb-true}
use Rattle.laws.proofs.Counts.{found}
use Rattle.laws.proofs.Tests.{both_true}
use Rattle.laws.proofs.Turns.{until-keeps}
use Rattle.item.specs.Item.{origin_at, rule_at}
use Rattle.binary_heap.specs.Entry.{no_entry}
use Rattle.grammar.specs.Rules.{Rule, no_rule}
use Rattle.parse.specs.WellFormed.{left_of}
use Rattle.node.specs.declared.Node.{Node}
use Rattle.node.specs.declared.Node.TheVariants.{Sum}
use Rattle.completion.specs.Pass.{Pass, append}
use Rattle.completion.specs.Sums.{greatest, summands, sum_ends, next_summand, pop_sum, summed}
use Rattle.completion.specs.inner.Ready.{PassFits}
use Rattle.completion.proofs.Entries.{entries_of, entries-length}
use Rattle.completion.proofs.Turning.{sum_goes}
use Rattle.completion.proofs.Summing.{next-items}
use Rattle.completion.proofs.Charting.{append-sound, next-sound}
use Rattle.demands.proofs.Growing.{Queued, names, entry_next, queued_grows, grows_append}
use Rattle.demands.proofs.Following.{Met}

module _ (rs : List Rule) (k x : ℕ) where
  -- A sum goes on while the greatest entry is of its pair.
  sum-pair : (s : Pass) → sum_ends rs k x s ≡ false → ((greatest s).origin ≡ k) × (left_of rs (greatest s) ≡ x)
  sum-pair s goes =
      let both = both_true (eqb (greatest s).origin k) (eqb (left_of rs (greatest s)) x)
      (by_tests (eqb s.at.queued 0) (eqb (greatest s).origin k && eqb (left_of rs (greatest s)) x) goes) in
      (eqb-true (greatest s).origin k both.0, eqb-true (left_of rs (greatest s)) x both.1)
    where
      by_tests : (a b : Bool) → (a || not b) ≡ false → b ≡ true
      by_tests false true e = refl
      by_tests false false e = sym e
      by_tests true b e = absurd (let z : ◌≡◌ {A = ℕ} 0 1 = cc in omega arith)

  -- Popping a sum of a pair: what was queued is of that pair, or is queued still.
  record Popping (done : ℕ → ℕ → Type 0) (s t : Pass) : Type 0 where
    pub sound : PassFits t
    pub met : (o r : ℕ) → Queued s o r → Met rs done t o r

  module _ {done : ℕ → ℕ → Type 0} (completes : done k x) (s : Pass) where
    popping_next : (t : Pass) → sum_ends rs k x t ≡ false → Popping done s t → Popping done s (next_summand t)
    unfolding next_summand
    popping_next t goes popping =
        record { sound = next-sound t popping.sound (sum_goes rs k x t goes); met = λ o r queued. still o r (popping.met o r queued) }
      where
        of_sum : (o r : ℕ) → (greatest t).origin ≡ o → (greatest t).rule ≡ r → done o (get_or rs r no_rule).left
        of_sum o r origin rule =
            let pair = sum-pair t goes in
            subst₂ done (sym pair.0 ∙ origin) (sym pair.1 ∙ ap (λ (q : ℕ). (get_or rs q no_rule).left) rule) completes

        still : (o r : ℕ) → Met rs done t o r → Met rs done (next_summand t) o r
        still o r (Met.completed c) = Met.completed c
        still o r (Met.queued q) =
            ⊎_elim
            (λ top.
            Met.completed (of_sum o r (sym (ap (origin_at t.items) top) ∙ q.origin) (sym (ap (rule_at t.items) top) ∙ q.rule)))
            (λ entry.
            let same : (next_summand t).items ≡ t.items = next-items t in
            Met.queued (record {
              place = q.place;
              entry = entry;
              origin = ap (λ (w : List ℕ). origin_at w q.place) same ∙ q.origin;
              rule = ap (λ (w : List ℕ). rule_at w q.place) same ∙ q.rule;
            }))
            (entry_next t popping.sound (sum_goes rs k x t goes) q.place q.entry)

    pub pop_met : PassFits s → (o r : ℕ) → Queued s o r → Met rs done (pop_sum rs k x s) o r
    unfolding pop_sum
    pop_met sound =
        (until-keeps (sum_ends rs k x) next_summand (Popping done s) popping_next s.at.queued s
        (record { sound = sound; met = λ o r queued. Met.queued queued })).met

  -- The nodes of the sum change nothing of that.
  pub summed-met : {done : ℕ → ℕ → Type 0} → done k x → (s : Pass) → PassFits s → (o r : ℕ) → Queued s o r → Met rs done (summed rs k x s) o r
  summed-met completes s sound o r queued =
      let n : Node = Sum (summands rs k x s) x in
      pop_met completes (append n s) (append-sound n s sound) o r (queued_grows sound (grows_append n s) queued)

-- No item is queued in an empty queue.
pub met-empty : {rs : List Rule} {done : ℕ → ℕ → Type 0} {s : Pass} {o r : ℕ} → PassFits s → s.at.queued ≡ 0 → Met rs done s o r
    → done o (get_or rs r no_rule).left
met-empty sound nothing (Met.completed c) = c
met-empty {s = s} sound nothing (Met.queued q) =
    absurd (omega (arith, (found (names q.place) (entries_of s) no_entry q.entry.counted).within, entries-length s sound.queued_fit))
