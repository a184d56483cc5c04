-- The items of a pass at its end, as the forest sees them: those of the sets are those of the chart, and none stands twice.
use Rattle.std.proofs.Common.{◌≡◌, sym, ◌∙◌, ap, ap₂, List, ℕ, ◌+◌, ◌-◌, ◌*◌, ◌≤◌, ◌<◌, arith, length}
use native.Mathlib.Decide.{dec_lt}
use Rattle.item.specs.Item.{Item, item_words, item_at, origin_at, rule_at, handle_at}
use Rattle.binary_heap.specs.Entry.{entry_words}
use Rattle.grammar.specs.Rules.{Rule, Grammar}
use Rattle.grammar.specs.Accepted.{Accepted}
use Rattle.parse.specs.declared.State.{State}
use Rattle.parse.specs.Words.{Words, max_items, max_queued}
use Rattle.parse.specs.WellFormed.{WellFormed, InSet, placing}
use Rattle.completion.specs.Pass.{Pass}
use Rattle.completion.specs.inner.Ready.{Rowed}
use Rattle.completion.proofs.Beginning.{beginning, start_fits, inside-set}
use Rattle.completion.proofs.Passed.{Passed}
use Rattle.demands.proofs.Chart.{chart_of}
use Rattle.demands.proofs.Finishing.{rises_to}
use Rattle.forest.proofs.Entries.{Items, Charted}

-- A place of an item that the pass has stored.
pub record NewPlace (st : State) (end : Pass) (p : ℕ) : Type 0 where
  pub from : st.items ≤ p
  pub up_to : p < end.at.items

abbrev pub items_of : State → Words → Pass → Items
items_of st v end =
    record {
      origin = λ p. origin_at end.items p;
      rule = λ p. rule_at end.items p;
      handle = λ p. handle_at end.items p;
      Inside = InSet v;
      New = NewPlace st end;
    }

module _ {n : ℕ} {rs : List Rule} {st : State} {v : Words} (well : WellFormed n rs st v) where
  -- Items of a set rise, so where origin and rule are the same, the place is.
  apart : (k p q : ℕ) → k ≤ st.set → InSet v k p → InSet v k q → p < q → origin_at v.items p ≡ origin_at v.items q
      → rule_at v.items p ≡ rule_at v.items q → ⊥
  apart k p q is_set one other less origin rule =
      let same : placing rs (item_at v.items p) ≡ placing rs (item_at v.items q) =
      ap₂ (λ o r. placing rs (record { origin = o; rule = r; handle = 0 })) origin rule in
      omega (arith, same, rises_to well k is_set (q - p - 1) p q (omega arith) one other)

  pub one_place : (k p q : ℕ) → k ≤ st.set → InSet v k p → InSet v k q → origin_at v.items p ≡ origin_at v.items q
      → rule_at v.items p ≡ rule_at v.items q → p ≡ q
  one_place k p q is_set one other origin rule =
      elim (dec_lt p q) [
        | yes less ↦ absurd (apart k p q is_set one other less origin rule)
        | no not ↦
            elim (dec_lt q p) [
              | yes less ↦ absurd (apart k q p is_set other one less (sym origin) (sym rule))
              | no neither ↦ omega arith
            ]
      ]

module _ {g : Grammar} (accepted : Accepted g) {st : State} {v : Words} (well : WellFormed g.symbols g.rules st v)
    (few_items : length v.items ≤ item_words * max_items) (few_entries : length v.queue ≤ entry_words * max_queued) (rowed : Rowed v.starts v.rows) where
  -- Only sets up to the latest have items, and these are the first ones.
  pub in_sets : (k p : ℕ) → InSet v k p → k ≤ st.set
  in_sets k p i = inside-set well accepted.few_rules few_items few_entries rowed k p (record { from = i.from; up_to = i.up_to })

  pub in_items : (k p : ℕ) → InSet v k p → p < st.items
  in_items k p i = omega (arith, i.up_to, start_fits well accepted.few_rules few_items few_entries rowed (k + 1))

  module _ (end : Pass) (passed : Passed g.rules v.starts st.set (beginning st v) end) where
    -- The pass has left them.
    pub same_item : (k p : ℕ) → InSet v k p → item_at end.items p ≡ item_at v.items p
    same_item k p i = passed.onward.same-items p (in_items k p i)

    same-origin : (k p : ℕ) → InSet v k p → origin_at end.items p ≡ origin_at v.items p
    same-origin k p i = ap (λ (j : Item). j.origin) (same_item k p i)

    same-rule : (k p : ℕ) → InSet v k p → rule_at end.items p ≡ rule_at v.items p
    same-rule k p i = ap (λ (j : Item). j.rule) (same_item k p i)

    in_pass : (k p : ℕ) → InSet v k p → p < end.at.items
    in_pass k p i = omega (arith, in_items k p i, passed.onward.more-items)

    new-once : (p q : ℕ) → NewPlace st end p → NewPlace st end q → origin_at end.items p ≡ origin_at end.items q
        → rule_at end.items p ≡ rule_at end.items q → p ≡ q
    new-once p q one other origin rule =
        elim (dec_lt p q) [
          | yes less ↦ absurd (passed.distinct p q one.from less other.up_to origin rule)
          | no not ↦
              elim (dec_lt q p) [
                | yes less ↦ absurd (passed.distinct q p other.from less one.up_to (sym origin) (sym rule))
                | no neither ↦ omega arith
              ]
        ]

    -- THE ITEMS ARE THOSE OF THE CHART, each once, and no new one stands twice.
    pub items-charted : Charted g (chart_of st v) (items_of st v end)
    items-charted =
        record {
          rules = λ {s} {p} i. passed.charted.rules p (in_pass s p i);
          new-rules = λ {p} new. passed.charted.rules p new.up_to;
          is_item = λ {s} {p} i. record { place = p; in_set = i; origin = sym (same-origin s p i); rule = sym (same-rule s p i) };
          item_is = λ {s} {o} {r} has.
              record {
                place = has.place;
                inside = has.in_set;
                origin = same-origin s has.place has.in_set ∙ has.origin;
                rule = same-rule s has.place has.in_set ∙ has.rule;
              };
          once = λ {s} {p} {q} one other origin rule.
              one_place well s p q (in_sets s p one) one other (sym (same-origin s p one) ∙ origin ∙ same-origin s q other)
              (sym (same-rule s p one) ∙ rule ∙ same-rule s q other);
          new-once = λ {p} {q} one other origin rule. new-once p q one other origin rule;
        }
