-- From step to step: every item of every set keeps a handle under which are exactly the derivations of its rule's first symbol, each once.
use Rattle.std.proofs.Common.{◌≡◌, refl, sym, ◌∙◌, ap, subst, true, List, [], ◌∷◌, ◌++◌, ℕ, suc, ◌+◌, ◌/◌, ◌≤◌, ◌<◌, arith, length}
use Rattle.laws.proofs.Lists.{zeros_word}
use Rattle.bits.specs.Width.{row_words}
use Rattle.item.specs.Item.{Item, item_at, origin_at, rule_at, handle_at}
use Rattle.grammar.specs.Rules.{Grammar, rule_at as grammar_rule}
use Rattle.grammar.specs.Accepted.{Accepted}
use Rattle.grammar.specs.Prediction.{Predicts}
use Rattle.parse.specs.declared.State.{State}
use Rattle.parse.specs.Words.{Words}
use Rattle.parse.specs.WellFormed.{WellFormed, InSet}
use Rattle.completion.specs.Pass.{Pass}
use Rattle.completion.proofs.Beginning.{inside-set}
use Rattle.completion.proofs.Distinct.{first_of}
use Rattle.demands.specs.Positions.{is_position}
use Rattle.demands.specs.Steps.{completed, started}
use Rattle.demands.proofs.Chart.{chart_of, Completed}
use Rattle.demands.proofs.Cut.{Cut, cut-same}
use Rattle.demands.proofs.Exact.{completed-exactly}
use Rattle.demands.proofs.Starting.{started-fresh}
use Rattle.demands.proofs.Ways.{kept_of, following}
use Rattle.demands.proofs.Members.{Standing}
use Rattle.demands.proofs.NextSet.{following_sizes, following_well, following_next, kept-place, kept_item, new-place, standing}
use Rattle.earley.specs.Positions.{Positions}
use Rattle.earley.proofs.Sieves.{any-due, unhinted}
use Rattle.earley.proofs.Charts.{Holds, begin}
use Rattle.earley.proofs.Next.{Next}
use Rattle.earley.proofs.Token.{token}
use Rattle.forest.proofs.Entries.{Linked, Held}
use Rattle.forest.proofs.Onwards.{Carried, handled_next}
use Rattle.planting.specs.Unrefused.{Within, Unrefused}
use Rattle.planting.proofs.Places.{items_of, same_item}
use Rattle.planting.proofs.Rest.{tokens, passed, so_far, past}
use Rattle.planting.proofs.Trees.{held_items, HandledState, pair-trees, item_trees}

-- The chart holds for the positions, and every item's handle is exact, and stays so.
pub record Grown (g : Grammar) (a : Positions) (s : State) (v : Words) : Type 0 where
  pub holds : Holds g a (chart_of s v)
  pub handled : HandledState s v holds

-- Words that were cut are within the capacities.
pub cut-within : {v : Words} → Cut v → Within v
cut-within cut = record { few_items = cut.few_items; few_entries = cut.few_entries; rowed = cut.rowed }

module _ {g : Grammar} {table : List (List ℕ)} (accepted : Accepted g) (predicts : Predicts g row_words table) where
  -- A start has no items.
  pub start_grown : (v : Words) → 0 < length v.rows / row_words → Grown g [] (started g table v).state (started g table v).words
  start_grown v some = record {
    holds = begin (started-fresh accepted predicts v some);
    handled = record { held = λ k p i. absurd (omega (arith, i.up_to, zeros_word (length v.starts) (k + 1))) };
  }

  module _ {s : State} {v : Words} (well : WellFormed g.symbols g.rules s v) (cut : Cut v) (kinds : List ℕ)
      (position : is_position g.tokens kinds ≡ true) (going : (completed g s v kinds).at.stopped ≡ 0) (room : kept_of g s v kinds + 1 < length v.rows / row_words) where
    abbrev end : Pass
    end = completed g s v kinds

    abbrev s' : State
    s' = (following g table s v kinds).state

    abbrev v' : Words
    v' = (following g table s v kinds).words

    unrefused : Unrefused g s v kinds
    unrefused = record { accepted = accepted; well = well; within = cut-within cut; is_position_lem = position; on = going }

    -- The items after the step: those of a set that stays have the words that they had, and a new one has the handle of its first symbol's node.
    carried : Carried g (items_of s v end) (past unrefused) (kept_of g s v kinds) (chart_of s' v') (held_items v')
    carried = record {
      in_sets = λ {k} {p} i.
          let after : Cut v' = cut-same (following_sizes accepted predicts well cut kinds position room) cut in
          let low : k ≤ s'.set =
          inside-set (following_well accepted predicts well cut kinds position room) accepted.few_rules after.few_items after.few_entries after.rowed k p
          (record { from = i.from; up_to = i.up_to }) in
          omega arith;
      is_item = λ {k} {p} i. record { place = p; in_set = i; origin = refl; rule = refl };
      old = λ {k} {p} low i. old k p low i;
      new = λ {p} i. new p i;
    }
      where
        old : (k p : ℕ) → k ≤ kept_of g s v kinds → InSet v' k p
            → Held (items_of s v end) k (origin_at v'.items p) (rule_at v'.items p) (handle_at v'.items p)
        old k p low i =
            let inside : InSet v k p = kept-place accepted predicts well cut kinds position room k p low i in
            let same : item_at end.items p ≡ item_at v'.items p =
            same_item accepted well cut.few_items cut.few_entries cut.rowed end (passed unrefused) k p inside
            ∙ sym (kept_item accepted predicts well cut kinds position room k p low inside) in
            record {
              place = p;
              inside = inside;
              origin = ap (λ (j : Item). j.origin) same;
              rule = ap (λ (j : Item). j.rule) same;
              handle = ap (λ (j : Item). j.handle) same;
            }

        new : (p : ℕ) → InSet v' (suc (kept_of g s v kinds)) p
            → Linked (past unrefused) (origin_at v'.items p) (grammar_rule g (rule_at v'.items p)).first (handle_at v'.items p)
        new p i =
            let at : Standing end.items s.items end.at.items (item_at v'.items p) =
            standing accepted predicts well cut kinds position room (new-place accepted predicts well cut kinds position room p i) in
            subst (λ (j : Item). Linked (past unrefused) j.origin (first_of g.rules j) j.handle) at.is
            ((so_far unrefused).stored at.place at.from_on at.up_to)

    -- IT GOES ON.
    pub step_grown : {a : Positions} → Grown g a s v → Grown g (a ++ kinds ∷ []) s' v'
    step_grown {a} grown = record {
      holds = token grown.holds (tokens unrefused) exact.pass next;
      handled = handled_next grown.holds (tokens unrefused) any-due unhinted exact.pass next carried (item_trees unrefused grown.holds grown.handled)
          (pair-trees unrefused grown.holds grown.handled);
    }
      where
        exact : Completed g s v kinds
        exact = completed-exactly g accepted s v well cut kinds position going

        next : Next g (chart_of s v) exact.done (kept_of g s v kinds) (chart_of s' v')
        next = following_next accepted predicts well cut kinds position room exact
