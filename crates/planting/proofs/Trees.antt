-- The trees of one step: under the handle of each completed pair are exactly its derivations, each once, and the items of the sets keep theirs.
use Rattle.std.proofs.Common.{sym, subst, List, [], ◌∷◌, ◌++◌, ℕ, suc, ◌≤◌, length}
use Rattle.item.specs.Item.{Item, origin_at, rule_at, handle_at}
use Rattle.grammar.specs.Rules.{Grammar, rule_at as grammar_rule}
use Rattle.parse.specs.declared.State.{State}
use Rattle.parse.specs.Words.{Words}
use Rattle.parse.specs.WellFormed.{InSet}
use Rattle.completion.specs.Pass.{Pass}
use Rattle.demands.specs.Steps.{completed}
use Rattle.demands.proofs.Chart.{chart_of}
use Rattle.earley.specs.Positions.{Positions}
use Rattle.earley.proofs.Sieves.{any-due, unhinted}
use Rattle.earley.proofs.Charts.{Holds}
use Rattle.forest.proofs.Entries.{Items, Linked}
use Rattle.forest.proofs.Units.{unit_store}
use Rattle.forest.proofs.Whole.{Lasting, Handled, whole, held_stays}
use Rattle.planting.specs.Unrefused.{Unrefused}
use Rattle.planting.proofs.Falling.{beneath_order}
use Rattle.planting.proofs.Places.{items_of, in_sets, same_item}
use Rattle.planting.proofs.Rest.{tokens, passed, so_far, past, run, charted, kinds_read}

-- The items of a state.
abbrev pub held_items : Words → Items
held_items v =
    record {
      origin = λ p. origin_at v.items p;
      rule = λ p. rule_at v.items p;
      handle = λ p. handle_at v.items p;
      Inside = InSet v;
      New = λ p. ⊥;
    }

-- Every item of a state has a handle under which are exactly the derivations of its rule's first symbol, each once; and it stays so.
abbrev pub HandledState : {g : Grammar} {a : Positions} (st : State) (v : Words) → Holds g a (chart_of st v) → Type 0
HandledState st v h = Handled h (held_items v) (unit_store v.store) st.used

module _ {g : Grammar} {st : State} {v : Words} {kinds : List ℕ} (unrefused : Unrefused g st v kinds) {a : Positions} (h : Holds g a (chart_of st v))
    (handled : HandledState st v h) where
  abbrev end : Pass
  end = completed g st v kinds

  -- The items at the end of the pass have the handles that they had.
  handled_end : Handled h (items_of st v end) (unit_store v.store) st.used
  handled_end = record {
    held = λ k p i.
        subst
        (λ (j : Item). Lasting g a (unit_store v.store) st.used (grammar_rule g j.rule).first (h.pos j.origin) (h.pos k) j.handle)
        (sym (same_item unrefused.accepted unrefused.well unrefused.within.few_items unrefused.within.few_entries unrefused.within.rowed end (passed unrefused) k p i))
        (handled.held k p i);
  }

  abbrev inside : (k p : ℕ) → InSet v k p → k ≤ st.set
  inside = in_sets unrefused.accepted unrefused.well unrefused.within.few_items unrefused.within.few_entries unrefused.within.rowed

  -- EACH COMPLETED PAIR has exactly the derivations of its symbol from its set's position to behind the position.
  pub pair-trees : (k x p : ℕ) → Linked (past unrefused) k x p
      → Lasting g (a ++ kinds ∷ []) (unit_store end.units) end.at.used x (h.pos k) (suc (length a)) p
  pair-trees =
      whole unrefused.accepted h (tokens unrefused) any-due unhinted (items_of st v end) (beneath_order g.rules) (charted unrefused) (so_far unrefused).looped
      (run unrefused) (so_far unrefused).writing inside handled_end (so_far unrefused).begun (kinds_read unrefused)

  -- The items of the sets keep theirs.
  pub item_trees : (k p : ℕ) → InSet v k p
      → Lasting g (a ++ kinds ∷ []) (unit_store end.units) end.at.used (grammar_rule g (rule_at end.items p)).first
      (h.pos (origin_at end.items p)) (h.pos k) (handle_at end.items p)
  item_trees =
      held_stays unrefused.accepted h (tokens unrefused) any-due unhinted (items_of st v end) (beneath_order g.rules) (charted unrefused)
      (so_far unrefused).looped (run unrefused) (so_far unrefused).writing inside handled_end
