-- The steps of a position on a well-formed state. A token is a position of one kind. The words are those within the capacities.
use Rattle.std.specs.Prelude.{Bool, true, false, ◌&&◌, List, [], ◌∷◌, ℕ, ◌+◌, ◌-◌, ◌*◌, ◌/◌, length, get_or, take, drop, replicate, eqb, ltb}
use Rattle.bits.specs.Width.{row_words}
use Rattle.item.specs.Item.{item_words, rule_at, handle_at, Item}
use Rattle.grammar.specs.Rules.{Grammar, wrapper}
use Rattle.parse.specs.declared.State.{State}
use Rattle.parse.specs.Words.{Words, start_of, padded}
use Rattle.node.specs.Rows.{all_ones}
use Rattle.node.specs.Reading.{filler}
use Rattle.completion.specs.Pass.{Pass, pass_over}
use Rattle.completion.specs.Scan.{scan_all}
use Rattle.completion.specs.Sums.{complete_all_sums}
use Rattle.advance.specs.NewItems.{new_items}
use Rattle.advance.specs.Advance.{greatest_origin, last_kept, predictions, next_state, next_words}
use Rattle.earley.specs.Positions.{Positions}
use Rattle.demands.specs.Positions.{is_position, any_predicted}

-- What a call answers, by number, and leaves.
pub record Outcome : Type 0 where
  pub number : ℕ
  pub state : State
  pub words : Words

-- The refusals of a position on a well-formed state that are not a push's: no kind, kinds that do not rise or a kind ≥ T; none predicted; the new set number would
-- be ≥ E.
abbrev pub no_token : ℕ
no_token = 5

abbrev pub not_predicted : ℕ
not_predicted = 6

abbrev pub sets_full : ℕ
sets_full = 9

-- Starting clears everything, fills the store, and sets row 0 to W's row.
abbrev pub started : Grammar → List (List ℕ) → Words → Outcome
started g table v =
    record {
      number = 0;
      state = record { set = 0; items = 0; used = 0 };
      words =
          record {
            items = replicate (length v.items) 0;
            starts = replicate (length v.starts) 0;
            rows = padded (length v.rows) (get_or table (wrapper g) []);
            queue = replicate (length v.queue) 0;
            store = replicate (length v.store) filler;
          };
    }

-- Step 2: the pass of a position begins with the items of the sets, an empty queue and the used units; the kinds that are predicted are completed.
abbrev pub scanned : Grammar → State → Words → List ℕ → Pass
scanned g s v kinds =
    scan_all g.rules v.starts v.rows s.set kinds
    (pass_over (record { stopped = 0; items = s.items; queued = 0; used = s.used }) v.items v.queue v.store)

-- And step 3: sum after sum.
abbrev pub completed : Grammar → State → Words → List ℕ → Pass
completed g s v kinds = complete_all_sums g.rules v.starts v.rows (scanned g s v kinds)

-- The words with the nodes that a pass wrote.
abbrev pub with_nodes : List ℕ → Words → Words
with_nodes units v = record { items = v.items; starts = v.starts; rows = v.rows; queue = v.queue; store = units }

-- Steps 4 to 6, with `new` for the new items as step 4 leaves them, and the used units as steps 2 and 3 left them.
unfoldable pub advanced : Grammar → List (List ℕ) → State → Words → List Item → ℕ → List ℕ → Outcome
advanced g table s v new used units =
    elim (ltb (last_kept s.set (greatest_origin s.set new) + 1) (length v.rows / row_words)) [
      | true ↦
          record {
            number = 0;
            state = next_state used (last_kept s.set (greatest_origin s.set new)) v new;
            words = next_words s.set (greatest_origin s.set new) (with_nodes units v) new (predictions g.rules table new);
          }
      | false ↦ record { number = sets_full; state = s; words = v }
    ]

-- A position: step 1 and the others. A refusal leaves state and words as they were.
unfoldable pub stepped : Grammar → List (List ℕ) → State → Words → List ℕ → Outcome
stepped g table s v kinds =
    elim (is_position g.tokens kinds) [
      | false ↦ record { number = no_token; state = s; words = v }
      | true ↦
          elim (any_predicted v.rows s.set kinds) [
            | false ↦ record { number = not_predicted; state = s; words = v }
            | true ↦
                elim (eqb (completed g s v kinds).at.stopped 0) [
                  | false ↦ record { number = (completed g s v kinds).at.stopped; state = s; words = v }
                  | true ↦
                      advanced g table s v (new_items g.rules (completed g s v kinds).items s.items (completed g s v kinds).at.items)
                      (completed g s v kinds).at.used (completed g s v kinds).units
                ]
          ]
    ]

-- What a run answers and leaves, with the number of positions taken.
pub record Ended : Type 0 where
  pub outcome : Outcome
  pub taken : ℕ

abbrev pub one_more : Ended → Ended
one_more e = record { outcome = e.outcome; taken = e.taken + 1 }

-- One step a position, up to the first refusal.
unfoldable pub ran : Grammar → List (List ℕ) → State → Words → Positions → Ended
ran g table s v [] = record { outcome = record { number = 0; state = s; words = v }; taken = 0 }
ran g table s v (kinds ∷ a) =
    elim (eqb (stepped g table s v kinds).number 0) [
      | true ↦ one_more (ran g table (stepped g table s v kinds).state (stepped g table s v kinds).words a)
      | false ↦ record { outcome = stepped g table s v kinds; taken = 0 }
    ]

-- The last item of the latest set has rule 0. A set without items has none.
abbrev pub last_wraps : State → Words → Bool
last_wraps s v = ltb (start_of v s.set) s.items && eqb (rule_at v.items (s.items - 1)) 0

-- Its handle: the node of the start symbol. All ones where the answer is no.
abbrev pub finished_handle : State → Words → ℕ
finished_handle s v = elim (last_wraps s v) [ true ↦ handle_at v.items (s.items - 1) | false ↦ all_ones ]

-- The part of the item words that holds the latest set.
abbrev pub latest_part : State → Words → List ℕ
latest_part s v = take (item_words * (s.items - start_of v s.set)) (drop (item_words * start_of v s.set) v.items)
