-- What the functions of steps 4 to 6 give, of the words that they are lent.
use Rattle.std.specs.Prelude.{◌≡◌, Bool, true, false, Option, Some, None, List, [], ℕ, ◌+◌, ◌/◌, length, get_or, take, ltb}
use Rattle.bits.specs.Width.{row_words}
use Rattle.item.specs.Item.{Item}
use Rattle.grammar.specs.Rules.{Rule}
use Rattle.parse.specs.declared.State.{State}
use Rattle.parse.specs.Words.{Words, padded}
use Rattle.advance.specs.NewItems.{new_items}
use Rattle.advance.specs.Advance.{greatest_origin, last_kept, kept_rows, predictions, ending, next_state, next_words}

-- The lent words that steps 4 to 6 touch. The queue is empty by then, and no node is written any more.
abbrev pub lent : List ℕ → List ℕ → List ℕ → Words
lent items starts rows = record { items = items; starts = starts; rows = rows; queue = []; store = [] }

-- Step 5, of sets 0..e: the new items `new` stand from `start` on, behind the sets that are kept, and every other word is 0.
pub record Pruned (e m : ℕ) (items starts rows : List ℕ) (new : List Item) (start : ℕ) (items' starts' rows' : List ℕ) : Type 0 where
  pub start_is : start ≡ get_or starts (last_kept e m + 1) 0
  pub items_are : items' ≡ ending items start new
  pub starts_are : starts' ≡ padded (length starts) (take (last_kept e m + 2) starts)
  pub rows_are : rows' ≡ padded (length rows) (kept_rows e m rows)

-- Steps 5 and 6 put the new items behind the sets that are kept.
pub record Follows (used e m : ℕ) (v : Words) (new : List Item) (row : List ℕ) (s : State) (v' : Words) : Type 0 where
  pub state_is : s ≡ next_state used (last_kept e m) v new
  pub items_are : v'.items ≡ (next_words e m v new row).items
  pub starts_are : v'.starts ≡ (next_words e m v new row).starts
  pub rows_are : v'.rows ≡ (next_words e m v new row).rows

-- Steps 4 to 6, where step 3 has stored new items up to the place `to`: the new items, and m of step 5.
abbrev pub new_of : List Rule → State → Words → ℕ → List Item
new_of rs s v to = new_items rs v.items s.items to

abbrev pub reach_of : List Rule → State → Words → ℕ → ℕ
reach_of rs s v to = greatest_origin s.set (new_of rs s v to)

abbrev pub kept_of : List Rule → State → Words → ℕ → ℕ
kept_of rs s v to = last_kept s.set (reach_of rs s v to)

-- The new set number is below E. Otherwise the answer is 9.
abbrev pub has_room : List Rule → State → Words → ℕ → Bool
has_room rs s v to = ltb (kept_of rs s v to + 1) (length v.rows / row_words)

unfoldable pub advance_answer : List Rule → State → Words → ℕ → Option State
advance_answer rs s v to =
    elim (has_room rs s v to) [ true ↦ Some (next_state s.used (kept_of rs s v to) v (new_of rs s v to)) | false ↦ None ]

-- The words of the sets 0..e alone.
abbrev pub without_new : State → Words → Words
without_new s v = record { items = ending v.items s.items []; starts = v.starts; rows = v.rows; queue = v.queue; store = v.store }

unfoldable pub advance_words : List Rule → List (List ℕ) → State → Words → ℕ → Words
advance_words rs table s v to =
    elim (has_room rs s v to) [
      | true ↦ next_words s.set (reach_of rs s v to) v (new_of rs s v to) (predictions rs table (new_of rs s v to))
      | false ↦ without_new s v
    ]

pub record Advances (rs : List Rule) (table : List (List ℕ)) (s : State) (v : Words) (to : ℕ) (r : Option State) (v' : Words) : Type 0 where
  pub answer_is : r ≡ advance_answer rs s v to
  pub items_are : v'.items ≡ (advance_words rs table s v to).items
  pub starts_are : v'.starts ≡ (advance_words rs table s v to).starts
  pub rows_are : v'.rows ≡ (advance_words rs table s v to).rows
