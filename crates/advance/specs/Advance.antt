-- Steps 5 and 6: sets that nothing can reach are dropped, and the new items become the latest set.
use Rattle.std.specs.Prelude.{Bool, true, false, List, [], ◌∷◌, ◌++◌, ℕ, ◌+◌, ◌-◌, ◌*◌, max, length, get_or, take, replicate, ltb}
use Rattle.laws.specs.Bits.{union}
use Rattle.bits.specs.Width.{row_words}
use Rattle.item.specs.Item.{Item, item_words, flat}
use Rattle.grammar.specs.Rules.{Rule}
use Rattle.parse.specs.declared.State.{State}
use Rattle.parse.specs.Words.{Words, padded, start_of}
use Rattle.parse.specs.WellFormed.{second_of}

-- m: the greatest origin of the new items, or `e` if there are none.
unfoldable pub highest : List Item → ℕ
highest [] = 0
highest (i ∷ is) = max i.origin (highest is)

unfoldable pub greatest_origin : ℕ → List Item → ℕ
greatest_origin e [] = e
greatest_origin e (i ∷ is) = highest (i ∷ is)

-- e − m > 1: sets are dropped.
abbrev pub prunes : ℕ → ℕ → Bool
prunes e m = ltb 1 (e - m)

-- The latest set that is kept: sets 0..m+1 are kept, or all.
abbrev pub last_kept : ℕ → ℕ → ℕ
last_kept e m = elim (prunes e m) [ true ↦ m + 1 | false ↦ e ]

-- The rows that are kept; row m+1 is cleared where sets are dropped.
abbrev pub kept_rows : ℕ → ℕ → List ℕ → List ℕ
kept_rows e m rows =
    elim (prunes e m) [ true ↦ take (row_words * (m + 1)) rows ++ replicate row_words 0 | false ↦ take (row_words * (e + 1)) rows ]

-- The union of the table rows of the items' seconds.
unfoldable pub predictions : List Rule → List (List ℕ) → List Item → List ℕ
predictions rs table [] = replicate row_words 0
predictions rs table (i ∷ is) = union (predictions rs table is) (get_or table (second_of rs i) [])

-- The words before the place `from`, then items, then 0.
abbrev pub ending : List ℕ → ℕ → List Item → List ℕ
ending words from is = padded (length words) (take (item_words * from) words ++ flat is)

-- The state and the words when `new` is the latest set, behind the sets up to `kept`, with the row `row`. The used units are those that steps 2
-- and 3 left; sets that are dropped leave their nodes.
abbrev pub next_state : ℕ → ℕ → Words → List Item → State
next_state used kept v new = record { set = kept + 1; items = start_of v (kept + 1) + length new; used = used }

abbrev pub next_words : ℕ → ℕ → Words → List Item → List ℕ → Words
next_words e m v new row =
    record {
      items = ending v.items (start_of v (last_kept e m + 1)) new;
      starts = padded (length v.starts) (take (last_kept e m + 2) v.starts ++ ((start_of v (last_kept e m + 1) + length new) ∷ []));
      rows = padded (length v.rows) (kept_rows e m v.rows ++ row);
      queue = replicate (length v.queue) 0;
      store = v.store;
    }
