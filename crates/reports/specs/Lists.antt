-- The lists that are told of a parse. The words are those within the capacities.
use Rattle.std.specs.Prelude.{true, false, List, [], ◌∷◌, ◌++◌, ℕ, zero, suc, ◌-◌}
use Rattle.laws.specs.Bits.{holds, row_of}
use Rattle.laws.specs.Records.{flat}
use Rattle.laws.specs.Fills.{Fills}
use Rattle.bits.specs.Width.{row_words}
use Rattle.item.specs.Item.{Item}
use Rattle.grammar.specs.Rules.{Rule, Grammar}
use Rattle.parse.specs.declared.State.{State}
use Rattle.parse.specs.Words.{Words, within, start_of}
use Rattle.parse.specs.WellFormed.{rule_of, left_of, second_of}
use Rattle.advance.specs.NewItems.{items_from}
use Rattle.demands.specs.Calls.{CallFault, Formed}
use Rattle.reports.specs.declared.Record.{Record}
use Rattle.reports.specs.Decimal.{decimal}

-- The symbols below `n` that a row holds, rising.
unfoldable pub held_below : List ℕ → ℕ → List ℕ
held_below row zero = []
held_below row (suc n) = held_below row n ++ elim (holds row n) [ true ↦ n ∷ [] | false ↦ [] ]

-- The ordinary tokens that the latest row holds.
abbrev pub expected_tokens : Grammar → State → Words → List ℕ
expected_tokens g s v = held_below (row_of row_words v.rows s.set) g.tokens

-- The items of the latest set, in their order.
abbrev pub latest_items : State → Words → List Item
latest_items s v = items_from v.items (start_of v s.set) (s.items - start_of v s.set)

abbrev pub first_of : List Rule → Item → ℕ
first_of rs i = (rule_of rs i).first

-- Five words an item: rule, left side, first, second, origin.
abbrev pub five_words : List Rule → Item → List ℕ
five_words rs i = i.rule ∷ left_of rs i ∷ first_of rs i ∷ second_of rs i ∷ i.origin ∷ []

abbrev pub latest_words : Grammar → State → Words → List ℕ
latest_words g s v = flat (five_words g.rules) (latest_items s v)

-- " ::= ", " * ", " @ " and the newline
abbrev pub becomes : List ℕ
becomes = 32 ∷ 58 ∷ 58 ∷ 61 ∷ 32 ∷ []

abbrev pub dot : List ℕ
dot = 32 ∷ 42 ∷ 32 ∷ []

abbrev pub from : List ℕ
from = 32 ∷ 64 ∷ 32 ∷ []

abbrev pub newline : List ℕ
newline = 10 ∷ []

-- A line an item: left side, `::=`, first, `*`, second, `@`, origin.
unfoldable pub line : List Rule → Item → List ℕ
line rs i =
    decimal (left_of rs i) ++ (becomes ++ (decimal (first_of rs i) ++ (dot ++ (decimal (second_of rs i) ++ (from ++ (decimal i.origin ++ newline))))))

abbrev pub latest_text : Grammar → State → Words → List ℕ
latest_text g s v = flat (line g.rules) (latest_items s v)

-- A record an item, of the five words.
abbrev pub record_of : List Rule → Item → Record
record_of rs i = record { rule = i.rule; left = left_of rs i; first = first_of rs i; second = second_of rs i; origin = i.origin }

unfoldable pub records_of : List Rule → List Item → List Record
records_of rs [] = []
records_of rs (i ∷ is) = record_of rs i ∷ records_of rs is

abbrev pub latest_records : Grammar → State → Words → List Record
latest_records g s v = records_of g.rules (latest_items s v)

-- What a report has to tell of a parse whose file is accepted and whose state is well formed.
pub data Reported {A : Type 0} (file : List ℕ) (s : State) (w : Words) (list : Grammar → State → Words → List A) : List A → Type 0 where
  formed : {g : Grammar} → Formed file s w g → Reported file s w list (list g s (within w))

-- A report of `list`: 1, 2 or 4; then 13; else the list stands in the place.
abbrev pub Lists : {A : Type 0} → List ℕ → State → Words → (Grammar → State → Words → List A) → List A → ℕ → ℕ → List A → Type 0
Lists file s w list place number count left = Fills (CallFault file s w) (Reported file s w list) place number count left
