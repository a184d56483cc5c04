-- What well formed means, a field for each phrase of the paper, in its order. The words are those within the capacities.
use Rattle.std.specs.Prelude.{◌≡◌, List, ℕ, ◌+◌, ◌*◌, ◌/◌, ◌≤◌, ◌<◌, length, get_or, take}
use Rattle.laws.specs.Bits.{row_of, Below}
use Rattle.item.specs.Item.{Item, item_words, item_at, handle_at}
use Rattle.bits.specs.Width.{row_words}
use Rattle.grammar.specs.Rules.{Rule, none, no_rule}
use Rattle.parse.specs.declared.State.{State}
use Rattle.node.specs.Reading.{filler}
use Rattle.parse.specs.Words.{Words, start_of}
use Rattle.parse.specs.Heads.{ToEnd, Meets}

-- The rule of an item, its left side, and the symbol behind its dot.
abbrev pub rule_of : List Rule → Item → Rule
rule_of rs i = get_or rs i.rule no_rule

abbrev pub left_of : List Rule → Item → ℕ
left_of rs i = (rule_of rs i).left

abbrev pub second_of : List Rule → Item → ℕ
second_of rs i = (rule_of rs i).second

-- The order of the items of a set, by second, rule, origin, as the order of one number. `none` is above every symbol.
abbrev pub placing : List Rule → Item → ℕ
placing rs i = 4294967296 * (4294967296 * second_of rs i + i.rule) + i.origin

-- An item that set `k` may have: its origin is an earlier set, and its rule has a second symbol.
pub record Fits (rs : List Rule) (k : ℕ) (i : Item) : Type 0 where
  pub earlier : i.origin < k
  pub is_rule : i.rule < length rs
  pub has_second : second_of rs i ≡ none → ⊥

-- The items of set `k` stand at the places from its start up to the next set's.
pub record InSet (v : Words) (k p : ℕ) : Type 0 where
  pub from : start_of v k ≤ p
  pub up_to : p < start_of v (k + 1)

-- The used units, taken as a store of their own.
abbrev pub used_units : State → Words → List ℕ
used_units s v = take s.used v.store

-- `n` is the number of symbols, and `rs` are the rules.
pub record WellFormed (n : ℕ) (rs : List Rule) (s : State) (v : Words) : Type 0 where
  -- e < E, counts within capacity
  pub set_fits : s.set < length v.rows / row_words
  pub items_fit : s.items ≤ length v.items / item_words
  pub units_fit : s.used ≤ length v.store
  -- e+2 starts, first two 0, never falling, last = item count
  pub first_start : start_of v 0 ≡ 0
  pub second_start : start_of v 1 ≡ 0
  pub never_falls : (k : ℕ) → k ≤ s.set → start_of v k ≤ start_of v (k + 1)
  pub last_start : start_of v (s.set + 1) ≡ s.items
  -- each item of set k has origin < k and a rule with a second symbol
  pub fit : (k p : ℕ) → k ≤ s.set → InSet v k p → Fits rs k (item_at v.items p)
  -- in a set the items rise strictly by (second, rule, origin)
  pub rise : (k p : ℕ) → k ≤ s.set → InSet v k p → InSet v k (p + 1) → placing rs (item_at v.items p) < placing rs (item_at v.items (p + 1))
  -- no row bit at N or above
  pub symbols : (k : ℕ) → k ≤ s.set → Below n (row_of row_words v.rows k)
  -- all spare words, the queue included, 0
  pub spare_items : (i : ℕ) → item_words * s.items ≤ i → get_or v.items i 0 ≡ 0
  pub spare_starts : (i : ℕ) → s.set + 2 ≤ i → get_or v.starts i 0 ≡ 0
  pub spare_rows : (i : ℕ) → row_words * (s.set + 1) ≤ i → get_or v.rows i 0 ≡ 0
  pub spare_queue : (i : ℕ) → get_or v.queue i 0 ≡ 0
  -- spare units 0xFFFF
  pub spare_units : (i : ℕ) → s.used ≤ i → get_or v.store i filler ≡ filler
  -- the used units read from 0 to their end without a 12; each item's handle is the head of a node met on that way
  pub reads : ToEnd (used_units s v) 0
  pub handles : (p : ℕ) → p < s.items → Meets (used_units s v) (handle_at v.items p) 0
