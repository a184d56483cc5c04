-- The parts of well formed that one function each tells of, over the words that it is lent.
use Rattle.std.specs.Prelude.{◌≡◌, List, ℕ, ◌+◌, ◌*◌, ◌≤◌, ◌<◌, length, get_or}
use Rattle.laws.specs.Bits.{word_bits, bit, Holds, row_of, Below}
use Rattle.item.specs.Item.{item_words, rule_at, handle_at, item_at}
use Rattle.bits.specs.Width.{row_words}
use Rattle.grammar.specs.Rules.{Rule}
use Rattle.parse.specs.declared.State.{State}
use Rattle.node.specs.Reading.{filler}
use Rattle.parse.specs.Words.{Words}
use Rattle.parse.specs.Heads.{ToEnd, Meets}
use Rattle.parse.specs.WellFormed.{Fits, placing}

-- The words of a block.
abbrev pub block_words : ℕ
block_words = 64

-- The words from `from` up to `to` are all `spare`.
pub record SpareBetween {A : Type 0} (spare : A) (words : List A) (from to : ℕ) : Type 0 where
  pub each : (i : ℕ) → from ≤ i → i < to → get_or words i spare ≡ spare

-- Every word from `from` on is `spare`: 0, or of the store's units the filler.
pub record Spare {A : Type 0} (spare : A) (words : List A) (from : ℕ) : Type 0 where
  pub each : (i : ℕ) → from ≤ i → get_or words i spare ≡ spare

abbrev pub Clear : List ℕ → ℕ → Type 0
Clear = Spare 0

abbrev pub Filled : List ℕ → ℕ → Type 0
Filled = Spare filler

-- The starts never fall up to the one behind set `e`.
pub record NeverFalls (starts : List ℕ) (e : ℕ) : Type 0 where
  pub each : (k : ℕ) → k ≤ e → get_or starts k 0 ≤ get_or starts (k + 1) 0

-- e+2 starts: the first two 0, never falling, last = item count.
pub record StartsFit (starts : List ℕ) (s : State) : Type 0 where
  pub first_start : get_or starts 0 0 ≡ 0
  pub second_start : get_or starts 1 0 ≡ 0
  pub never_falls : NeverFalls starts s.set
  pub last_start : get_or starts (s.set + 1) 0 ≡ s.items

-- The items at the places from `from` up to `to` may all be items of set `k`.
pub record AllFit (rs : List Rule) (items : List ℕ) (k from to : ℕ) : Type 0 where
  pub each : (p : ℕ) → from ≤ p → p < to → Fits rs k (item_at items p)

-- Their rules are among the first `count`.
pub record Among (items : List ℕ) (from to count : ℕ) : Type 0 where
  pub each : (p : ℕ) → from ≤ p → p < to → rule_at items p < count

-- They rise strictly by (second, rule, origin).
pub record Rises (rs : List Rule) (items : List ℕ) (from to : ℕ) : Type 0 where
  pub each : (p : ℕ) → from ≤ p → p + 1 < to → placing rs (item_at items p) < placing rs (item_at items (p + 1))

-- They are the items of a set `k`.
pub record SetFits (rs : List Rule) (items : List ℕ) (k from to : ℕ) : Type 0 where
  pub fit : AllFit rs items k from to
  pub rise : Rises rs items from to

-- Every set up to `e` has items that it may have.
pub record SetsFit (rs : List Rule) (items starts : List ℕ) (e : ℕ) : Type 0 where
  pub each : (k : ℕ) → k ≤ e → SetFits rs items k (get_or starts k 0) (get_or starts (k + 1) 0)

-- Word `i` of a row has no bit for the symbol `n` or one above.
pub record WordBelow (n i word : ℕ) : Type 0 where
  pub none_above : (b : ℕ) → b < word_bits → n ≤ word_bits * i + b → bit word b ≡ 0

-- No row up to row `e` has a bit at `n` or above.
pub record RowsBelow (n : ℕ) (rows : List ℕ) (e : ℕ) : Type 0 where
  pub each : (k : ℕ) → k ≤ e → Below n (row_of row_words rows k)

-- All spare words, the queue included, are 0, and all spare units fillers.
pub record SpareClear (s : State) (v : Words) : Type 0 where
  pub items : Clear v.items (item_words * s.items)
  pub starts : Clear v.starts (s.set + 2)
  pub rows : Clear v.rows (row_words * (s.set + 1))
  pub queue : Clear v.queue 0
  pub store : Filled v.store s.used

-- Heads of nodes are marked as bits, one for each usable unit.
abbrev pub head_words : ℕ
head_words = 512

-- None is marked.
pub record Unmarked (heads : List ℕ) : Type 0 where
  pub long : length heads ≡ head_words
  pub zero : (i : ℕ) → get_or heads i 0 ≡ 0

-- Exactly the heads of the nodes are marked that reading meets from 0 on.
pub record HeadsMarked (units heads : List ℕ) : Type 0 where
  pub long : length heads ≡ head_words
  pub met : (h : ℕ) → Holds heads h → Meets units h 0
  pub marked : (h : ℕ) → Meets units h 0 → Holds heads h

-- The handles of the first `held` items are marked.
pub record HandlesMarked (items : List ℕ) (held : ℕ) (heads : List ℕ) : Type 0 where
  pub each : (p : ℕ) → p < held → Holds heads (handle_at items p)

-- Units read to their end, and the handles of the first `held` items are heads of nodes met on that way.
pub record StoreFits (items units : List ℕ) (held : ℕ) : Type 0 where
  pub reads : ToEnd units 0
  pub handles : (p : ℕ) → p < held → Meets units (handle_at items p) 0
