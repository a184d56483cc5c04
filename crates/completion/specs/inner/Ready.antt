-- What a completion pass relies on, so that every word that it looks at is there.
use Rattle.std.specs.Prelude.{◌≡◌, List, ℕ, ◌+◌, ◌*◌, ◌/◌, ◌≤◌, ◌<◌, length, get_or}
use Rattle.laws.specs.Bits.{word_bits}
use Rattle.bits.specs.Width.{row_words}
use Rattle.item.specs.Item.{item_words, item_at, origin_at, rule_at}
use Rattle.binary_heap.specs.Sift.{entry_at}
use Rattle.grammar.specs.Rules.{Rule, no_rule}
use Rattle.grammar.specs.Accepted.{max_rules}
use Rattle.node.specs.Writing.{usable_units}
use Rattle.parse.specs.Words.{max_items, max_sets, max_queued}
use Rattle.parse.specs.WellFormed.{second_of}
use Rattle.grammar.specs.inner.Decoded.{Chained}
use Rattle.completion.specs.Pass.{Pass}
use Rattle.completion.specs.declared.pass.Pass.{Pass as Lent}
use Rattle.completion.specs.Lent.{its_rules, pass_in}

-- Few rules, whose left sides are symbols of a row.
pub record RulesFit (rs : List Rule) : Type 0 where
  pub few_rules : length rs ≤ max_rules
  pub lefts : (r : ℕ) → (get_or rs r no_rule).left < word_bits * row_words

-- The words of row `k` are there.
pub record HasRow (rows : List ℕ) (k : ℕ) : Type 0 where
  pub few_sets : length rows ≤ row_words * max_sets
  pub row : row_words * k + row_words ≤ length rows

-- The counts are within the words, and the entries of the queue are places of items.
pub record PassFits (s : Pass) : Type 0 where
  pub few_items : length s.items ≤ item_words * max_items
  pub items_fit : s.at.items ≤ length s.items / item_words
  pub few_entries : length s.queue ≤ max_queued
  pub queued_fit : s.at.queued ≤ length s.queue
  pub entries : (i : ℕ) → i < s.at.queued → (entry_at s.queue i).place < s.at.items

-- The used units are among those of a store.
pub record UnitsFit (s : Pass) : Type 0 where
  pub few_units : length s.units ≤ usable_units
  pub used_fit : s.at.used ≤ length s.units

-- `k` is a set: the places of its items do not run backwards, and the start behind them is there.
pub record IsSet (starts : List ℕ) (k : ℕ) : Type 0 where
  pub there : k + 1 < length starts
  pub upwards : get_or starts k 0 ≤ get_or starts (k + 1) 0

-- The rules of items are rules and their origins are sets; the items of the sets are there and stand in the order of their seconds.
pub record Charted (rs : List Rule) (starts : List ℕ) (s : Pass) : Type 0 where
  pub rules : (p : ℕ) → p < s.at.items → rule_at s.items p < length rs
  pub origins : (p : ℕ) → p < s.at.items → IsSet starts (origin_at s.items p)
  pub starts_fit : (k : ℕ) → get_or starts k 0 ≤ s.at.items
  pub ordered :
      (k p : ℕ) → get_or starts k 0 ≤ p → p + 1 < get_or starts (k + 1) 0 → second_of rs (item_at s.items p) ≤ second_of rs (item_at s.items (p + 1))

-- A start for each row, and one behind.
pub record Rowed (starts rows : List ℕ) : Type 0 where
  pub few_sets : length rows ≤ row_words * max_sets
  pub sets : length starts ≡ length rows / row_words + 1

-- The entries are places of items, and the rules of items are rules.
pub record RulesRead (rs : List Rule) (s : Pass) : Type 0 where
  pub sound : PassFits s
  pub few_rules : length rs ≤ max_rules
  pub rules : (p : ℕ) → p < s.at.items → rule_at s.items p < length rs

-- Kinds are symbols of a row.
pub record KindsFit (kinds : List ℕ) : Type 0 where
  pub each : (i : ℕ) → i < length kinds → get_or kinds i 0 < word_bits * row_words

-- The rules and sets that a pass reads: a start for each row, and the rules' chains.
abbrev pub Reads : Lent → Type 0
Reads p = RulesFit (its_rules p) × Rowed p.starts.now p.rows.now × Chained p.rules.now.words p.rules.now.count

-- A pass that can complete a pair.
abbrev pub Sound : Lent → Type 0
Sound p = PassFits (pass_in p) × Charted (its_rules p) p.starts.now (pass_in p)
