-- Lines of text, put one behind the other.
use Rattle.std.specs.Prelude.{◌≡◌, List, ℕ, ◌+◌, ◌-◌, ◌*◌, ◌≤◌, ◌<◌, length}
use Rattle.laws.specs.Records.{flat}
use Rattle.item.specs.Item.{HasPlace, item_at, origin_at, rule_at}
use Rattle.grammar.specs.Accepted.{max_rules}
use Rattle.grammar.specs.inner.Decoded.{rules_in}
use Rattle.parse.specs.WellFormed.{left_of, second_of}
use Rattle.advance.specs.NewItems.{items_from}
use Rattle.reports.specs.declared.text.Shown.{Shown}
use Rattle.reports.specs.Lists.{first_of, becomes, dot, from, newline, line}
use Rattle.reports.specs.inner.Puts.{written}

-- The most digits of a number of 64 bits.
abbrev pub most_digits : ℕ
most_digits = 20

-- The bytes of a line that are no digits.
abbrev pub sign_bytes : ℕ
sign_bytes = length becomes + length dot + length from + length newline

-- The most bytes of a line, which shows four numbers.
abbrev pub most_line : ℕ
most_line = 4 * most_digits + sign_bytes

-- Words are put into a place from `at` on: what is left, and where they end.
pub record PutAt (place : List ℕ) (at : ℕ) (words : List ℕ) (end : ℕ) (left : List ℕ) : Type 0 where
  pub fits : at + length words ≤ length place
  pub ends : end ≡ at + length words
  pub leaves : left ≡ written place at words

-- The item at place `p` has a rule among the first `count`.
pub record Listed (count : ℕ) (items : List ℕ) (p : ℕ) : Type 0 where
  pub few : count ≤ max_rules
  pub there : HasPlace items p
  pub ruled : rule_at items p < count

-- The numbers that its line shows, by the first `count` of the decoded rules.
pub record Shows (rules : List ℕ) (count : ℕ) (items : List ℕ) (p : ℕ) (shown : Shown) : Type 0 where
  pub left : shown.left ≡ left_of (rules_in rules count) (item_at items p)
  pub first : shown.first ≡ first_of (rules_in rules count) (item_at items p)
  pub second : shown.second ≡ second_of (rules_in rules count) (item_at items p)
  pub origin : shown.origin ≡ origin_at items p

-- Its line.
abbrev pub line_at : List ℕ → ℕ → List ℕ → ℕ → List ℕ
line_at rules count items p = line (rules_in rules count) (item_at items p)

-- The lines of the items at the places from `from` up to and without `to`.
abbrev pub lines_of : List ℕ → ℕ → List ℕ → ℕ → ℕ → List ℕ
lines_of rules count items from to = flat (line (rules_in rules count)) (items_from items from (to - from))
