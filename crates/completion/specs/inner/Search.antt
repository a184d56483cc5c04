-- Finding the items of a set whose second is a symbol.
use Rattle.std.specs.Prelude.{◌≡◌, List, ℕ, ◌+◌, ◌≤◌, ◌<◌, length}
use Rattle.item.specs.Item.{HasPlace, item_at, rule_at}
use Rattle.grammar.specs.Rules.{Rule}
use Rattle.parse.specs.WellFormed.{second_of}

-- The symbol behind the dot of the item at a place.
abbrev pub second_at : List Rule → List ℕ → ℕ → ℕ
second_at rs items p = second_of rs (item_at items p)

-- The places from `from` up to `to` have items, with rules, that rise by their seconds.
pub record Searchable (rs : List Rule) (items : List ℕ) (from to : ℕ) : Type 0 where
  pub upwards : from ≤ to
  pub there : (p : ℕ) → from ≤ p → p < to → HasPlace items p
  pub rules : (p : ℕ) → from ≤ p → p < to → rule_at items p < length rs
  pub ordered : (p : ℕ) → from ≤ p → p + 1 < to → second_at rs items p ≤ second_at rs items (p + 1)

-- `r` is the first of the places whose second is not below `x`, or `to` if there is none.
pub record FirstNotBelow (rs : List Rule) (items : List ℕ) (from to x r : ℕ) : Type 0 where
  pub from_on : from ≤ r
  pub up_to : r ≤ to
  pub below : (p : ℕ) → from ≤ p → p < r → second_at rs items p < x
  pub not_below : r < to → x ≤ second_at rs items r

-- Of the places, `number` from `first` on have items whose second is `x`; before them are lower seconds, behind them higher.
pub record Found (rs : List Rule) (items : List ℕ) (from to x first number : ℕ) : Type 0 where
  pub from_on : from ≤ first
  pub up_to : first + number ≤ to
  pub before : (p : ℕ) → from ≤ p → p < first → second_at rs items p < x
  pub there : (p : ℕ) → first ≤ p → p < first + number → second_at rs items p ≡ x
  pub behind : (p : ℕ) → first + number ≤ p → p < to → x < second_at rs items p
