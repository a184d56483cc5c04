-- The prediction table: row X below N holds X and every symbol reached by first symbols.
use Rattle.std.specs.Prelude.{◌≡◌, List, [], ℕ, ◌<◌, length, get_or}
use Rattle.laws.specs.Bits.{Holds, Row}
use Rattle.grammar.specs.Rules.{Grammar, Says}
use Rattle.grammar.specs.Accepted.{max_symbols}

-- `y` is `x`, or is reached from `x` by first symbols.
pub data Reaches (g : Grammar) : ℕ → ℕ → Type 0 where
  here : {x : ℕ} → Reaches g x x
  by_first : {r a b c y : ℕ} → Says g r a b c → Reaches g b y → Reaches g a y

-- Row `x` of a table.
abbrev pub row_at : List (List ℕ) → ℕ → List ℕ
row_at table x = get_or table x []

-- A table of rows of `width` words: bit y of row x is set exactly when x < N and x reaches y, and every other bit is 0.
pub record Predicts (g : Grammar) (width : ℕ) (table : List (List ℕ)) : Type 0 where
  pub rows : length table ≡ max_symbols
  pub row : (x : ℕ) → x < max_symbols → Row width (row_at table x)
  pub below : (x y : ℕ) → Holds (row_at table x) y → x < g.symbols
  pub reached : (x y : ℕ) → Holds (row_at table x) y → Reaches g x y
  pub all : (x y : ℕ) → x < g.symbols → Reaches g x y → Holds (row_at table x) y
