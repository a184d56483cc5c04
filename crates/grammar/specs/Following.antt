-- The follow table: row X below N holds every symbol that can stand right behind X.
use Rattle.std.specs.Prelude.{◌≡◌, List, ℕ, ◌<◌, length}
use Rattle.laws.specs.Bits.{Holds, Row}
use Rattle.grammar.specs.Rules.{Grammar, Says, none}
use Rattle.grammar.specs.Accepted.{max_symbols}
use Rattle.grammar.specs.Prediction.{Reaches, row_at}

-- `y` follows `x`: it begins what a rule has beside `x`, or it follows the left side of a rule that ends with `x`.
pub data Follows (g : Grammar) : ℕ → ℕ → Type 0 where
  beside : {r a x z y : ℕ} → Says g r a x z → (z ≡ none → ⊥) → Reaches g z y → Follows g x y
  last : {r a b x y : ℕ} → Says g r a b x → (x ≡ none → ⊥) → Follows g a y → Follows g x y
  only : {r a x y : ℕ} → Says g r a x none → Follows g a y → Follows g x y

-- A table of rows of `width` words: bit y of row x is set exactly when x < N and y follows x, and every other bit is 0.
pub record Followers (g : Grammar) (width : ℕ) (table : List (List ℕ)) : Type 0 where
  pub rows : length table ≡ max_symbols
  pub row : (x : ℕ) → x < max_symbols → Row width (row_at table x)
  pub below : (x y : ℕ) → Holds (row_at table x) y → x < g.symbols
  pub follows : (x y : ℕ) → Holds (row_at table x) y → Follows g x y
  pub all : (x y : ℕ) → x < g.symbols → Follows g x y → Holds (row_at table x) y
