-- Tables of rows: what stands in one before the closure, what the closure makes of it, and what two of them make. Over any width.
use Rattle.std.specs.Prelude.{◌≡◌, true, false, List, ℕ, ◌≤◌, ◌<◌, eqb, length}
use Rattle.laws.specs.Bits.{Holds, Row}
use Rattle.grammar.specs.Rules.{none}
use Rattle.grammar.specs.Accepted.{max_symbols}
use Rattle.grammar.specs.inner.Decoded.{left_in, first_in, second_in}
use Rattle.grammar.specs.Prediction.{row_at}

-- Bit `y` of row `x` is set.
abbrev pub Bit : List (List ℕ) → ℕ → ℕ → Type 0
Bit table x y = Holds (row_at table x) y

-- A row of `width` words for each symbol that there may be.
pub record Shape (width : ℕ) (table : List (List ℕ)) : Type 0 where
  pub rows : length table ≡ max_symbols
  pub row : (x : ℕ) → x < max_symbols → Row width (row_at table x)

-- A table tells a relation: it has a bit for each pair of which it holds, and no other.
pub record Tells (width : ℕ) (R : ℕ → ℕ → Type 0) (table : List (List ℕ)) : Type 0 where
  pub shape : Shape width table
  pub no_more : (x y : ℕ) → Bit table x y → R x y
  pub all : (x y : ℕ) → R x y → Bit table x y

-- The left sides and first symbols of the rules are symbols.
pub record Within (words : List ℕ) (n count : ℕ) : Type 0 where
  pub few : n ≤ max_symbols
  pub left : (r : ℕ) → r < count → left_in words r < n
  pub first : (r : ℕ) → r < count → first_in words r < n

-- And so are the second ones, of rules that have one.
pub record AllWithin (words : List ℕ) (n count : ℕ) : Type 0 where
  pub within : Within words n count
  pub second : (r : ℕ) → r < count → (second_in words r ≡ none → ⊥) → second_in words r < n

-- The last symbol on the right of rule `r`: the second, or the first where there is no second.
abbrev pub last_in : List ℕ → ℕ → ℕ
last_in words r = elim (eqb (second_in words r) none) [ true ↦ first_in words r | false ↦ second_in words r ]

-- No left side of the first `count` rules is below `low`.
pub record NotAbove (words : List ℕ) (count low : ℕ) : Type 0 where
  pub left : (r : ℕ) → r < count → low ≤ left_in words r

-- What is asked of each of the first `count` rules may be asked, and is a symbol.
pub record Symbols (pre : ℕ → Type 0) (post : ℕ → ℕ → Type 0) (count : ℕ) : Type 0 where
  pub may : (r : ℕ) → r < count → pre r
  pub low : (r x : ℕ) → r < count → post r x → x < max_symbols

-- Of rule `r` it is `f r`.
pub record Gives (post : ℕ → ℕ → Type 0) (f : ℕ → ℕ) (count : ℕ) : Type 0 where
  pub is : (r x : ℕ) → r < count → post r x → x ≡ f r

-- A symbol and itself; and of each rule the two symbols that it is asked for.
pub data Step (from to : ℕ → ℕ) (n count : ℕ) : ℕ → ℕ → Type 0 where
  own : {x : ℕ} → x < n → Step from to n count x x
  rule : {r : ℕ} → r < count → Step from to n count (from r) (to r)

-- The table of the steps.
abbrev pub Seeded : (ℕ → ℕ) → (ℕ → ℕ) → ℕ → ℕ → ℕ → List (List ℕ) → Type 0
Seeded from to width n count table = Tells width (Step from to n count) table

-- A chain of bits leads from `x` to `y`.
pub data Chain (table : List (List ℕ)) : ℕ → ℕ → Type 0 where
  link : {x y : ℕ} → Bit table x y → Chain table x y
  join : {x m y : ℕ} → Chain table x m → Chain table m y → Chain table x y

-- The closed table: a bit for every chain, and no other.
abbrev pub Closed : ℕ → List (List ℕ) → List (List ℕ) → Type 0
Closed width seed table = Tells width (Chain seed) table

-- No bit stands in a row at `n` or above.
pub record LowRows (n : ℕ) (table : List (List ℕ)) : Type 0 where
  pub low : (x y : ℕ) → Bit table x y → x < n

-- Beside the first symbol of a rule stands what its second one begins with, by the table `begins`.
pub data Beside (words : List ℕ) (begins : List (List ℕ)) (count : ℕ) : ℕ → ℕ → Type 0 where
  beside : {r y : ℕ} → r < count → (second_in words r ≡ none → ⊥) → Bit begins (second_in words r) y → Beside words begins count (first_in words r) y

-- A bit of `to` leads from `x` to a symbol, and one of `on` from there to `y`, by symbols below `n`.
pub record Across (to on : List (List ℕ)) (n x y : ℕ) : Type 0 where
  pub low : x < n
  pub middle : ℕ
  pub middle_low : middle < n
  pub first : Bit to x middle
  pub second : Bit on middle y

-- In a row below `from` no bit is set but the symbol's own.
pub record Lone (from : ℕ) (table : List (List ℕ)) : Type 0 where
  pub alone : (x y : ℕ) → x < from → Bit table x y → y ≡ x
