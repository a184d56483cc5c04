-- The table: three arrays that hold an entry for each position.
use Rattle.std.specs.Prelude.{◌≡◌, Option, Some, None, List, ℕ, ◌<◌, get_or}
use Rattle.trees.specs.inner.Weights.{entry_at}
use Rattle.trees.specs.declared.Weight.{Weight}
use Rattle.trees.specs.declared.Weight.TheVariants.{Fault, Number, Many}
use Rattle.trees.specs.declared.table.Kind.{Kind}
use Rattle.trees.specs.declared.table.Kind.TheVariants.{Empty, Faulty, Counted, TooMany}
use Rattle.trees.specs.declared.table.Table.{Table}

unfoldable pub entry_of : Kind → ℕ → ℕ → Option Weight
entry_of Empty count low = None
entry_of Faulty count low = Some (Fault low)
entry_of Counted count low = Some (Number count)
entry_of TooMany count low = Some Many

-- The entry of a position: its kind, its number of trees, its lowest fault.
abbrev pub tabled : Table → ℕ → Option Weight
tabled table q = entry_of (get_or table.kinds q Empty) (get_or table.counts q 0) (get_or table.lows q 0)

-- The table tells the entries of the first positions of a store.
pub record Filled (store : List ℕ) (end : ℕ) (table : Table) : Type 0 where
  pub tells : (q : ℕ) → q < end → tabled table q ≡ entry_at store q
