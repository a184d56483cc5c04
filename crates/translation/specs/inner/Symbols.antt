-- Symbols of a right side, in place; and symbols that two bytes name.
use Rattle.std.specs.Prelude.{List, ℕ, ◌<◌, get_or}
use Rattle.written.specs.Lists.{Each}
use Rattle.written.specs.Written.{WrittenRule}
use Rattle.written.specs.Form.{symbols_at}

-- The `n` symbols at `at` are all below `end`.
pub record AllBelow (end : ℕ) (bytes : List ℕ) (at n : ℕ) : Type 0 where
  pub below : Each (λ (x : ℕ). x < end) (symbols_at bytes at n)

-- Bytes.
pub record Narrow (bytes : List ℕ) : Type 0 where
  pub fits : (i : ℕ) → get_or bytes i 0 < 256

-- Two bytes can name each symbol of a rule.
pub record LowRule (r : WrittenRule) : Type 0 where
  pub left : r.left < 65536
  pub right : Each (λ (x : ℕ). x < 65536) r.right
