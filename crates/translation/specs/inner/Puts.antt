-- Bytes put into lent bytes, one behind the other.
use Rattle.std.specs.Prelude.{◌≡◌, List, ℕ, ◌+◌, length}
use Rattle.std.proofs.lemmas.List.Edits.{sets}

-- `after` is `before` with these bytes at `at`, and `to` is the place behind them.
pub record Puts (before : List ℕ) (at : ℕ) (bytes after : List ℕ) (to : ℕ) : Type 0 where
  pub stored : after ≡ sets before at bytes
  pub behind : to ≡ at + length bytes
