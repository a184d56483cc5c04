-- What is told of every nonterminal: yes of all, or no, and then of one it does not hold.
use Rattle.std.specs.Prelude.{◌≡◌, Bool, true, false, List, ℕ, ◌≤◌}
use Rattle.written.specs.Form.{end_in, written_of}
use Rattle.written.specs.Refusals.{Nonterminal, Fruitful, Reachable, Barren, Unreachable}
use Rattle.translation.specs.inner.Marks.{most_symbols}

-- Every nonterminal derives a token string, and two bytes can name them all; or one derives none.
pub record SaysFruitful (bytes : List ℕ) (answer : Bool) : Type 0 where
  pub named : answer ≡ true → end_in bytes ≤ most_symbols
  pub all : answer ≡ true → (a : ℕ) → Nonterminal (written_of bytes) a → Fruitful (written_of bytes) a
  pub not : answer ≡ false → Barren (written_of bytes)

-- Every nonterminal is reachable; or one is not.
pub record SaysReachable (bytes : List ℕ) (answer : Bool) : Type 0 where
  pub all : answer ≡ true → (a : ℕ) → Nonterminal (written_of bytes) a → Reachable (written_of bytes) a
  pub not : answer ≡ false → Unreachable (written_of bytes)
