-- A list put into a place, or told to be too long for it.
use Rattle.std.specs.Prelude.{List, ◌++◌, ℕ, ◌+◌, ◌*◌, ◌≤◌, ◌<◌, length, take, drop, Result, Ok, Err}
use Rattle.laws.specs.Bits.{word_bits}
use Rattle.bits.specs.Width.{row_words}
use Rattle.parse.specs.Words.{max_items}
use Rattle.advance.specs.inner.Order.{Stored}
use Rattle.reports.specs.declared.Unfilled.{Unfilled}
use Rattle.reports.specs.declared.Unfilled.TheVariants.{TooShort}

pub data Puts (list place : List ℕ) : Result ℕ Unfilled → List ℕ → Type 0 where
  short : length place < length list → Puts list place (Err (TooShort (length list))) place
  wrote : length list ≤ length place → Puts list place (Ok (length list)) (list ++ drop (length list) place)

-- A place with other words from `at` on, as many as there are.
abbrev pub written : List ℕ → ℕ → List ℕ → List ℕ
written place at words = take at place ++ (words ++ drop (at + length words) place)

-- Items at the places from `from` up to and without `to`, their rules among the first `count`: no more than a parse has room for.
pub record Listable (count : ℕ) (items : List ℕ) (from to : ℕ) : Type 0 where
  pub stored : Stored count items from to
  pub few : to ≤ max_items

-- The words of an item in a list of items.
abbrev pub five : ℕ
five = 5

-- Row `e` is there, and the symbols below `end` are symbols of a row.
pub record RowThere (rows : List ℕ) (e end : ℕ) : Type 0 where
  pub there : row_words * e + row_words ≤ length rows
  pub narrow : end ≤ word_bits * row_words
