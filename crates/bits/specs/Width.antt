-- How wide a row is.
use Rattle.std.specs.Prelude.{ℕ}

-- The words of a row.
abbrev pub row_words : ℕ
row_words = 8
