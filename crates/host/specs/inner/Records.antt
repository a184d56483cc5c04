-- Records out of plain words, and the place that they are put into.
use Rattle.std.specs.Prelude.{◌≡◌, List, [], ◌∷◌, ◌++◌, ℕ, zero, suc, ◌+◌, ◌*◌, ◌≤◌, length, get_or, drop, Result, Ok, Err}
use Rattle.parse.specs.declared.State.{State}
use Rattle.parse.specs.Words.{Words, max_items}
use Rattle.reports.specs.declared.Record.{Record}
use Rattle.reports.specs.declared.Unfilled.{Unfilled}
use Rattle.reports.specs.Lists.{Lists, latest_records}

-- The words of a record, and of as many records as a set has at most.
abbrev pub record_words : ℕ
record_words = 5

abbrev pub set_words : ℕ
set_words = record_words * max_items

-- The record whose words stand behind those of `i` records.
abbrev pub record_at : List ℕ → ℕ → Record
record_at words i =
    record {
      rule = get_or words (record_words * i) 0;
      left = get_or words (record_words * i + 1) 0;
      first = get_or words (record_words * i + 2) 0;
      second = get_or words (record_words * i + 3) 0;
      origin = get_or words (record_words * i + 4) 0;
    }

-- The first `n` records of the words.
unfoldable pub records_in : List ℕ → ℕ → List Record
records_in words zero = []
records_in words (suc n) = records_in words n ++ (record_at words n ∷ [])

-- A place with those in front.
abbrev pub filled : List ℕ → ℕ → List Record → List Record
filled words n place = records_in words n ++ drop n place

-- What is left to do: how many records to fill.
abbrev pub left_of : Result ℕ Unfilled → ℕ
left_of (Ok n) = n
left_of (Err why) = 0

-- There are words for `n` records, and places.
pub record Fillable (n : ℕ) (words : List ℕ) (place : List Record) : Type 0 where
  pub enough : record_words * n ≤ length words
  pub within : n ≤ length place

-- The report of records is done but for the filling: any place of `room` records, once the first `fill` are in front, is as the report
-- leaves it.
pub record Prepared (file : List ℕ) (s : State) (w : Words) (room number fill count : ℕ) (words : List ℕ) : Type 0 where
  pub enough : record_words * fill ≤ length words
  pub within : fill ≤ room
  pub tells : (place : List Record) → length place ≡ room → Lists file s w latest_records place number count (filled words fill place)
