-- A start gives a fresh chart in a well-formed state.
use mathlib.Core.Path.{◌≡◌, refl, sym, ap, ◌∙◌, subst}
use mathlib.Core.List.{List, []}
use Prim.Native.Nat.{ℕ, ◌+◌, ◌-◌, ◌/◌, ◌<◌}
use native.Mathlib.Omega.{arith}
use lib.ListN.{length, get_or, replicate, length-replicate, get_or-eq_default}
use lib.Seq.{take_at}
use Rattle.laws.specs.Bits.{Holds, Below, row_of}
use Rattle.bits.specs.Width.{row_words}
use Rattle.grammar.specs.Rules.{Grammar, wrapper}
use Rattle.grammar.specs.Accepted.{Accepted}
use Rattle.grammar.specs.Prediction.{Predicts, row_at}
use Rattle.parse.specs.Words.{Words}
use Rattle.parse.specs.WellFormed.{WellFormed}
use Rattle.parse.proofs.Capacities.{SameSizes}
use Rattle.laws.proofs.Lists.{zeros_word}
use Rattle.node.specs.Reading.{filler}
use Rattle.parse.proofs.Padded.{padded-length, padded-word, filled-unit}
use Rattle.parse.proofs.Heads.{to_end_empty}
use Rattle.earley.proofs.Charts.{Fresh}
use Rattle.demands.specs.Steps.{Outcome, started}
use Rattle.demands.proofs.Chart.{chart_of}
use Rattle.demands.proofs.Tables.{table_below}

module _ {g : Grammar} {table : List (List ℕ)} (accepted : Accepted g) (predicts : Predicts g row_words table) (v : Words) (some : 0 < length v.rows / row_words) where
  abbrev begun : Outcome
  begun = started g table v

  -- W's row.
  abbrev first-row : List ℕ
  first-row = row_at table (wrapper g)

  wide : length first-row ≡ row_words
  wide = (predicts.row (wrapper g) (omega (arith, accepted.few_symbols, accepted.room))).width_is

  row_zero : row_of row_words begun.words.rows 0 ≡ first-row
  row_zero = take_at first-row (replicate (length v.rows - length first-row) 0) row_words wide

  rows_long : length begun.words.rows ≡ length v.rows
  rows_long = padded-length (length v.rows) first-row (omega (arith, wide))

  -- It leaves as many words as there were.
  pub started_sizes : SameSizes begun.words v
  started_sizes = record {
    items = length-replicate (length v.items) 0;
    starts = length-replicate (length v.starts) 0;
    rows = rows_long;
    queue = length-replicate (length v.queue) 0;
    store = length-replicate (length v.store) filler;
  }

  -- The chart is fresh.
  pub started-fresh : Fresh g (chart_of begun.state begun.words)
  started-fresh = record {
    last = refl;
    items = λ has. omega (arith, has.in_set.from, has.in_set.up_to, zeros_word (length v.starts) 1);
    row = λ {x}. (
      (λ held. predicts.reached (wrapper g) x (subst (λ (row : List ℕ). Holds row x) row_zero held)),
      (λ reached. subst (λ (row : List ℕ). Holds row x) (sym row_zero) (predicts.all (wrapper g) x (omega (arith, accepted.room)) reached)),
    );
  }

  -- The state is well formed.
  pub started-well : WellFormed g.symbols g.rules begun.state begun.words
  started-well = record {
    set_fits = omega (arith, rows_long);
    items_fit = omega arith;
    units_fit = omega arith;
    first_start = zeros_word (length v.starts) 0;
    second_start = zeros_word (length v.starts) 1;
    never_falls = λ k l. omega (arith, zeros_word (length v.starts) k);
    last_start = zeros_word (length v.starts) 1;
    fit = λ k p l i. absurd (omega (arith, i.up_to, zeros_word (length v.starts) (k + 1)));
    rise = λ k p l i j. absurd (omega (arith, i.up_to, zeros_word (length v.starts) (k + 1)));
    symbols = λ k l.
        let first : k ≡ 0 = omega arith in
        subst (λ (n : ℕ). Below g.symbols (row_of row_words begun.words.rows n)) (sym first)
        (subst (Below g.symbols) (sym row_zero) (table_below accepted predicts (wrapper g)));
    spare_items = λ i l. zeros_word (length v.items) i;
    spare_starts = λ i l. zeros_word (length v.starts) i;
    spare_rows = λ i l. padded-word (length v.rows) first-row i ∙ get_or-eq_default first-row 0 {n = i} (omega (arith, wide));
    spare_queue = λ i. zeros_word (length v.queue) i;
    spare_units = λ i l.
        let all : length v.store ≡ length v.store - 0 = omega arith in
        ap (λ (n : ℕ). get_or (replicate n filler) i filler) all ∙ filled-unit (length v.store) [] i;
    reads = to_end_empty;
    handles = λ p l. absurd (omega arith);
  }
