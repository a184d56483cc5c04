-- Document 01's marked numbers, those of nodes and those of parses, as rows of one table under one statement.
use mathlib.Core.Path.{refl, sym, subst}
use mathlib.Core.Bool.{true, false}
use mathlib.Core.List.{List, [], ◌∷◌, ◌++◌}
use Prim.Native.Nat.{ℕ}
use Rattle.laws.specs.Bits.{union}
use Rattle.laws.specs.Records as records
use Rattle.laws.specs.Turns.{over, until}
use Rattle.laws.specs.Counts.{count}
use Rattle.binary_heap.specs.Entry.{entries_in}
use Rattle.binary_heap.specs.Sift.{move, goes_up, rise, sift_up, takes_right, child, goes_down, sink, sift_down}
use Rattle.binary_heap.specs.Heap.{pushed, popped}
use Rattle.binary_heap.specs.Queue.{push_queue, pop_queue}
use Rattle.grammar.specs.Rules.{Grammar}
use Rattle.grammar.specs.File.{rules_from, grammar_of}
use Rattle.node.specs.Choice.{both_below}
use Rattle.node.specs.Rows.{all_ones, units_at, row_of, sum_row, long_product, alone_row, pair_row, product_row, leaf_row, unfit, unfit_product, unfit_right}
use Rattle.node.specs.Reading.{long_right}
use Rattle.node.specs.Writing.{put, place, write_units}
use Rattle.completion.specs.Pass.{and_then, store, enqueue, written, append}
use Rattle.completion.specs.Complete.{complete_medial, complete_medial_items, complete_unary, complete_unary_predictions, complete_binary, complete_binary_predictions, complete}
use Rattle.completion.specs.Scan.{scan, scan_all}
use Rattle.completion.specs.Sums.{pop_greatest, next_summand, pop_sum, complete_sum, complete_all_sums}
use Rattle.advance.specs.NewItems.{items_from, insert, sort_into, binary}
use Rattle.advance.specs.Advance.{highest, greatest_origin, predictions}
use Rattle.demands.specs.Positions.{is_position, any_predicted}
use Rattle.demands.specs.Steps.{advanced, stepped, ran}
use Rattle.demands.specs.Calls.{Sound}
use Rattle.demands.proofs.Tabled.{rows_of, table_of}
use Rattle.demands.proofs.Examples.{rows_a, rows_b, sound_a, sound_b}
use Rattle.node.proofs.Numbers.{Row, row, All, joined, node_rows, numbers}
use Rattle.paper.proofs.Trials.{zeroed, Printed, ended, tried}

-- Grammar A.
abbrev pub A : List ℕ
A =
    0x01
    ∷ 0x00 ∷ 0x00 ∷ 0x00 ∷ 0x23
    ∷ 0x00 ∷ 0x06
    ∷ 0x00 ∷ 0x02
    ∷ 0x00 ∷ 0x04
    ∷ 0x00 ∷ 0x04 ∷ 0x00 ∷ 0x02 ∷ 0x00 ∷ 0x05
    ∷ 0x00 ∷ 0x02 ∷ 0x00 ∷ 0x02 ∷ 0x00 ∷ 0x03
    ∷ 0x00 ∷ 0x02 ∷ 0x00 ∷ 0x00 ∷ 0xFF ∷ 0xFF
    ∷ 0x00 ∷ 0x03 ∷ 0x00 ∷ 0x01 ∷ 0x00 ∷ 0x02
    ∷ []

-- Grammar B: T 3, N 8; rules 6::=3 7, 3::=3 4, 3::=4, 4::=0 5, 5::=1 2.
abbrev pub B : List ℕ
B =
    0x01
    ∷ 0x00 ∷ 0x00 ∷ 0x00 ∷ 0x29
    ∷ 0x00 ∷ 0x08
    ∷ 0x00 ∷ 0x03
    ∷ 0x00 ∷ 0x05
    ∷ 0x00 ∷ 0x06 ∷ 0x00 ∷ 0x03 ∷ 0x00 ∷ 0x07
    ∷ 0x00 ∷ 0x03 ∷ 0x00 ∷ 0x03 ∷ 0x00 ∷ 0x04
    ∷ 0x00 ∷ 0x03 ∷ 0x00 ∷ 0x04 ∷ 0xFF ∷ 0xFF
    ∷ 0x00 ∷ 0x04 ∷ 0x00 ∷ 0x00 ∷ 0x00 ∷ 0x05
    ∷ 0x00 ∷ 0x05 ∷ 0x00 ∷ 0x01 ∷ 0x00 ∷ 0x02
    ∷ []

-- The check accepts them, and these are their prediction tables: `told` says of both that the calls answer as the rows below say.
pub checked_a : Sound A (grammar_of A) (table_of rows_a)
checked_a = subst (λ (g : Grammar). Sound A g (table_of rows_a)) (sym sound_a.checked.is) sound_a

pub checked_b : Sound B (grammar_of B) (table_of rows_b)
checked_b = subst (λ (g : Grammar). Sound B g (table_of rows_b)) (sym sound_b.checked.is) sound_b

-- A trial of each, with the capacities I, E, Q and U.
abbrev a : ℕ → ℕ → ℕ → ℕ → List ℕ → Printed
a i e q u = tried A (table_of rows_a) (zeroed i e q u)

abbrev b : ℕ → ℕ → ℕ → ℕ → List ℕ → Printed
b i e q u = tried B (table_of rows_b) (zeroed i e q u)

-- What is printed behind "0" of A, and behind nothing, with the number of a refusal and the tokens taken.
abbrev behind_0 : ℕ → Printed
behind_0 number =
    record {
      number = number;
      taken = 1;
      set = 1;
      items = 0 ∷ 1 ∷ 1 ∷ 0 ∷ 0 ∷ 1 ∷ [];
      finished = true;
      units = 0x8000 ∷ 0x0102 ∷ 0x2202 ∷ [];
      handle = 1;
    }

abbrev at_first : ℕ → Printed
at_first number = record { number = number; taken = 0; set = 0; items = []; finished = false; units = []; handle = all_ones }

-- Behind "0 1 2" of B.
abbrev behind_012 : ℕ → Printed
behind_012 number =
    record {
      number = number;
      taken = 3;
      set = 2;
      items = 0 ∷ 3 ∷ 0 ∷ 0 ∷ 1 ∷ 9 ∷ 0 ∷ 0 ∷ 9 ∷ [];
      finished = true;
      units = 0x8000 ∷ 0x8001 ∷ 0x8002 ∷ 0x0105 ∷ 0x6203 ∷ 0x0004 ∷ 0x0104 ∷ 0x6407 ∷ 0x0003 ∷ 0x0103 ∷ 0x2402 ∷ [];
      handle = 9;
    }

-- The rows of parses.
unfoldable pub parse_rows : List Row
parse_rows =
    -- A: "0" finished; items then 0 1, 0 0; set 1
    row (a 8 4 4 20 (0 ∷ [])) (behind_0 0)
    -- "0 1" accepted, not finished
    ∷ row (a 8 4 4 20 (0 ∷ 1 ∷ []))
    (record {
      number = 0;
      taken = 2;
      set = 2;
      items = 0 ∷ 1 ∷ 1 ∷ 0 ∷ 0 ∷ 1 ∷ 1 ∷ 3 ∷ 3 ∷ [];
      finished = false;
      units = 0x8000 ∷ 0x0102 ∷ 0x2202 ∷ 0x8001 ∷ [];
      handle = all_ones;
    })
    -- "0 1 0" finished, six items
    ∷ row (a 8 4 4 20 (0 ∷ 1 ∷ 0 ∷ []))
    (record {
      number = 0;
      taken = 3;
      set = 3;
      items = 0 ∷ 1 ∷ 1 ∷ 0 ∷ 0 ∷ 1 ∷ 1 ∷ 3 ∷ 3 ∷ 0 ∷ 1 ∷ 10 ∷ 2 ∷ 1 ∷ 5 ∷ 0 ∷ 0 ∷ 10 ∷ [];
      finished = true;
      units = 0x8000 ∷ 0x0102 ∷ 0x2202 ∷ 0x8001 ∷ 0x8000 ∷ 0x0102 ∷ 0x2202 ∷ 0x0103 ∷ 0x6305 ∷ 0x0003 ∷ 0x0102 ∷ 0x640A ∷ 0x0001 ∷ [];
      handle = 10;
    })
    -- "1": 6
    ∷ row (a 8 4 4 20 (1 ∷ [])) (at_first 6)
    -- "0 0": 6 at the second
    ∷ row (a 8 4 4 20 (0 ∷ 0 ∷ [])) (behind_0 6)
    -- token 2: 5
    ∷ row (a 8 4 4 20 (2 ∷ [])) (at_first 5)
    -- "0" with I = 2: 7; with I = 3: 0
    ∷ row (a 2 4 4 20 (0 ∷ [])) (at_first 7)
    ∷ row (a 3 4 4 20 (0 ∷ [])) (behind_0 0)
    -- B: "0 1 2" ends at set 2 with three items; E = 3 suffices
    ∷ row (b 8 8 4 20 (0 ∷ 1 ∷ 2 ∷ [])) (behind_012 0)
    ∷ row (b 8 3 4 20 (0 ∷ 1 ∷ 2 ∷ [])) (behind_012 0)
    -- a further 0 then gives 9
    ∷ row (b 8 3 4 20 (0 ∷ 1 ∷ 2 ∷ 0 ∷ [])) (behind_012 9)
    ∷ []

parse_numbers : All parse_rows
unfolding entries_in parse_rows tried ended rules_from rows_of ran stepped is_position any_predicted advanced scan_all scan complete complete_medial complete_medial_items complete_unary complete_unary_predictions complete_binary complete_binary_predictions and_then store enqueue append written write_units place put units_at row_of sum_row long_product alone_row pair_row product_row leaf_row unfit unfit_product unfit_right both_below long_right complete_all_sums complete_sum pop_sum next_summand pop_greatest count over until push_queue pop_queue pushed popped move goes_up rise sift_up takes_right child goes_down sink sift_down items_from insert sort_into binary highest greatest_origin predictions union records.flat
parse_numbers = (refl, (refl, (refl, (refl, (refl, (refl, (refl, (refl, (refl, (refl, (refl, tt)))))))))))

-- ALL OF THEM, in one table.
abbrev pub rows : List Row
rows = node_rows ++ parse_rows

pub printed_numbers : All rows
printed_numbers = joined node_rows parse_rows numbers parse_numbers
