-- Grammar A reads "0 1 0 1 0", and grammar K a position of two kinds: under the handle that finished tells are its two trees, in the order of the pops.
use Rattle.std.proofs.Common.{◌≡◌, refl, subst, true, [], ◌∷◌, ℕ, ◌*◌, arith, replicate}
use mathlib.Core.List.{flat_map}
use Rattle.laws.specs.Bits.{union}
use Rattle.laws.specs.Records as records
use Rattle.laws.specs.Turns.{over, until}
use Rattle.laws.specs.Counts.{count}
use Rattle.binary_heap.specs.Entry.{entries_in}
use Rattle.binary_heap.specs.Sift.{move, goes_up, rise, sift_up, takes_right, child, goes_down, sink, sift_down}
use Rattle.binary_heap.specs.Heap.{pushed, popped}
use Rattle.binary_heap.specs.Queue.{push_queue, pop_queue}
use Rattle.bits.specs.Width.{row_words}
use Rattle.grammar.specs.File.{grammar_of}
use Rattle.parse.specs.declared.State.{State}
use Rattle.parse.specs.Words.{Words, within}
use Rattle.node.specs.Choice.{both_below}
use Rattle.node.specs.Rows.{units_at, row_of, sum_row, long_product, alone_row, pair_row, product_row, leaf_row, unfit, unfit_product, unfit_right}
use Rattle.node.specs.Reading.{fillers, holds, stand_all, stand, factor_at, alone, paired, long_right, near_spelt, leaf_spelt}
use Rattle.node.specs.Writing.{put, place, write_units}
use Rattle.completion.specs.Pass.{and_then, store, enqueue, written, append}
use Rattle.completion.specs.Complete.{complete_medial, complete_medial_items, complete_unary, complete_unary_predictions, complete_binary, complete_binary_predictions, complete}
use Rattle.completion.specs.Scan.{scan, scan_all}
use Rattle.completion.specs.Sums.{pop_greatest, next_summand, pop_sum, complete_sum, complete_all_sums}
use Rattle.advance.specs.NewItems.{items_from, insert, sort_into, binary}
use Rattle.advance.specs.Advance.{highest, greatest_origin, predictions}
use Rattle.earley.specs.Positions.{plain}
use Rattle.demands.specs.Positions.{is_position, any_predicted}
use Rattle.demands.specs.Steps.{Ended, started, advanced, stepped, ran, last_wraps, finished_handle}
use Rattle.demands.specs.Calls.{in_place, in_place_ended, Runs, Finishes}
use Rattle.demands.specs.Histories.{History}
use Rattle.demands.proofs.Tabled.{rows_of, table_of}
use Rattle.demands.proofs.Again.{Reading, reading_start}
use Rattle.demands.proofs.Lasting.{lasts, lasts_holding}
use Rattle.demands.proofs.Examples.{file_a, grammar_a, rows_a, sound_a, state, file_k, sound_k, words_k1, both_k}
use Rattle.forest.specs.Trees.{leaf, one}
use Rattle.forest.specs.Stores.{products_at, node_at, trees_at}
use Rattle.forest.proofs.Examples.{word, first_two, last_two}
use Rattle.planting.specs.Finished.{TreesOf, TokenTrees}
use Rattle.planting.proofs.Lasting.{finished-trees, plain-trees}

-- Words with room for six sets, and a start in them.
abbrev roomy : Words
roomy = record { items = replicate 60 9; starts = replicate 7 9; rows = replicate (row_words * 6) 9; queue = replicate 16 9; store = replicate 32 9 }

abbrev fresh : State
fresh = record { set = 0; items = 0; used = 0 }

abbrev begun : Words
begun = (in_place roomy (started grammar_a (table_of rows_a) (within roomy))).words

start : Reading file_a grammar_a (table_of rows_a) fresh begun []
start = reading_start fresh roomy sound_a (omega arith) refl

-- The run.
abbrev ended : Ended
ended = in_place_ended begun (ran grammar_a (table_of rows_a) fresh (within begun) (plain word))

history : History file_a ended.outcome.state ended.outcome.words (plain word)
unfolding entries_in is_position any_predicted scan scan_all advanced stepped ran and_then store enqueue append written write_units place put units_at row_of sum_row long_product alone_row pair_row product_row leaf_row unfit unfit_product unfit_right both_below long_right count complete_medial complete_medial_items complete_unary complete_unary_predictions complete_binary complete_binary_predictions complete pop_greatest next_summand pop_sum complete_sum complete_all_sums over until union records.flat highest greatest_origin predictions items_from insert sort_into binary push_queue pop_queue pushed popped move goes_up rise sift_up takes_right child goes_down sink sift_down rows_of
history = History.run {b = plain word} {e = ended} start.history (Runs.done start.ready)

-- Finished says yes,
says : last_wraps ended.outcome.state (within ended.outcome.words) ≡ true
unfolding entries_in is_position any_predicted scan scan_all advanced stepped ran and_then store enqueue append written write_units place put units_at row_of sum_row long_product alone_row pair_row product_row leaf_row unfit unfit_product unfit_right both_below long_right count complete_medial complete_medial_items complete_unary complete_unary_predictions complete_binary complete_binary_predictions complete pop_greatest next_summand pop_sum complete_sum complete_all_sums over until union records.flat highest greatest_origin predictions items_from insert sort_into binary push_queue pop_queue pushed popped move goes_up rise sift_up takes_right child goes_down sink sift_down rows_of
says = refl

-- and these are the trees under its handle.
are : trees_at ended.outcome.words.store (finished_handle ended.outcome.state (within ended.outcome.words)) ≡ first_two ∷ last_two ∷ []
unfolding entries_in is_position any_predicted scan scan_all advanced stepped ran and_then store enqueue append written write_units place put units_at row_of sum_row long_product alone_row pair_row product_row leaf_row unfit unfit_product unfit_right both_below long_right count complete_medial complete_medial_items complete_unary complete_unary_predictions complete_binary complete_binary_predictions complete pop_greatest next_summand pop_sum complete_sum complete_all_sums over until union records.flat highest greatest_origin predictions items_from insert sort_into binary push_queue pop_queue pushed popped move goes_up rise sift_up takes_right child goes_down sink sift_down rows_of node_at products_at fillers holds stand_all stand factor_at alone paired near_spelt leaf_spelt flat_map
are = refl

-- So "0 1 0 1 0" has these two trees, and no other.
pub two_trees_a : TokenTrees (grammar_of file_a) word (first_two ∷ last_two ∷ [])
two_trees_a =
    (plain-trees word).0
    (subst (TreesOf (grammar_of file_a) (plain word)) are
    ((finished-trees
    (Finishes.done (record { checked = sound_a.checked; well_formed = (lasts_holding (lasts history) sound_a.checked).well }))).trees (plain word) history says))

-- Where the word is 0 or 1, finished says yes too, and K has a tree for each: `2 1`, then `1 0`.
abbrev pub handle_k : ℕ
handle_k = finished_handle (state 1 1 5) (within words_k1)

pub finished_k : Finishes file_k (state 1 1 5) words_k1 0 true handle_k
finished_k = Finishes.done (record { checked = sound_k.checked; well_formed = both_k.ready.well_formed })

pub are_k : trees_at words_k1.store handle_k ≡ one 2 (leaf 1) ∷ one 1 (leaf 0) ∷ []
unfolding units_at row_of sum_row long_product alone_row pair_row product_row leaf_row unfit unfit_product unfit_right both_below long_right node_at products_at fillers holds stand_all stand factor_at alone paired near_spelt leaf_spelt flat_map rows_of
are_k = refl

pub two_trees_k : TreesOf (grammar_of file_k) ((0 ∷ 1 ∷ []) ∷ []) (one 2 (leaf 1) ∷ one 1 (leaf 0) ∷ [])
two_trees_k = subst (TreesOf (grammar_of file_k) ((0 ∷ 1 ∷ []) ∷ [])) are_k ((finished-trees finished_k).trees ((0 ∷ 1 ∷ []) ∷ []) both_k.history refl)
