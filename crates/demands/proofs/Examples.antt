-- Histories that there are: grammar A reads "0 1 0", grammar B reads "0 1 2" and drops a set, and grammar K reads a position of two kinds.
use mathlib.Core.Path.{◌≡◌, refl}
use mathlib.Core.List.{List, [], ◌∷◌}
use Prim.Native.Nat.{ℕ, ◌+◌, ◌*◌, ◌≤◌}
use native.Mathlib.Omega.{arith}
use lib.ListN.{length, replicate}
use Rattle.laws.specs.Bits.{union}
use Rattle.laws.specs.Records as records
use Rattle.laws.specs.Turns.{over, until}
use Rattle.laws.specs.Counts.{count}
use Rattle.binary_heap.specs.Entry.{entries_in}
use Rattle.binary_heap.specs.Sift.{move, goes_up, rise, sift_up, takes_right, child, goes_down, sink, sift_down}
use Rattle.binary_heap.specs.Heap.{pushed, popped}
use Rattle.binary_heap.specs.Queue.{push_queue, pop_queue}
use Rattle.bits.specs.Width.{row_words}
use Rattle.grammar.specs.Rules.{Rule, Grammar, none}
use Rattle.grammar.specs.Sentences.{Sentence, Begins}
use Rattle.grammar.specs.Accepted.{Accepted}
use Rattle.grammar.specs.Prediction.{Predicts}
use Rattle.grammar.specs.File.{Malformed, header_bytes, rule_bytes, version_of, length_of, rule_count_of, rules_from, grammar_of}
use Rattle.parse.specs.declared.State.{State}
use Rattle.parse.specs.Words.{Words, padded, filled}
use Rattle.node.specs.Choice.{both_below}
use Rattle.node.specs.Rows.{units_at, row_of, sum_row, long_product, alone_row, pair_row, product_row, leaf_row, unfit, unfit_product, unfit_right}
use Rattle.node.specs.Reading.{filler, long_right}
use Rattle.node.specs.Writing.{put, place, write_units}
use Rattle.completion.specs.Pass.{and_then, store, enqueue, written, append, store_full}
use Rattle.completion.specs.Complete.{complete_medial, complete_medial_items, complete_unary, complete_unary_predictions, complete_binary, complete_binary_predictions, complete}
use Rattle.completion.specs.Scan.{scan, scan_all}
use Rattle.completion.specs.Sums.{pop_greatest, next_summand, pop_sum, complete_sum, complete_all_sums}
use Rattle.advance.specs.NewItems.{items_from, insert, sort_into, binary}
use Rattle.advance.specs.Advance.{highest, greatest_origin, predictions}
use Rattle.earley.specs.Positions.{Positions, plain}
use Rattle.demands.specs.Positions.{is_position, any_predicted}
use Rattle.demands.specs.Steps.{Ended, with_nodes, advanced, stepped, ran}
use Rattle.demands.specs.Calls.{Sound, as_it_was, Starts, Takes, Runs, Finishes}
use Rattle.demands.specs.Histories.{History}
use Rattle.demands.proofs.Again.{Reading, reading_start, reading_on}
use Rattle.demands.proofs.Telling.{position-tells, finished-tells}
use Rattle.demands.proofs.Tokens.{judged_one, judged_finished}
use Rattle.demands.proofs.Computed.{every, some, yields, reaches, passes_accepted}
use Rattle.demands.proofs.Tabled.{word_rows, rows_of, table_of, leads, tabulates_predicts}

-- A file with the right lengths is not malformed.
whole : (file : List ℕ) → header_bytes ≤ length file → version_of file ≡ 1 → length_of file ≡ length file → length_of file ≡ header_bytes + rule_bytes * rule_count_of file
    → Malformed file → ⊥
whole file long first real told (Malformed.short l) = omega arith
whole file long first real told (Malformed.version n) = n first
whole file long first real told (Malformed.real_length n) = n real
whole file long first real told (Malformed.told_length n) = n told

abbrev pub state : ℕ → ℕ → ℕ → State
state set items used = record { set = set; items = items; used = used }

abbrev rule : ℕ → ℕ → ℕ → Rule
rule left first second = record { left = left; first = first; second = second }

-- Grammar A: its file, its rules, and the words of its table.
abbrev pub file_a : List ℕ
file_a = 1 ∷ 0 ∷ 0 ∷ 0 ∷ 35 ∷ 0 ∷ 6 ∷ 0 ∷ 2 ∷ 0 ∷ 4 ∷ 0 ∷ 4 ∷ 0 ∷ 2 ∷ 0 ∷ 5 ∷ 0 ∷ 2 ∷ 0 ∷ 2 ∷ 0 ∷ 3 ∷ 0 ∷ 2 ∷ 0 ∷ 0 ∷ 255 ∷ 255 ∷ 0 ∷ 3 ∷ 0 ∷ 1 ∷ 0 ∷ 2 ∷ []

abbrev pub grammar_a : Grammar
grammar_a = record { symbols = 6; tokens = 2; rules = rule 4 2 5 ∷ rule 2 2 3 ∷ rule 2 0 none ∷ rule 3 1 2 ∷ [] }

abbrev pub rows_a : List ℕ
rows_a = 1 ∷ 2 ∷ 5 ∷ 10 ∷ 21 ∷ 32 ∷ []

accepted_a : Accepted grammar_a
unfolding every some yields reaches
accepted_a = passes_accepted grammar_a (record {
  a_token = refl;
  room = refl;
  few_symbols = refl;
  a_rule = refl;
  few_rules = refl;
  wraps = refl;
  ends_wrap = refl;
  starts = refl;
  lefts = refl;
  firsts = refl;
  seconds = refl;
  adjacents = refl;
  distincts = refl;
  unary_belows = refl;
  productives = refl;
  reachables = refl;
})

predicts_a : Predicts grammar_a row_words (table_of rows_a)
unfolding every some leads
predicts_a = tabulates_predicts grammar_a rows_a accepted_a (record { wide = refl; small = refl; low = refl; own = refl; led = refl; closed = refl })

pub sound_a : Sound file_a grammar_a (table_of rows_a)
unfolding rules_from
sound_a = record { checked = record { whole = whole file_a (omega arith) refl refl refl; is = refl; accepted = accepted_a }; predicts = predicts_a }

abbrev pub words_a0 : Words
words_a0 =
    record {
      items = replicate 24 0;
      starts = 0 ∷ 0 ∷ 0 ∷ 0 ∷ 0 ∷ [];
      rows = word_rows (21 ∷ 0 ∷ 0 ∷ 0 ∷ []);
      queue = replicate 8 0;
      store = replicate 16 filler;
    }

abbrev pub words_a1 : Words
words_a1 =
    record {
      items = padded 24 (0 ∷ 1 ∷ 1 ∷ 0 ∷ 0 ∷ 1 ∷ []);
      starts = 0 ∷ 0 ∷ 2 ∷ 0 ∷ 0 ∷ [];
      rows = word_rows (21 ∷ 42 ∷ 0 ∷ 0 ∷ []);
      queue = replicate 8 0;
      store = filled 16 (0x8000 ∷ 0x0102 ∷ 0x2202 ∷ []);
    }

abbrev words_a2 : Words
words_a2 =
    record {
      items = padded 24 (0 ∷ 1 ∷ 1 ∷ 0 ∷ 0 ∷ 1 ∷ 1 ∷ 3 ∷ 3 ∷ []);
      starts = 0 ∷ 0 ∷ 2 ∷ 3 ∷ 0 ∷ [];
      rows = word_rows (21 ∷ 42 ∷ 5 ∷ 0 ∷ []);
      queue = replicate 8 0;
      store = filled 16 (0x8000 ∷ 0x0102 ∷ 0x2202 ∷ 0x8001 ∷ []);
    }

abbrev pub words_a3 : Words
words_a3 =
    record {
      items = padded 24 (0 ∷ 1 ∷ 1 ∷ 0 ∷ 0 ∷ 1 ∷ 1 ∷ 3 ∷ 3 ∷ 0 ∷ 1 ∷ 10 ∷ 2 ∷ 1 ∷ 5 ∷ 0 ∷ 0 ∷ 10 ∷ []);
      starts = 0 ∷ 0 ∷ 2 ∷ 3 ∷ 6 ∷ [];
      rows = word_rows (21 ∷ 42 ∷ 5 ∷ 42 ∷ []);
      queue = replicate 8 0;
      store = filled 16 (0x8000 ∷ 0x0102 ∷ 0x2202 ∷ 0x8001 ∷ 0x8000 ∷ 0x0102 ∷ 0x2202 ∷ 0x0103 ∷ 0x6305 ∷ 0x0003 ∷ 0x0102 ∷ 0x640A ∷ 0x0001 ∷ []);
    }

-- Words that were anything else before.
abbrev pub old_a : Words
old_a = record { items = replicate 24 9; starts = replicate 5 9; rows = replicate (row_words * 4) 9; queue = replicate 8 9; store = replicate 16 9 }

pub began_a : Starts file_a (state 7 7 7) old_a (as_it_was 0 (state 0 0 0) words_a0)
unfolding rows_of
began_a = Starts.done sound_a (omega arith)

-- What a parse of A may go on from.
abbrev Reads : State → Words → Positions → Type 0
Reads = Reading file_a grammar_a (table_of rows_a)

pub start_a : Reads (state 0 0 0) words_a0 []
unfolding rows_of
start_a = reading_start (state 7 7 7) old_a sound_a (omega arith) refl

pub one_a : Reads (state 1 2 3) words_a1 (plain (0 ∷ []))
unfolding entries_in is_position any_predicted scan scan_all advanced stepped ran and_then store enqueue append written write_units place put units_at row_of sum_row long_product alone_row pair_row product_row leaf_row unfit unfit_product unfit_right both_below long_right count complete_medial complete_medial_items complete_unary complete_unary_predictions complete_binary complete_binary_predictions complete pop_greatest next_summand pop_sum complete_sum complete_all_sums over until union records.flat highest greatest_origin predictions items_from insert sort_into binary push_queue pop_queue pushed popped move goes_up rise sift_up takes_right child goes_down sink sift_down rows_of
one_a = reading_on start_a (0 ∷ []) refl

-- A READS "0 1 0".
pub read_a : Reads (state 3 6 13) words_a3 (plain (0 ∷ 1 ∷ 0 ∷ []))
unfolding entries_in is_position any_predicted scan scan_all advanced stepped ran and_then store enqueue append written write_units place put units_at row_of sum_row long_product alone_row pair_row product_row leaf_row unfit unfit_product unfit_right both_below long_right count complete_medial complete_medial_items complete_unary complete_unary_predictions complete_binary complete_binary_predictions complete pop_greatest next_summand pop_sum complete_sum complete_all_sums over until union records.flat highest greatest_origin predictions items_from insert sort_into binary push_queue pop_queue pushed popped move goes_up rise sift_up takes_right child goes_down sink sift_down rows_of
read_a = reading_on (reading_on {s' = state 2 3 4} {w' = words_a2} one_a (1 ∷ []) refl) (0 ∷ []) refl

-- So it is a sentence, since finished says yes;
pub sentence_a : Sentence (grammar_of file_a) (0 ∷ 1 ∷ 0 ∷ [])
sentence_a =
    ((judged_finished (0 ∷ 1 ∷ 0 ∷ [])).0
    ((finished-tells (Finishes.done (record { checked = sound_a.checked; well_formed = read_a.ready.well_formed }))).sentences (plain (0 ∷ 1 ∷ 0 ∷ [])) read_a.history)
    ).sentence.0 refl

-- and no sentence begins with "0 0", since the second is answered 6.
pub none_a : Begins (grammar_of file_a) (0 ∷ 0 ∷ []) → ⊥
unfolding is_position any_predicted stepped
none_a =
    ((judged_one (0 ∷ [])).0 ((position-tells {kinds = 0 ∷ []} (Takes.done one_a.ready)).sentences (plain (0 ∷ [])) one_a.history refl)).impossible.0 refl

-- The same in one run, and a run of its first token alone.
abbrev pub ended : State → Words → ℕ → Ended
ended s w taken = record { outcome = as_it_was 0 s w; taken = taken }

pub run_a : Runs file_a (state 0 0 0) words_a0 (plain (0 ∷ 1 ∷ 0 ∷ [])) (ended (state 3 6 13) words_a3 3)
unfolding entries_in is_position any_predicted scan scan_all advanced stepped ran and_then store enqueue append written write_units place put units_at row_of sum_row long_product alone_row pair_row product_row leaf_row unfit unfit_product unfit_right both_below long_right count complete_medial complete_medial_items complete_unary complete_unary_predictions complete_binary complete_binary_predictions complete pop_greatest next_summand pop_sum complete_sum complete_all_sums over until union records.flat highest greatest_origin predictions items_from insert sort_into binary push_queue pop_queue pushed popped move goes_up rise sift_up takes_right child goes_down sink sift_down rows_of
run_a = Runs.done start_a.ready

pub run_one_a : Runs file_a (state 0 0 0) words_a0 (plain (0 ∷ [])) (ended (state 1 2 3) words_a1 1)
unfolding entries_in is_position any_predicted scan scan_all advanced stepped ran and_then store enqueue append written write_units place put units_at row_of sum_row long_product alone_row pair_row product_row leaf_row unfit unfit_product unfit_right both_below long_right count complete_medial complete_medial_items complete_unary complete_unary_predictions complete_binary complete_binary_predictions complete pop_greatest next_summand pop_sum complete_sum complete_all_sums over until union records.flat highest greatest_origin predictions items_from insert sort_into binary push_queue pop_queue pushed popped move goes_up rise sift_up takes_right child goes_down sink sift_down rows_of
run_one_a = Runs.done start_a.ready

-- With room for one unit the token's node is written and its sum's is not: 14, and everything is as it was.
abbrev pub narrow_a : Words
narrow_a = with_nodes (filler ∷ []) words_a0

start_narrow_a : Reads (state 0 0 0) narrow_a []
unfolding rows_of
start_narrow_a = reading_start (state 7 7 7) (with_nodes (9 ∷ []) old_a) sound_a (omega arith) refl

pub full_a : Takes file_a (state 0 0 0) narrow_a (0 ∷ []) (as_it_was store_full (state 0 0 0) narrow_a)
unfolding entries_in is_position any_predicted scan scan_all advanced stepped ran and_then store enqueue append written write_units place put units_at row_of sum_row long_product alone_row pair_row product_row leaf_row unfit unfit_product unfit_right both_below long_right count complete_medial complete_medial_items complete_unary complete_unary_predictions complete_binary complete_binary_predictions complete pop_greatest next_summand pop_sum complete_sum complete_all_sums over until union records.flat highest greatest_origin predictions items_from insert sort_into binary push_queue pop_queue pushed popped move goes_up rise sift_up takes_right child goes_down sink sift_down rows_of
full_a = Takes.done start_narrow_a.ready

-- A KIND THAT IS NOT PREDICTED IS PASSED OVER: of 0 and 1 only 0 may begin, and the position leaves what 0 alone does.
pub over_a : Takes file_a (state 0 0 0) words_a0 (0 ∷ 1 ∷ []) (as_it_was 0 (state 1 2 3) words_a1)
unfolding entries_in is_position any_predicted scan scan_all advanced stepped ran and_then store enqueue append written write_units place put units_at row_of sum_row long_product alone_row pair_row product_row leaf_row unfit unfit_product unfit_right both_below long_right count complete_medial complete_medial_items complete_unary complete_unary_predictions complete_binary complete_binary_predictions complete pop_greatest next_summand pop_sum complete_sum complete_all_sums over until union records.flat highest greatest_origin predictions items_from insert sort_into binary push_queue pop_queue pushed popped move goes_up rise sift_up takes_right child goes_down sink sift_down rows_of
over_a = Takes.done start_a.ready

-- Grammar B: its file, its rules, and the words of its table.
abbrev pub file_b : List ℕ
file_b = 1 ∷ 0 ∷ 0 ∷ 0 ∷ 41 ∷ 0 ∷ 8 ∷ 0 ∷ 3 ∷ 0 ∷ 5 ∷ 0 ∷ 6 ∷ 0 ∷ 3 ∷ 0 ∷ 7 ∷ 0 ∷ 3 ∷ 0 ∷ 3 ∷ 0 ∷ 4 ∷ 0 ∷ 3 ∷ 0 ∷ 4 ∷ 255 ∷ 255 ∷ 0 ∷ 4 ∷ 0 ∷ 0 ∷ 0 ∷ 5 ∷ 0 ∷ 5 ∷ 0 ∷ 1 ∷ 0 ∷ 2 ∷ []

abbrev pub grammar_b : Grammar
grammar_b = record { symbols = 8; tokens = 3; rules = rule 6 3 7 ∷ rule 3 3 4 ∷ rule 3 4 none ∷ rule 4 0 5 ∷ rule 5 1 2 ∷ [] }

abbrev pub rows_b : List ℕ
rows_b = 1 ∷ 2 ∷ 4 ∷ 25 ∷ 17 ∷ 34 ∷ 89 ∷ 128 ∷ []

accepted_b : Accepted grammar_b
unfolding every some yields reaches
accepted_b = passes_accepted grammar_b (record {
  a_token = refl;
  room = refl;
  few_symbols = refl;
  a_rule = refl;
  few_rules = refl;
  wraps = refl;
  ends_wrap = refl;
  starts = refl;
  lefts = refl;
  firsts = refl;
  seconds = refl;
  adjacents = refl;
  distincts = refl;
  unary_belows = refl;
  productives = refl;
  reachables = refl;
})

predicts_b : Predicts grammar_b row_words (table_of rows_b)
unfolding every some leads
predicts_b = tabulates_predicts grammar_b rows_b accepted_b (record { wide = refl; small = refl; low = refl; own = refl; led = refl; closed = refl })

pub sound_b : Sound file_b grammar_b (table_of rows_b)
unfolding rules_from
sound_b = record { checked = record { whole = whole file_b (omega arith) refl refl refl; is = refl; accepted = accepted_b }; predicts = predicts_b }

abbrev words_b0 : Words
words_b0 =
    record {
      items = replicate 18 0;
      starts = 0 ∷ 0 ∷ 0 ∷ 0 ∷ [];
      rows = word_rows (89 ∷ 0 ∷ 0 ∷ []);
      queue = replicate 4 0;
      store = replicate 16 filler;
    }

abbrev pub words_b3 : Words
words_b3 =
    record {
      items = padded 18 (0 ∷ 3 ∷ 0 ∷ 0 ∷ 1 ∷ 9 ∷ 0 ∷ 0 ∷ 9 ∷ []);
      starts = 0 ∷ 0 ∷ 1 ∷ 3 ∷ [];
      rows = word_rows (89 ∷ 0 ∷ 145 ∷ []);
      queue = replicate 4 0;
      store = filled 16 (0x8000 ∷ 0x8001 ∷ 0x8002 ∷ 0x0105 ∷ 0x6203 ∷ 0x0004 ∷ 0x0104 ∷ 0x6407 ∷ 0x0003 ∷ 0x0103 ∷ 0x2402 ∷ []);
    }

-- Words that were anything else before.
abbrev old_b : Words
old_b = record { items = replicate 18 9; starts = replicate 4 9; rows = replicate (row_words * 3) 9; queue = replicate 4 9; store = replicate 16 9 }

start_b : Reading file_b grammar_b (table_of rows_b) (state 0 0 0) words_b0 []
unfolding rows_of
start_b = reading_start (state 7 7 7) old_b sound_b (omega arith) refl

-- B READS "0 1 2" IN ONE RUN, and drops a set: three tokens, and the latest set is set 2.
pub read_b : History file_b (state 2 3 11) words_b3 (plain (0 ∷ 1 ∷ 2 ∷ []))
unfolding entries_in is_position any_predicted scan scan_all advanced stepped ran and_then store enqueue append written write_units place put units_at row_of sum_row long_product alone_row pair_row product_row leaf_row unfit unfit_product unfit_right both_below long_right count complete_medial complete_medial_items complete_unary complete_unary_predictions complete_binary complete_binary_predictions complete pop_greatest next_summand pop_sum complete_sum complete_all_sums over until union records.flat highest greatest_origin predictions items_from insert sort_into binary push_queue pop_queue pushed popped move goes_up rise sift_up takes_right child goes_down sink sift_down rows_of
read_b = History.run {b = plain (0 ∷ 1 ∷ 2 ∷ [])} start_b.history (Runs.done start_b.ready)

-- A START IN THE MIDDLE BEGINS ANEW: over the words that B's parse left, "0 1" is read and a second 0 is answered 6. No sentence begins so.
abbrev words_b1 : Words
words_b1 =
    record {
      items = padded 18 (0 ∷ 3 ∷ 0 ∷ []);
      starts = 0 ∷ 0 ∷ 1 ∷ 0 ∷ [];
      rows = word_rows (89 ∷ 34 ∷ 0 ∷ []);
      queue = replicate 4 0;
      store = filled 16 (0x8000 ∷ []);
    }

abbrev words_b2 : Words
words_b2 =
    record {
      items = padded 18 (0 ∷ 3 ∷ 0 ∷ 1 ∷ 4 ∷ 1 ∷ []);
      starts = 0 ∷ 0 ∷ 1 ∷ 2 ∷ [];
      rows = word_rows (89 ∷ 34 ∷ 4 ∷ []);
      queue = replicate 4 0;
      store = filled 16 (0x8000 ∷ 0x8001 ∷ []);
    }

again_b : Reading file_b grammar_b (table_of rows_b) (state 2 2 2) words_b2 (plain (0 ∷ 1 ∷ []))
unfolding entries_in is_position any_predicted scan scan_all advanced stepped ran and_then store enqueue append written write_units place put units_at row_of sum_row long_product alone_row pair_row product_row leaf_row unfit unfit_product unfit_right both_below long_right count complete_medial complete_medial_items complete_unary complete_unary_predictions complete_binary complete_binary_predictions complete pop_greatest next_summand pop_sum complete_sum complete_all_sums over until union records.flat highest greatest_origin predictions items_from insert sort_into binary push_queue pop_queue pushed popped move goes_up rise sift_up takes_right child goes_down sink sift_down rows_of
again_b =
    reading_on (reading_on {s' = state 1 1 1} {w' = words_b1} (reading_start {s' = state 0 0 0} {w' = words_b0} (state 2 3 11) words_b3 sound_b (omega arith) refl) (0 ∷ []) refl) (1 ∷ []) refl

pub none_b : Begins (grammar_of file_b) (0 ∷ 1 ∷ 0 ∷ []) → ⊥
unfolding is_position any_predicted stepped
none_b =
    ((judged_one (0 ∷ 1 ∷ [])).0 ((position-tells {kinds = 0 ∷ []} (Takes.done again_b.ready)).sentences (plain (0 ∷ 1 ∷ [])) again_b.history refl)).impossible.0 refl

-- Grammar K: its file, its rules, and the words of its table. Both of its tokens are sentences.
abbrev pub file_k : List ℕ
file_k = 1 ∷ 0 ∷ 0 ∷ 0 ∷ 29 ∷ 0 ∷ 5 ∷ 0 ∷ 2 ∷ 0 ∷ 3 ∷ 0 ∷ 3 ∷ 0 ∷ 2 ∷ 0 ∷ 4 ∷ 0 ∷ 2 ∷ 0 ∷ 0 ∷ 255 ∷ 255 ∷ 0 ∷ 2 ∷ 0 ∷ 1 ∷ 255 ∷ 255 ∷ []

abbrev grammar_k : Grammar
grammar_k = record { symbols = 5; tokens = 2; rules = rule 3 2 4 ∷ rule 2 0 none ∷ rule 2 1 none ∷ [] }

abbrev rows_k : List ℕ
rows_k = 1 ∷ 2 ∷ 7 ∷ 15 ∷ 16 ∷ []

accepted_k : Accepted grammar_k
unfolding every some yields reaches
accepted_k = passes_accepted grammar_k (record {
  a_token = refl;
  room = refl;
  few_symbols = refl;
  a_rule = refl;
  few_rules = refl;
  wraps = refl;
  ends_wrap = refl;
  starts = refl;
  lefts = refl;
  firsts = refl;
  seconds = refl;
  adjacents = refl;
  distincts = refl;
  unary_belows = refl;
  productives = refl;
  reachables = refl;
})

predicts_k : Predicts grammar_k row_words (table_of rows_k)
unfolding every some leads
predicts_k = tabulates_predicts grammar_k rows_k accepted_k (record { wide = refl; small = refl; low = refl; own = refl; led = refl; closed = refl })

pub sound_k : Sound file_k grammar_k (table_of rows_k)
unfolding rules_from
sound_k = record { checked = record { whole = whole file_k (omega arith) refl refl refl; is = refl; accepted = accepted_k }; predicts = predicts_k }

abbrev pub words_k0 : Words
words_k0 =
    record {
      items = replicate 9 0;
      starts = 0 ∷ 0 ∷ 0 ∷ [];
      rows = word_rows (15 ∷ 0 ∷ []);
      queue = replicate 8 0;
      store = replicate 8 filler;
    }

abbrev pub words_k1 : Words
words_k1 =
    record {
      items = padded 9 (0 ∷ 0 ∷ 2 ∷ []);
      starts = 0 ∷ 0 ∷ 1 ∷ [];
      rows = word_rows (15 ∷ 16 ∷ []);
      queue = replicate 8 0;
      store = filled 8 (0x8000 ∷ 0x8001 ∷ 0x0202 ∷ 0x2202 ∷ 0x2401 ∷ []);
    }

-- Words that were anything else before.
abbrev old_k : Words
old_k = record { items = replicate 9 9; starts = replicate 3 9; rows = replicate (row_words * 2) 9; queue = replicate 8 9; store = replicate 8 9 }

pub start_k : Reading file_k grammar_k (table_of rows_k) (state 0 0 0) words_k0 []
unfolding rows_of
start_k = reading_start (state 7 7 7) old_k sound_k (omega arith) refl

-- K READS 0 OR 1 AT ONE POSITION: the node of each is written, and one sum has both.
pub both_taken_k : Takes file_k (state 0 0 0) words_k0 (0 ∷ 1 ∷ []) (as_it_was 0 (state 1 1 5) words_k1)
unfolding entries_in is_position any_predicted scan scan_all advanced stepped ran and_then store enqueue append written write_units place put units_at row_of sum_row long_product alone_row pair_row product_row leaf_row unfit unfit_product unfit_right both_below long_right count complete_medial complete_medial_items complete_unary complete_unary_predictions complete_binary complete_binary_predictions complete pop_greatest next_summand pop_sum complete_sum complete_all_sums over until union records.flat highest greatest_origin predictions items_from insert sort_into binary push_queue pop_queue pushed popped move goes_up rise sift_up takes_right child goes_down sink sift_down rows_of
both_taken_k = Takes.done start_k.ready

pub both_k : Reading file_k grammar_k (table_of rows_k) (state 1 1 5) words_k1 ((0 ∷ 1 ∷ []) ∷ [])
unfolding entries_in is_position any_predicted scan scan_all advanced stepped ran and_then store enqueue append written write_units place put units_at row_of sum_row long_product alone_row pair_row product_row leaf_row unfit unfit_product unfit_right both_below long_right count complete_medial complete_medial_items complete_unary complete_unary_predictions complete_binary complete_binary_predictions complete pop_greatest next_summand pop_sum complete_sum complete_all_sums over until union records.flat highest greatest_origin predictions items_from insert sort_into binary push_queue pop_queue pushed popped move goes_up rise sift_up takes_right child goes_down sink sift_down rows_of
both_k = reading_on start_k (0 ∷ 1 ∷ []) refl
