-- The inputs of C-20's readings, computed.
use Rattle.std.proofs.Common.{◌≡◌, refl, List, [], ◌∷◌, ℕ, arith, Result, Ok, Err}
use mathlib.Core.List.{flat_map}
use Rattle.laws.specs.Fills.{too_short}
use Rattle.node.specs.Choice.{both_below}
use Rattle.node.specs.Rows.{units_at, row_of, sum_row, long_product, alone_row, pair_row, product_row, leaf_row, unfit, unfit_right, unfit_product}
use Rattle.node.specs.Reading.{fillers, holds, stand_all, stand, factor_at, long_right, value_at, near_spelt, leaf_spelt, long_spelt}
use Rattle.node.specs.Reading.{alone as alone-spelt, paired as paired-spelt}
use Rattle.node.specs.Answers.{done}
use Rattle.forest.specs.Trees.{leaf, one}
use Rattle.forest.specs.Lists.{first}
use Rattle.forest.specs.Forests.{alone}
use Rattle.forest.specs.Stores.{products_at, node_at, trees_at}
use Rattle.trees.specs.Faults.{asked_at, Sound}
use Rattle.trees.specs.Answers.{answer, nothing, words, no_such_tree, counted, Counts, Tells}
use Rattle.trees.specs.inner.Weights.{limited, lower, plus, often, times, of_entry, factor_weight, product_weight, sum_from, closed, weigh_node, weights}
use Rattle.trees.specs.declared.Uncounted.{Uncounted}
use Rattle.trees.specs.declared.Uncounted.TheVariants.{Faulty}
use Rattle.trees.specs.declared.Weight.TheVariants.{Fault, Number}
use Rattle.trees.proofs.Counting.{no_sum-counts, weight_counts, counted-sound}

-- Under this handle of this store, count answers so.
abbrev Answers : List ℕ → ℕ → Result ℕ Uncounted → Type 0
Answers store h c = Counts store h (counted c)

-- Grammar A's "0".
abbrev of_a : List ℕ
of_a = 0x8000 ∷ 0x0102 ∷ 0x2202 ∷ []

pub record Readings : Type 0 where
  pub one_number : Answers of_a 1 (Ok 1)
  pub its_tree : trees_at of_a 1 ≡ one 2 (leaf 0) ∷ []
  -- A Sum's count is not its nonterminal: two Products for the nonterminal 3.
  pub two_products : Answers (0x8000 ∷ 0x8001 ∷ 0x0203 ∷ 0x2203 ∷ 0x2405 ∷ []) 2 (Ok 2)
  pub their_trees : trees_at (0x8000 ∷ 0x8001 ∷ 0x0203 ∷ 0x2203 ∷ 0x2405 ∷ []) 2 ≡ one 3 (leaf 1) ∷ one 5 (leaf 0) ∷ []
  -- Fillers are skipped between a Sum and its Products,
  pub filler-between : Answers (0x8000 ∷ 0x0102 ∷ 0xFFFF ∷ 0x2302 ∷ []) 1 (Ok 1)
  -- and not before a handle or a factor.
  pub filler_at_handle : Answers (0x8000 ∷ 0xFFFF ∷ 0x0102 ∷ 0x2302 ∷ []) 1 (Err (Faulty 1))
  pub filler_at_factor : Answers (0xFFFF ∷ 0x8000 ∷ 0x0102 ∷ 0x2302 ∷ []) 2 (Err (Faulty 2))
  -- A handle inside of a Product.
  pub inside : Answers (0x8000 ∷ 0x4001 ∷ 0x0105 ∷ 0x2301 ∷ []) 2 (Ok 1)
  -- A Sum of no Products; a factor between the Sum and its Product; a factor at a NullingLeaf; a Product too few.
  pub no_products : Answers (0x8000 ∷ 0x0002 ∷ []) 1 (Ok 0)
  pub factor-behind : Answers (0x8000 ∷ 0x0202 ∷ 0x2202 ∷ 0x2102 ∷ []) 1 (Err (Faulty 1))
  pub factor_nulling : Answers (0x9000 ∷ 0x0102 ∷ 0x2202 ∷ []) 1 (Err (Faulty 1))
  pub too_few : Answers (0x8000 ∷ 0x0202 ∷ 0x2202 ∷ []) 1 (Err (Faulty 1))
  -- Of two faulty Sums the lower.
  pub lowest : Answers (0x9000 ∷ 0x0102 ∷ 0x2202 ∷ 0x0202 ∷ 0x2302 ∷ 0x2505 ∷ []) 3 (Err (Faulty 1))
  -- A handle at a leaf, and one past the units.
  pub at_leaf : Answers of_a 0 (Err (Faulty 0))
  pub past_units : Answers of_a 3 (Err (Faulty 3))

pub readings : Readings
unfolding flat_map both_below units_at row_of sum_row long_product alone_row pair_row product_row leaf_row unfit unfit_right unfit_product fillers holds stand_all stand factor_at alone-spelt paired-spelt long_right value_at near_spelt leaf_spelt long_spelt products_at node_at asked_at limited lower plus often times of_entry factor_weight product_weight sum_from closed weigh_node weights
readings = record {
  one_number = weight_counts of_a 1 (alone 2 0 ∷ []) (Number 1) refl refl;
  its_tree = refl;
  two_products = weight_counts _ 2 (alone 3 1 ∷ alone 5 0 ∷ []) (Number 2) refl refl;
  their_trees = refl;
  filler-between = weight_counts _ 1 (alone 2 0 ∷ []) (Number 1) refl refl;
  filler_at_handle = no_sum-counts _ 1 (λ ps e. let z : ◌≡◌ {A = ℕ} 0 1 = cc in omega arith);
  filler_at_factor = weight_counts _ 2 (alone 2 0 ∷ []) (Fault 2) refl refl;
  inside = weight_counts _ 2 (alone 1 0 ∷ []) (Number 1) refl refl;
  no_products = weight_counts _ 1 [] (Number 0) refl refl;
  factor-behind = weight_counts _ 1 (alone 2 0 ∷ alone 2 2 ∷ []) (Fault 1) refl refl;
  factor_nulling = weight_counts _ 1 (alone 2 0 ∷ []) (Fault 1) refl refl;
  too_few = weight_counts _ 1 (alone 2 0 ∷ []) (Fault 1) refl refl;
  lowest = weight_counts _ 3 (alone 2 1 ∷ alone 5 0 ∷ []) (Fault 1) refl refl;
  at_leaf = no_sum-counts _ 0 (λ ps e. let z : ◌≡◌ {A = ℕ} 0 1 = cc in omega arith);
  past_units = no_sum-counts _ 3 (λ ps e. let z : ◌≡◌ {A = ℕ} 0 1 = cc in omega arith);
}

-- The tree of "0": its words, a place too short, and one with a word behind; a number of a tree that is not there comes before a place too short.
pub record ReadingsOfTree : Type 0 where
  pub its_words : Tells of_a 1 0 (7 ∷ 7 ∷ 7 ∷ []) (answer done (words 2)) (2 ∷ 0 ∷ 7 ∷ [])
  pub no_room : Tells of_a 1 0 [] (answer too_short (words 2)) []
  pub no_tree : Tells of_a 1 9 [] (answer no_such_tree nothing) []

pub readings_of_tree : ReadingsOfTree
unfolding flat_map both_below units_at row_of sum_row long_product alone_row pair_row product_row leaf_row unfit unfit_right unfit_product fillers holds stand_all stand factor_at alone-spelt paired-spelt long_right value_at near_spelt leaf_spelt long_spelt products_at node_at
readings_of_tree =
    let sound : Sound of_a 1 = counted-sound 1 readings.one_number refl in
    record {
      its_words = Tells.written {d = one 2 (leaf 0)} sound first (omega arith);
      no_room = Tells.short {d = one 2 (leaf 0)} sound first (omega arith);
      no_tree = Tells.none sound (omega arith);
    }
