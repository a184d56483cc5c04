-- What tree answers, from the weight at the handle and from the walks.
use Rattle.trees.specs.declared.table.Table.{Table}
use Rattle.std.proofs.Common.{◌≡◌, sym, ap, subst, ◌∙◌, List, ◌++◌, ℕ, ◌+◌, ◌≤◌, ◌<◌, min, arith, length, drop, take, take-append-drop, Some}
use native.Mathlib.Decide.{dec_lt}
use lib.Seq.{sets-eq}
use borrow.Author.Tests.{lt-leb}
use Rattle.node.specs.Choice.{pick}
use Rattle.node.specs.Answers.{done, no_node}
use Rattle.node.specs.Writing.{usable_units}
use Rattle.laws.specs.Fills.{too_short}
use Rattle.forest.specs.Trees.{preorder}
use Rattle.forest.specs.Stores.{trees_at}
use Rattle.trees.specs.Faults.{Sound}
use Rattle.trees.specs.Answers.{answer, words, position, nothing, no_such_tree, tree_limit, all_ones, needed, Tells}
use Rattle.trees.specs.inner.Heads.{SumAt}
use Rattle.trees.specs.inner.Weights.{entry_at}
use Rattle.trees.specs.inner.Tables.{Filled}
use Rattle.trees.specs.inner.Walks.{Walkable, Walks, Walked}
use Rattle.trees.specs.declared.Weight.{Weight}
use Rattle.trees.specs.declared.Weight.TheVariants.{Fault, Number, Many}
use Rattle.trees.proofs.Means.{Means}
use Rattle.trees.proofs.Weighing.{FaultBelow}
use Rattle.trees.proofs.Counting.{weight_means, all_sound, lowest-fault}
use Rattle.trees.proofs.Agree.{at_one}
use Rattle.trees.proofs.Laying.{sets_past}

-- The Sum at the handle weighs so much.
module _ {store : List ℕ} {h : ℕ} (here : SumAt store h) {w : Weight} (told : entry_at store h ≡ Some w) where
  means : {v : Weight} → w ≡ v → Means (FaultBelow store h) (length (trees_at store h)) v
  means is = subst (Means (FaultBelow store h) (length (trees_at store h))) is (weight_means store h here.products w here.is told)

  pub tells-fault : {k u : ℕ} {place : List ℕ} → w ≡ Fault u → Tells store h k place (answer no_node (position u)) place
  tells-fault {k} {u} {place} is = on (means is)
    where
      on : Means (FaultBelow store h) (length (trees_at store h)) (Fault u) → Tells store h k place (answer no_node (position u)) place
      on (Means.faulty f low) = Tells.fault (lowest-fault f low)

  pub tells_none : {k n : ℕ} {place : List ℕ} → w ≡ Number n → n ≤ k → Tells store h k place (answer no_such_tree nothing) place
  tells_none {k} {n} {place} is past = on (means is)
    where
      on : Means (FaultBelow store h) (length (trees_at store h)) (Number n) → Tells store h k place (answer no_such_tree nothing) place
      on (Means.number none same small) = Tells.none (all_sound none) (omega arith)

  module _ {table : Table} {k : ℕ} (filled : Filled store h table) where
    walks : Sound store h → k < length (trees_at store h) → Sound store h × Walks store table h k
    walks sound less = (sound, record { inside = here.inside; walkable = Walkable.sums here.is sound; number = less; filled = filled })

    pub number_walks : {n : ℕ} → w ≡ Number n → k < n → Sound store h × Walks store table h k
    number_walks {n} is less = on (means is)
      where
        on : Means (FaultBelow store h) (length (trees_at store h)) (Number n) → Sound store h × Walks store table h k
        on (Means.number none same small) = walks (all_sound none) (omega arith)

    pub many_walks : w ≡ Many → k < tree_limit → Sound store h × Walks store table h k
    many_walks is less = on (means is)
      where
        on : Means (FaultBelow store h) (length (trees_at store h)) Many → Sound store h × Walks store table h k
        on (Means.over none big) = walks (all_sound none) (omega arith)

-- What is counted as far as a limit past the usable units is told as what there is.
pub needed-same : (m limit n : ℕ) → usable_units < limit → n ≡ min m limit → needed n ≡ needed m
needed-same m limit n far is = elim (dec_lt limit m) [
  | yes over ↦
      (let most : usable_units < n = omega arith in
      let more : usable_units < m = omega arith in
      ap (λ t. pick t n all_ones) (lt-leb n usable_units most) ∙ sym (ap (λ t. pick t m all_ones) (lt-leb m usable_units more)))
  | no not ↦ (let same : n ≡ m = omega arith in ap needed same)
]

-- Over no place nothing is written.
pub nothing_written : (place : List ℕ) {store left : List ℕ} {h k limit n : ℕ} → Walked store h k (take 0 place) 0 limit n left → left ++ drop 0 place ≡ place
nothing_written place walked =
    ap (λ l. l ++ drop 0 place) (walked.laid.left_is ∙ sets_past (take 0 place) 0 (preorder walked.tree) (omega arith)) ∙ take-append-drop 0 place

-- The words are counted over no place; where they do not fit, nothing is written.
module _ {store none left : List ℕ} {h k limit counted : ℕ} (sound : Sound store h) (measured : Walked store h k none 0 limit counted left)
    {place : List ℕ} (past : length place < limit) where
  pub tells-short : {n : ℕ} {end : List ℕ} → usable_units < limit → length place < counted → n ≡ needed counted → end ≡ place
      → Tells store h k place (answer too_short (words n)) end
  tells-short {n} far short is as_it_was =
      let length-of : counted ≡ min (length (preorder measured.tree)) limit = omega (arith, measured.laid.next_is) in
      subst (Tells store h k place (answer too_short (words n))) (sym as_it_was)
      (subst (λ m. Tells store h k place (answer too_short (words m)) place)
      (sym (is ∙ needed-same (length (preorder measured.tree)) limit counted far length-of))
      (Tells.short sound measured.chosen (omega arith)))

  pub tells-written : {written : ℕ} {still end : List ℕ} → counted ≤ length place → still ≡ place → Walked store h k still 0 limit written end
      → Tells store h k place (answer done (words written)) end
  tells-written {written} {still} {end} fits as_it_was again =
      let walked : Walked store h k place 0 limit written end = subst (λ l. Walked store h k l 0 limit written end) as_it_was again in
      let same : length (preorder measured.tree) ≡ length (preorder walked.tree) = ap (λ d. length (preorder d)) (at_one measured.chosen walked.chosen) in
      let room : length (preorder walked.tree) ≤ length place = omega (arith, measured.laid.next_is) in
      let number : length (preorder walked.tree) ≡ written = omega (arith, walked.laid.next_is) in
      let first : 0 + length (preorder walked.tree) ≡ length (preorder walked.tree) = omega arith in
      let left_is : preorder walked.tree ++ drop (length (preorder walked.tree)) place ≡ end =
      sym (walked.laid.left_is ∙ sets-eq (preorder walked.tree) place 0 (omega arith) ∙ ap (λ n. preorder walked.tree ++ drop n place) first) in
      subst (λ m. Tells store h k place (answer done (words m)) end) number
      (subst (Tells store h k place (answer done (words (length (preorder walked.tree))))) left_is (Tells.written sound walked.chosen room))
