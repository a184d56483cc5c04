-- What count answers, from the table's entry at the handle.
use Rattle.std.proofs.Common.{◌≡◌, refl, sym, subst, ap, ◌∙◌, List, ◌≢◌, ℕ, suc, ◌≤◌, arith, length, Option, Some, None, Ok, Err}
use Rattle.forest.specs.Forests.{Product, Node, sum, Under}
use Rattle.forest.specs.Stores.{node_at, trees_at}
use Rattle.trees.specs.Faults.{asked_at, Faulty, Below, LowestFault, Sound}
use Rattle.trees.specs.Answers.{Answer, counted, Counts}
use Rattle.trees.specs.inner.Weights.{weigh_node, entry_in, weights, entry_at, answer_of}
use Rattle.trees.specs.declared.Uncounted.TheVariants.{Faulty as FaultyAt}
use Rattle.trees.specs.declared.Weight.{Weight}
use Rattle.trees.proofs.Belows.{Down, below_down}
use Rattle.trees.proofs.Means.{Means}
use Rattle.trees.proofs.Weighing.{FaultBelow, Weighs, entry_weighs}

-- A handle at no Sum is the one fault below it.
pub no_sum-lowest : (store : List ℕ) (h : ℕ) → ((ps : List Product) → node_at store h ≢ sum ps) → LowestFault store h h
no_sum-lowest store h never = record { below = Below.itself; faulty = Faulty.no_sum never; lowest = λ q b f. alone (below_down b) }
  where
    is_sum : {q : ℕ} {n : Node} {A : Type 0} → Under q n → ((ps : List Product) → n ≡ sum ps → A) → A
    is_sum (Under.of_product_lem {ps = ps} m f) use-it = use-it ps refl

    alone : {q : ℕ} → Down store h q → h ≤ q
    alone Down.here = omega arith
    alone (Down.further u l i b) = absurd (is_sum u never)

pub no_sum-counts : (store : List ℕ) (h : ℕ) → ((ps : List Product) → node_at store h ≢ sum ps) → Counts store h (counted (Err (FaultyAt h)))
no_sum-counts store h never = Counts.fault (no_sum-lowest store h never)

-- At a Sum the entry tells the lowest fault below it, or the number of its trees.
pub weight_means : (store : List ℕ) (h : ℕ) (ps : List Product) (w : Weight) → node_at store h ≡ sum ps → entry_at store h ≡ Some w
    → Means (FaultBelow store h) (length (trees_at store h)) w
weight_means store h ps w is e = of_sum (entry_at store h) e (entry_weighs store (suc h) h (omega arith))
  where
    of_sum : (x : Option Weight) → x ≡ Some w → Weighs store (suc h) h x → Means (FaultBelow store h) (length (trees_at store h)) w
    of_sum x e (Weighs.nothing i) = let z : ◌≡◌ {A = ℕ} 0 1 = cc in absurd (omega arith)
    of_sum x e (Weighs.leaf i) = let z : ◌≡◌ {A = ℕ} 0 1 = cc in absurd (omega arith)
    of_sum x e (Weighs.sums {w = v} i m) = let same : v ≡ w = cc in subst (Means (FaultBelow store h) (length (trees_at store h))) same m

pub all_sound : {store : List ℕ} {h : ℕ} → ((v : ℕ) → FaultBelow store h v → ⊥) → Sound store h
all_sound none = record { sound = λ s b f. none s (record { below = b; faulty = f }) }

pub lowest-fault : {store : List ℕ} {h u : ℕ} → FaultBelow store h u → ((v : ℕ) → FaultBelow store h v → u ≤ v) → LowestFault store h u
lowest-fault f low = record { below = f.below; faulty = f.faulty; lowest = λ q b g. low q (record { below = b; faulty = g }) }

-- So it tells the answer.
pub weight_counts : (store : List ℕ) (h : ℕ) (ps : List Product) (w : Weight) → node_at store h ≡ sum ps → entry_at store h ≡ Some w
    → Counts store h (counted (answer_of w))
weight_counts store h ps w is e = answers w (weight_means store h ps w is e)
  where
    answers : (w : Weight) → Means (FaultBelow store h) (length (trees_at store h)) w → Counts store h (counted (answer_of w))
    answers w (Means.faulty f low) = Counts.fault (lowest-fault f low)
    answers w (Means.number {k = k} none same small) =
        subst (λ n. Counts store h (counted (Ok n))) same (Counts.number (all_sound none) (omega arith))
    answers w (Means.over none big) = Counts.over (all_sound none) big

-- It tells something.
pub sum_told : (store : List ℕ) (h : ℕ) (ps : List Product) → node_at store h ≡ sum ps → entry_at store h ≢ None
unfolding weigh_node
sum_told store h ps is e =
    let told : weigh_node (entry_in (weights store h)) h (asked_at store h) (sum ps) ≡ None =
    ap (weigh_node (entry_in (weights store h)) h (asked_at store h)) (sym is) ∙ e in
    let z : ◌≡◌ {A = ℕ} 0 1 = cc in omega arith

-- Where count tells a number, nothing below the handle is faulty.
pub counted-sound : {store : List ℕ} {h : ℕ} {a : Answer} (n : ℕ) → Counts store h a → a ≡ counted (Ok n) → Sound store h
counted-sound n (Counts.fault f) e = let z : ◌≡◌ {A = ℕ} 0 1 = cc in absurd (omega arith)
counted-sound n (Counts.over s big) e = s
counted-sound n (Counts.number s small) e = s
