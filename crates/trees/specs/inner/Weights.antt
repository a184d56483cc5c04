-- The table: what each position of a store weighs, from the entries before it.
use Rattle.std.specs.Prelude.{Option, Some, None, Result, Ok, Err, List, [], ◌∷◌, ◌++◌, ℕ, zero, suc, ◌+◌, ◌*◌, length, get_or, ltb, eqb}
use Rattle.node.specs.Choice.{pick}
use Rattle.forest.specs.Forests.{Product, alone, paired, Node, token, sum, other}
use Rattle.forest.specs.Stores.{node_at}
use Rattle.trees.specs.Faults.{asked_at}
use Rattle.trees.specs.Answers.{tree_limit}
use Rattle.trees.specs.declared.Uncounted.{Uncounted}
use Rattle.trees.specs.declared.Uncounted.TheVariants.{Faulty, TooMany}
use Rattle.trees.specs.declared.Weight.{Weight}
use Rattle.trees.specs.declared.Weight.TheVariants.{Fault, Number, Many}

-- A number of trees, or that there are too many.
unfoldable pub limited : ℕ → Weight
limited n = pick (ltb n tree_limit) (Number n) Many

-- The same of a number of 64 bits, or of none where there are too many.
abbrev pub of_checked : Option ℕ → Weight
of_checked (Some n) = Number n
of_checked None = Many

-- The lower of a fault and what else is faulty.
unfoldable pub lower : ℕ → Weight → Weight
lower u (Fault v) = pick (ltb u v) (Fault u) (Fault v)
lower u (Number n) = Fault u
lower u Many = Fault u

-- Trees of the one and then of the other. A fault comes first.
unfoldable pub plus : Weight → Weight → Weight
plus (Fault u) b = lower u b
plus (Number n) (Fault v) = Fault v
plus (Number n) (Number m) = limited (n + m)
plus (Number n) Many = Many
plus Many (Fault v) = Fault v
plus Many (Number m) = Many
plus Many Many = Many

-- None with any number is none.
unfoldable pub often : ℕ → Weight
often n = pick (eqb n 0) (Number 0) Many

-- Each of the one with each of the other.
unfoldable pub times : Weight → Weight → Weight
times (Fault u) b = lower u b
times (Number n) (Fault v) = Fault v
times (Number n) (Number m) = limited (n * m)
times (Number n) Many = often n
times Many (Fault v) = Fault v
times Many (Number m) = often m
times Many Many = Many

-- What a factor weighs to the Sum at s: a fault of the Sum where it lies not before it, or where neither Sum nor Evaluated is.
unfoldable pub of_entry : ℕ → Option Weight → Weight
of_entry s None = Fault s
of_entry s (Some w) = w

unfoldable pub factor_weight : (ℕ → Option Weight) → ℕ → ℕ → Weight
factor_weight under s q = pick (ltb q s) (of_entry s (under q)) (Fault s)

unfoldable pub product_weight : (ℕ → Option Weight) → ℕ → Product → Weight
product_weight under s (alone r a) = factor_weight under s a
product_weight under s (paired r a b) = times (factor_weight under s a) (factor_weight under s b)

-- What is weighed so far, and the Products behind it.
unfoldable pub sum_from : (ℕ → Option Weight) → ℕ → Weight → List Product → Weight
sum_from under s w [] = w
sum_from under s w (p ∷ ps) = sum_from under s (plus w (product_weight under s p)) ps

-- A Sum that asks for more Products than are there is faulty.
unfoldable pub closed : ℕ → ℕ → List Product → Weight → Weight
closed s count ps w = pick (ltb (length ps) count) (plus w (Fault s)) w

abbrev pub sum_weight : (ℕ → Option Weight) → ℕ → ℕ → List Product → Weight
sum_weight under s count ps = closed s count ps (sum_from under s (Number 0) ps)

unfoldable pub weigh_node : (ℕ → Option Weight) → ℕ → ℕ → Node → Option Weight
weigh_node under s count (token t) = Some (Number 1)
weigh_node under s count (sum ps) = Some (sum_weight under s count ps)
weigh_node under s count other = None

abbrev pub entry_in : List (Option Weight) → ℕ → Option Weight
entry_in table q = get_or table q None

-- The entry at p, from those before it.
abbrev pub weigh : List ℕ → List (Option Weight) → ℕ → Option Weight
weigh store table p = weigh_node (entry_in table) p (asked_at store p) (node_at store p)

-- The entries of the first p positions.
unfoldable pub weights : List ℕ → ℕ → List (Option Weight)
weights store zero = []
weights store (suc p) = weights store p ++ (weigh store (weights store p) p ∷ [])

abbrev pub entry_at : List ℕ → ℕ → Option Weight
entry_at store p = weigh store (weights store p) p

-- What count answers of the weight of a Sum.
abbrev pub answer_of : Weight → Result ℕ Uncounted
answer_of (Fault u) = Err (Faulty u)
answer_of (Number n) = Ok n
answer_of Many = Err TooMany
