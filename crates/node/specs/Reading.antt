-- Reading one node: fillers are skipped, then the node stands there whose units, written at that very position, are the units there.
use Rattle.std.specs.Prelude.{ℕ, suc, ◌+◌, ◌-◌, ◌*◌, ◌/◌, ◌%◌, ◌≤◌, ◌<◌, min, ◌≡◌, Bool, true, false, List, [], ◌∷◌, ◌++◌, length, get_or, drop, set, ltb, leb, eqb, Option, Some, None}
use Rattle.node.specs.Choice.{pick, both}
use Rattle.node.specs.Rows.{units_at, all_ones}
use Rattle.node.specs.Answers.{Answer, answer, refused, done, no_node, node, end, nothing}
use Rattle.node.specs.Writing.{usable}
use Rattle.node.specs.declared.Node.{Node}
use Rattle.node.specs.declared.Node.TheVariants.{Sum, Product, NullingLeaf, Evaluated}

-- The unit that reading skips.
abbrev pub filler : ℕ
filler = 0xFFFF

-- How many fillers units begin with.
unfoldable pub fillers : List ℕ → ℕ
fillers [] = 0
fillers (u ∷ us) = pick (eqb u filler) (suc (fillers us)) 0

-- The first position from p on that holds no filler.
abbrev pub head_from : List ℕ → ℕ → ℕ
head_from s p = p + fillers (drop p s)

-- Position i holds the unit u.
unfoldable pub holds : List ℕ → ℕ → ℕ → Bool
holds s i u = both (ltb i (length s)) (eqb (get_or s i 0) u)

-- The units stand one behind another from q on.
unfoldable pub stand_all : List ℕ → ℕ → List ℕ → Bool
stand_all s q [] = true
stand_all s q (u ∷ us) = both (holds s q u) (stand_all s (q + 1) us)

-- The units of a node stand from q on. An unfit node has none, and stands nowhere.
unfoldable pub stand : List ℕ → ℕ → List ℕ → Bool
stand s q [] = false
stand s q (u ∷ us) = stand_all s q (u ∷ us)

-- The factor that a distance leads back to: none where the distance is above the position.
unfoldable pub factor_at : ℕ → ℕ → Option ℕ
factor_at q distance = pick (leb distance q) (Some (q - distance)) None

-- What a Product without a right factor is spelt by, and one with a right factor.
unfoldable pub alone : ℕ → Option ℕ → Option Node
alone action (Some left) = Some (Product action left None)
alone action None = None

unfoldable pub paired : ℕ → Option ℕ → Option ℕ → Option Node
paired action (Some left) (Some right) = Some (Product action left (Some right))
paired action (Some left) None = None
paired action None right = None

-- All ones: no right factor.
unfoldable pub long_right : ℕ → Option ℕ
long_right right = pick (eqb right all_ones) None (Some right)

-- A value of two units, the low half first.
unfoldable pub value_at : List ℕ → ℕ → ℕ
value_at s i = get_or s (i + 1) 0 * 65536 + get_or s i 0

-- The table of rows from right to left: the one node whose units could stand at q, by the range of the head unit. (`Exactly`, below, says what
-- is read without this table.) Below 0x8000 stand the short Sum and the Products with distances.
unfoldable pub near_spelt : List ℕ → ℕ → ℕ → Option Node
near_spelt s q head =
    pick (ltb head 0x2000) (Some (Sum (head / 256) (head % 256)))
    (pick (ltb head 0x4000) (alone (head % 256) (factor_at q ((head - 0x2000) / 256)))
    (pick (ltb head 0x6000) (alone (get_or s (q + 1) 0) (factor_at q (head - 0x4000)))
    (paired (get_or s (q + 1) 0) (factor_at q (head % 256)) (factor_at q ((head - 0x6000) / 256)))))

-- From 0x8000 on, the leaves; between 0xA002 and 0xBFFF no node.
unfoldable pub leaf_spelt : List ℕ → ℕ → ℕ → Option Node
leaf_spelt s q head =
    pick (ltb head 0x9000) (Some (Evaluated (head - 0x8000)))
    (pick (ltb head 0xA000) (Some (NullingLeaf (head - 0x9000)))
    (pick (eqb head 0xA000) (Some (Evaluated (value_at s (q + 2))))
    (pick (eqb head 0xA001) (Some (NullingLeaf (value_at s (q + 2)))) None)))

-- From 0xC000 on, the longest Product, and from 0xE000 on the longest Sum.
unfoldable pub long_spelt : List ℕ → ℕ → ℕ → Option Node
long_spelt s q head =
    pick (ltb head 0xE000)
    (Some (Product ((head - 0xC000) * 65536 + get_or s (q + 1) 0) (value_at s (q + 2)) (long_right (value_at s (q + 4)))))
    (Some (Sum ((head - 0xE000) * 65536 + get_or s (q + 1) 0) (value_at s (q + 2))))

abbrev pub spelt_by : List ℕ → ℕ → ℕ → Option Node
spelt_by s q head = pick (ltb head 0x8000) (near_spelt s q head) (pick (ltb head 0xC000) (leaf_spelt s q head) (long_spelt s q head))

abbrev pub spelt : List ℕ → ℕ → Option Node
spelt s q = spelt_by s q (get_or s q 0)

-- The head of a node's own units stands at q. An unfit node has no units; a node in a longer form than was due has another head.
unfoldable pub head_stands : List ℕ → ℕ → List ℕ → Bool
head_stands s q [] = false
head_stands s q (u ∷ us) = holds s q u

-- Form, distance and length are right at q: the node's own head stands there, and the store has room for all its units.
unfoldable pub head_right : List ℕ → ℕ → List ℕ → Bool
head_right s q us = both (head_stands s q us) (leb (q + length us) (length s))

-- The units from q on that are not zero where zero is due.
unfoldable pub not_zero : List ℕ → ℕ → List ℕ → List ℕ
not_zero s q [] = []
not_zero s q (u ∷ us) = pick (both (eqb u 0) (ltb 0 (get_or s q 0))) (q ∷ not_zero s (q + 1) us) (not_zero s (q + 1) us)

-- The units at which a fault is seen: the head for a wrong form, distance or length; each unit that is not zero where zero is due.
unfoldable pub faults : List ℕ → ℕ → Option Node → List ℕ
faults s q (Some n) = pick (head_right s q (units_at q n)) [] (q ∷ []) ++ not_zero s q (units_at q n)
faults s q None = q ∷ []

-- For several faults the lowest unit counts.
unfoldable pub lowest : List ℕ → ℕ
lowest [] = 0
lowest (u ∷ []) = u
lowest (u ∷ v ∷ us) = min u (lowest (v ∷ us))

-- 12 where the units that the spelt node has at q are not the units there.
unfoldable pub take_node : List ℕ → ℕ → Option Node → Answer
take_node s q (Some n) =
    pick (stand s q (units_at q n)) (answer done (node n (q + length (units_at q n))))
    (refused no_node (lowest (faults s q (Some n))) nothing)
take_node s q None = refused no_node (lowest (faults s q None)) nothing

unfoldable pub read_here : List ℕ → ℕ → Answer
read_here s q = take_node s q (spelt s q)

-- The end is reached when no unit is left, or p is at or past it.
unfoldable pub read_units : List ℕ → ℕ → Answer
read_units s p = pick (ltb (head_from s p) (length s)) (read_here s (head_from s p)) (answer done end)

abbrev pub read_at : List ℕ → ℕ → Answer
read_at store p = read_units (usable store) p

-- No node's units stand at q.
abbrev pub NoNodeAt : List ℕ → ℕ → Type 0
NoNodeAt s q = (n : Node) → stand s q (units_at q n) ≡ true → ⊥

-- The store with a zero in the unit behind q.
abbrev pub zero_behind : List ℕ → ℕ → List ℕ
zero_behind s q = set s (q + 1) 0

-- The reader takes exactly what the writer writes: behind the fillers stands a node where that node's units, written at that very
-- position, are the units there. Where no node's are, the answer is 12: with the unit behind the head where a zero there would make the
-- units a node, and with the head everywhere else. Where no unit is left, the end.
pub record Exactly (s : List ℕ) (p : ℕ) (r : Answer) : Type 0 where
  pub taken : (n : Node) → stand s (head_from s p) (units_at (head_from s p) n) ≡ true
      → r ≡ answer done (node n (head_from s p + length (units_at (head_from s p) n)))
  pub only : (n : Node) (q : ℕ) → r ≡ answer done (node n q) → stand s (head_from s p) (units_at (head_from s p) n) ≡ true
  pub fault : head_from s p < length s → NoNodeAt s (head_from s p) → NoNodeAt (zero_behind s (head_from s p)) (head_from s p)
      → r ≡ refused no_node (head_from s p) nothing
  pub mended : NoNodeAt s (head_from s p)
      → (n : Node) → stand (zero_behind s (head_from s p)) (head_from s p) (units_at (head_from s p) n) ≡ true
      → r ≡ refused no_node (head_from s p + 1) nothing
  pub ended : length s ≤ head_from s p → r ≡ answer done end
