-- Units that read to their end and units that do not; positions that are met as heads and positions that are not.
use mathlib.Core.Path.{◌≡◌, refl}
use mathlib.Core.Logic.{inl, inr}
use mathlib.Core.List.{List, [], ◌∷◌}
use Prim.Native.Nat.{ℕ}
use native.Mathlib.Omega.{arith}
use Rattle.node.specs.Choice.{both_below}
use Rattle.node.specs.Rows.{units_at, row_of, sum_row, alone_row, product_row, leaf_row, unfit, unfit_product, unfit_right}
use Rattle.node.specs.Answers.{answer, refused, done, no_node, node, end, nothing}
use Rattle.node.specs.Reading.{fillers, holds, stand_all, stand, factor_at, alone, near_spelt, leaf_spelt, take_node, read_here, read_units, read_at}
use Rattle.node.specs.Reading.{head_stands, head_right, not_zero, faults, lowest}
use Rattle.node.specs.declared.Node.TheVariants.{Sum, Product, Evaluated}
use Rattle.std.specs.Prelude.{None}
use Rattle.parse.specs.Heads.{ToEnd, ends, on, Meets, here}
use Rattle.parse.proofs.Marking.{end-behind, meets_behind, none_met}

-- An Evaluated, and a Product of two units that is cut off behind its head.
abbrev cut_off : List ℕ
cut_off = 0x8000 ∷ 0x4001 ∷ []

-- The same with the Product's second unit, which looks like a filler.
abbrev whole : List ℕ
whole = 0x8000 ∷ 0x4001 ∷ 0xFFFF ∷ []

-- A filler, and an Evaluated behind it.
abbrev filler_first : List ℕ
filler_first = 0xFFFF ∷ 0x8000 ∷ []

-- A Product whose second unit looks like the head of a Sum.
abbrev sum_inside : List ℕ
sum_inside = 0x8000 ∷ 0x4001 ∷ 0x0103 ∷ []

-- An Evaluated, a Sum and its Product, and a filler behind them.
abbrev filler_last : List ℕ
filler_last = 0x8000 ∷ 0x0102 ∷ 0x2202 ∷ 0xFFFF ∷ []

-- What is read of them.
record Computed : Type 0 where
  cut-first : read_at cut_off 0 ≡ answer done (node (Evaluated 0) 1)
  cut-second : read_at cut_off 1 ≡ refused no_node 1 nothing
  whole-first : read_at whole 0 ≡ answer done (node (Evaluated 0) 1)
  whole-second : read_at whole 1 ≡ answer done (node (Product 0xFFFF 0 None) 3)
  whole-end : read_at whole 3 ≡ answer done end
  behind-filler : read_at filler_first 0 ≡ answer done (node (Evaluated 0) 2)
  behind-end : read_at filler_first 2 ≡ answer done end
  inside-first : read_at sum_inside 0 ≡ answer done (node (Evaluated 0) 1)
  inside-second : read_at sum_inside 1 ≡ answer done (node (Product 0x0103 0 None) 3)
  inside-end : read_at sum_inside 3 ≡ answer done end
  last-first : read_at filler_last 0 ≡ answer done (node (Evaluated 0) 1)
  last_sum : read_at filler_last 1 ≡ answer done (node (Sum 1 2) 2)
  last-product : read_at filler_last 2 ≡ answer done (node (Product 2 0 None) 3)
  last_end : read_at filler_last 3 ≡ answer done end

computed : Computed
unfolding read_units read_here take_node fillers near_spelt leaf_spelt alone factor_at stand stand_all holds units_at row_of sum_row leaf_row product_row alone_row unfit unfit_product unfit_right both_below head_stands head_right not_zero faults lowest
computed = record {
  cut-first = refl;
  cut-second = refl;
  whole-first = refl;
  whole-second = refl;
  whole-end = refl;
  behind-filler = refl;
  behind-end = refl;
  inside-first = refl;
  inside-second = refl;
  inside-end = refl;
  last-first = refl;
  last_sum = refl;
  last-product = refl;
  last_end = refl;
}

-- Where the end is told nothing is met.
none_left : {units : List ℕ} {h p : ℕ} → read_at units p ≡ answer done end → Meets units h p → ⊥
none_left e = none_met (λ n b f. let z : ◌≡◌ {A = ℕ} 0 1 = cc in omega arith)

-- A node that is cut off is no end, and with its last unit it is one.
pub cut_off_fails : ToEnd cut_off 0 → ⊥
cut_off_fails first = at (end-behind computed.cut-first first)
  where
    at : ToEnd cut_off 1 → ⊥
    at (ends e) = let z : ◌≡◌ {A = ℕ} 0 1 = cc computed.cut-second in omega arith
    at (on e rest) = let z : ◌≡◌ {A = ℕ} 0 1 = cc computed.cut-second in omega arith

pub whole-ends : ToEnd whole 0
whole-ends = on computed.whole-first (on computed.whole-second (ends computed.whole-end))

-- A filler is no head, though reading there finds a node; the head is behind it.
pub filler_no_head : Meets filler_first 0 0 → ⊥
unfolding fillers
filler_no_head m = elim (meets_behind computed.behind-filler m) [ inl is ↦ omega (arith, is) | inr rest ↦ none_left computed.behind-end rest ]

pub behind-filler-head : Meets filler_first 1 0
unfolding fillers
behind-filler-head = here computed.behind-filler refl

-- A unit inside a node is no head, though it could be read as one.
pub inside_no_head : Meets sum_inside 2 0 → ⊥
unfolding fillers
inside_no_head m = elim (meets_behind computed.inside-first m) [
  | inl is ↦ omega (arith, is)
  | inr n ↦ elim (meets_behind computed.inside-second n) [ inl is ↦ omega (arith, is) | inr rest ↦ none_left computed.inside-end rest ]
]

-- Fillers behind the last node are no fault.
pub filler-last-ends : ToEnd filler_last 0
filler-last-ends = on computed.last-first (on computed.last_sum (on computed.last-product (ends computed.last_end)))
