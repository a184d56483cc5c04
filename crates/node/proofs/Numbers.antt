-- Document 01's numbers to try, as rows of one table under one statement.
use Rattle.std.proofs.Common.{◌≡◌, refl, List, [], ◌∷◌, ◌++◌, Some, None}
use Rattle.node.specs.Choice.{both_below}
use Rattle.node.specs.Rows.{units_at, row_of, sum_row, long_product, alone_row, pair_row, product_row, leaf_row, unfit, unfit_product}
use Rattle.node.specs.Rows.{unfit_right}
use Rattle.node.specs.declared.Node.TheVariants.{Sum, Product, NullingLeaf}

-- A row: what the definitions give, and what document 01 prints.
pub data Row : Type 1 where
  row : {A : Type 0} → A → A → Row

abbrev pub Agrees : Row → Type 0
Agrees (row given printed) = given ≡ printed

abbrev pub All : List Row → Type 0
All [] = Unit
All (r ∷ rows) = Agrees r × All rows

-- Tables are joined: rows of other crates stand under the same statement.
pub joined : (xs ys : List Row) → All xs → All ys → All (xs ++ ys)
joined [] ys a b = b
joined (x ∷ xs) ys a b = (a.0, joined xs ys a.1 b)

-- The node rows.
unfoldable pub node_rows : List Row
node_rows =
    -- Sum 31, 255
    row (units_at 0 (Sum 31 255)) (0x1FFF ∷ [])
    -- Sum 32, 7
    ∷ row (units_at 0 (Sum 32 7)) (0xE000 ∷ 0x0020 ∷ 0x0007 ∷ 0x0000 ∷ [])
    -- p 40, left 9, action 9; left 8
    ∷ row (units_at 40 (Product 9 9 None)) (0x3F09 ∷ [])
    ∷ row (units_at 40 (Product 9 8 None)) (0x4020 ∷ 0x0009 ∷ [])
    -- p 40, left 20, right 35, action 9
    ∷ row (units_at 40 (Product 9 20 (Some 35))) (0x6514 ∷ 0x0009 ∷ [])
    -- NullingLeaf 4096
    ∷ row (units_at 0 (NullingLeaf 4096)) (0xA001 ∷ 0x0000 ∷ 0x1000 ∷ 0x0000 ∷ [])
    ∷ []

pub numbers : All node_rows
unfolding node_rows units_at row_of sum_row long_product alone_row pair_row product_row leaf_row unfit unfit_product unfit_right both_below
numbers = (refl, (refl, (refl, (refl, (refl, (refl, tt))))))
