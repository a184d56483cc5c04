-- The units of a node at a position: document 01's table, the first row that fits, in its order.
use Rattle.std.specs.Prelude.{ℕ, ◌+◌, ◌-◌, ◌*◌, ◌/◌, ◌%◌, Bool, false, List, [], ◌∷◌, ltb, leb, eqb, Option, Some, None}
use Rattle.node.specs.Choice.{pick, both, either, both_below}
use Rattle.node.specs.declared.Node.{Node}
use Rattle.node.specs.declared.Node.TheVariants.{Sum, Product, NullingLeaf, Evaluated}

-- The low and the high half of a value.
abbrev pub low : ℕ → ℕ
low x = x % 65536

abbrev pub high : ℕ → ℕ
high x = x / 65536

-- What stands for no right factor in the longest Product.
abbrev pub all_ones : ℕ
all_ones = 0xFFFFFFFF

-- Counts from here on, and actions from here on, are unfit.
abbrev pub count_limit : ℕ
count_limit = 0x10000000

abbrev pub action_limit : ℕ
action_limit = 0x20000000

-- A factor lies strictly before its node: one at p or behind it is unfit for a node at p.
abbrev pub unfit_factor : ℕ → ℕ → Bool
unfit_factor p factor = leb p factor

-- Distance is p − factor, at least 1 of a fit factor.
abbrev pub distance : ℕ → ℕ → ℕ
distance p factor = p - factor

-- A present right factor is unfit as any factor is, and 0xFFFFFFFF at every position.
unfoldable pub unfit_right : ℕ → Option ℕ → Bool
unfit_right p (Some factor) = either (unfit_factor p factor) (eqb factor all_ones)
unfit_right p None = false

-- Action ≥ 2^29, or an unfit factor.
unfoldable pub unfit_product : ℕ → ℕ → ℕ → Option ℕ → Bool
unfit_product p action left right = either (leb action_limit action) (either (unfit_factor p left) (unfit_right p right))

-- Unfit at p: count ≥ 2^28, or an unfit Product.
unfoldable pub unfit : ℕ → Node → Bool
unfit p (Sum count nonterminal) = leb count_limit count
unfit p (Product action left right) = unfit_product p action left right
unfit p (NullingLeaf symbol) = false
unfit p (Evaluated symbol) = false

-- Sum, count < 32, nonterminal < 256; other Sum.
unfoldable pub sum_row : ℕ → ℕ → List ℕ
sum_row count nonterminal =
    pick (both_below count 32 nonterminal 256) ((count * 256 + nonterminal) ∷ [])
    ((0xE000 + high count) ∷ low count ∷ low nonterminal ∷ high nonterminal ∷ [])

-- Other Product: its right factor as it stands, all ones for none.
unfoldable pub long_product : ℕ → ℕ → ℕ → List ℕ
long_product action left right = (0xC000 + high action) ∷ low action ∷ low left ∷ high left ∷ low right ∷ high right ∷ []

-- Product, no right: left distance < 32, action < 256; the same, < 8192 and < 65536; other Product.
unfoldable pub alone_row : ℕ → ℕ → ℕ → List ℕ
alone_row p action left =
    pick (both_below (distance p left) 32 action 256) ((0x2000 + distance p left * 256 + action) ∷ [])
    (pick (both_below (distance p left) 8192 action 65536) ((0x4000 + distance p left) ∷ action ∷ [])
    (long_product action left all_ones))

-- Product, right distance < 32, left < 256, action < 65536; other Product.
unfoldable pub pair_row : ℕ → ℕ → ℕ → ℕ → List ℕ
pair_row p action left right =
    pick (both (ltb action 65536) (both_below (distance p right) 32 (distance p left) 256))
    ((0x6000 + distance p right * 256 + distance p left) ∷ action ∷ [])
    (long_product action left right)

unfoldable pub product_row : ℕ → ℕ → ℕ → Option ℕ → List ℕ
product_row p action left None = alone_row p action left
product_row p action left (Some right) = pair_row p action left right

-- A leaf, symbol < 4096; other leaf. The two leaves differ in their heads.
unfoldable pub leaf_row : ℕ → ℕ → ℕ → List ℕ
leaf_row short wide symbol =
    pick (ltb symbol 4096) ((short + symbol) ∷ []) (wide ∷ 0 ∷ low symbol ∷ high symbol ∷ [])

-- The first fitting row.
unfoldable pub row_of : ℕ → Node → List ℕ
row_of p (Sum count nonterminal) = sum_row count nonterminal
row_of p (Product action left right) = product_row p action left right
row_of p (Evaluated symbol) = leaf_row 0x8000 0xA000 symbol
row_of p (NullingLeaf symbol) = leaf_row 0x9000 0xA001 symbol

-- The units of a node at p, one behind another: none of an unfit node.
unfoldable pub units_at : ℕ → Node → List ℕ
units_at p node = pick (unfit p node) [] (row_of p node)
