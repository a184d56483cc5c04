-- The units that are due: the first row that fits, row by row.
use Rattle.std.proofs.Common.{ℕ, ◌+◌, ◌*◌, ◌<◌, ◌≡◌, refl, false, [], ◌∷◌, arith, ltb, lt-ltb, ne_eqb, Some, None}
use borrow.Author.Tests.{lt-leb}
use Rattle.node.specs.Choice.{both, both_below}
use Rattle.node.specs.Rows.{units_at, row_of, sum_row, alone_row, pair_row, product_row, long_product, leaf_row}
use Rattle.node.specs.Rows.{unfit, unfit_right, unfit_product, distance, low, high, all_ones, count_limit, action_limit}
use Rattle.node.specs.declared.Node.TheVariants.{Sum, Product, NullingLeaf, Evaluated}
use Rattle.node.proofs.Fit.{product-fit, right-fit}

pub due-sum : (p c n : ℕ) → c < 32 → n < 256 → units_at p (Sum c n) ≡ (c * 256 + n) ∷ []
unfolding units_at unfit row_of sum_row both_below
due-sum p c n hc hn = simp (lt-leb count_limit c (omega arith), lt-ltb c 32 hc, lt-ltb n 256 hn)

fit-alone : (p a l : ℕ) → l < p → a < 65536 → unfit_product p a l None ≡ false
unfolding unfit_right
fit-alone p a l before ha = product-fit (record { action_small = omega arith; left-before = before; right-fit = refl })

pub due-short :
    (p a l : ℕ) → l < p → distance p l < 32 → a < 256 → units_at p (Product a l None) ≡ (0x2000 + distance p l * 256 + a) ∷ []
unfolding units_at unfit row_of product_row alone_row both_below
due-short p a l before hl ha = simp (fit-alone p a l before (omega arith), lt-ltb (distance p l) 32 hl, lt-ltb a 256 ha)

pub due-middle :
    (p a l : ℕ) → l < p → both_below (distance p l) 32 a 256 ≡ false → distance p l < 8192 → a < 65536
    → units_at p (Product a l None) ≡ (0x4000 + distance p l) ∷ a ∷ []
unfolding units_at unfit row_of product_row alone_row
due-middle p a l before no_short hl ha =
    rw (fit-alone p a l before ha, no_short) (unfold both_below in simp (lt-ltb (distance p l) 8192 hl, lt-ltb a 65536 ha))

pub due-pair :
    (p a l r : ℕ) → l < p → r < p → distance p r < 32 → distance p l < 256 → a < 65536 → (r ≡ all_ones → ⊥)
    → units_at p (Product a l (Some r)) ≡ (0x6000 + distance p r * 256 + distance p l) ∷ a ∷ []
unfolding units_at unfit row_of product_row pair_row both_below
due-pair p a l r left-before right-before hr hl ha present =
    let fit : unfit_product p a l (Some r) ≡ false =
    product-fit (record {
      action_small = omega arith;
      left-before = left-before;
      right-fit = right-fit right-before (ne_eqb r all_ones present);
    }) in
    simp (
      fit,
      lt-ltb a 65536 ha,
      lt-ltb (distance p r) 32 hr,
      lt-ltb (distance p l) 256 hl,
    )

pub due-evaluated : (p n : ℕ) → n < 4096 → units_at p (Evaluated n) ≡ (0x8000 + n) ∷ []
unfolding units_at unfit row_of leaf_row
due-evaluated p n h = simp (lt-ltb n 4096 h)

pub due_nulling : (p n : ℕ) → n < 4096 → units_at p (NullingLeaf n) ≡ (0x9000 + n) ∷ []
unfolding units_at unfit row_of leaf_row
due_nulling p n h = simp (lt-ltb n 4096 h)

-- The longest rows, where no shorter one fits.
pub due-long-sum :
    (p c n : ℕ) → c < count_limit → both_below c 32 n 256 ≡ false
    → units_at p (Sum c n) ≡ (0xE000 + high c) ∷ low c ∷ low n ∷ high n ∷ []
unfolding units_at unfit row_of sum_row
due-long-sum p c n h no_short = simp (lt-leb count_limit c h, no_short)

pub due-long-alone :
    (p a l : ℕ) → l < p → a < action_limit → both_below (distance p l) 32 a 256 ≡ false
    → both_below (distance p l) 8192 a 65536 ≡ false
    → units_at p (Product a l None) ≡ (long_product a l all_ones)
unfolding units_at unfit unfit_right row_of product_row alone_row
due-long-alone p a l before h no_short no_middle =
    let fit : unfit_product p a l None ≡ false =
    product-fit (record { action_small = h; left-before = before; right-fit = refl }) in
    simp (fit, no_short, no_middle)

pub due-long-pair :
    (p a l r : ℕ) → l < p → a < action_limit → unfit_right p (Some r) ≡ false
    → both (ltb a 65536) (both_below (distance p r) 32 (distance p l) 256) ≡ false
    → units_at p (Product a l (Some r)) ≡ (long_product a l r)
unfolding units_at unfit row_of product_row pair_row
due-long-pair p a l r before h fit-right no_short =
    let fit : unfit_product p a l (Some r) ≡ false =
    product-fit (record { action_small = h; left-before = before; right-fit = fit-right }) in
    simp (fit, no_short)
