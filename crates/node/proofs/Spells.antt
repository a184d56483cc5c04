-- The reader's table undoes the writer's: the units of a node, where they stand, spell that node.
use Rattle.std.proofs.Common.{ℕ, ◌+◌, ◌-◌, ◌*◌, ◌/◌, ◌%◌, ◌<◌, ◌≡◌, refl, sym, ap, ◌∙◌, Bool, true, false, List, [], ◌∷◌, arith, get_or, ltb, eqb, lt-ltb, le-ltb, le-leb, ltb-true, Option, Some, None}
use Rattle.node.specs.Choice.{pick, both, both_below}
use Rattle.node.specs.Rows.{distance, units_at, row_of, sum_row, long_product, alone_row, pair_row, product_row}
use Rattle.node.specs.Rows.{leaf_row, unfit, low, high, all_ones, count_limit, action_limit}
use Rattle.node.specs.Reading.{factor_at, alone, paired, long_right, value_at, near_spelt, leaf_spelt, long_spelt, spelt_by, spelt}
use Rattle.node.specs.Reading.{stand}
use Rattle.node.specs.declared.Node.{Node}
use Rattle.node.specs.declared.Node.TheVariants.{Sum, Product, NullingLeaf, Evaluated}
use Rattle.node.proofs.Choices.{BothBelow, below, Both, both_true}
use Rattle.node.proofs.Fit.{fit-sum, FitProduct, fit-product, FitRight, fit-right}
use Rattle.node.proofs.Stands as S

-- The distance of a factor before q leads back to it.
pub factor_back : (q f : ℕ) → f < q → factor_at q (distance q f) ≡ Some f
unfolding factor_at
factor_back q f h =
    let back : q - (q - f) ≡ f = omega arith in
    simp (le-leb (q - f) q (omega arith), back)

module _ (s : List ℕ) (q x : ℕ) where
  -- One row each.
  short-sum : (c n : ℕ) → c < 32 → n < 256 → x ≡ c * 256 + n → spelt_by s q x ≡ Some (Sum c n)
  unfolding near_spelt
  short-sum c n hc hn e =
      let d : x / 256 ≡ c = omega arith in
      let m : x % 256 ≡ n = omega arith in
      simp (lt-ltb x 0x8000 (omega arith), lt-ltb x 0x2000 (omega arith), d, m)

  short-alone :
      (d a f : ℕ) → d < 32 → a < 256 → x ≡ 0x2000 + d * 256 + a → factor_at q d ≡ Some f → spelt_by s q x ≡ Some (Product a f None)
  unfolding near_spelt alone
  short-alone d a f hd ha e back =
      let k : (x - 0x2000) / 256 ≡ d = omega arith in
      let m : x % 256 ≡ a = omega arith in
      simp (lt-ltb x 0x8000 (omega arith), le-ltb x 0x2000 (omega arith), lt-ltb x 0x4000 (omega arith), k, m, back)

  pub middle-alone :
      (d a f : ℕ) → d < 8192 → x ≡ 0x4000 + d → get_or s (q + 1) 0 ≡ a → factor_at q d ≡ Some f
      → spelt_by s q x ≡ Some (Product a f None)
  unfolding near_spelt alone
  middle-alone d a f hd e action back =
      let k : x - 0x4000 ≡ d = omega arith in
      simp (
        lt-ltb x 0x8000 (omega arith),
        le-ltb x 0x2000 (omega arith),
        le-ltb x 0x4000 (omega arith),
        lt-ltb x 0x6000 (omega arith),
        k,
        action,
        back,
      )

  pub short-pair :
      (r l a f g : ℕ) → r < 32 → l < 256 → x ≡ 0x6000 + r * 256 + l → get_or s (q + 1) 0 ≡ a → factor_at q l ≡ Some f
      → factor_at q r ≡ Some g
      → spelt_by s q x ≡ Some (Product a f (Some g))
  unfolding near_spelt paired
  short-pair r l a f g hr hl e action left right =
      let k : (x - 0x6000) / 256 ≡ r = omega arith in
      let m : x % 256 ≡ l = omega arith in
      simp (
        lt-ltb x 0x8000 (omega arith),
        le-ltb x 0x2000 (omega arith),
        le-ltb x 0x4000 (omega arith),
        le-ltb x 0x6000 (omega arith),
        k,
        m,
        action,
        left,
        right,
      )

  short-evaluated : (n : ℕ) → n < 4096 → x ≡ 0x8000 + n → spelt_by s q x ≡ Some (Evaluated n)
  unfolding leaf_spelt
  short-evaluated n h e =
      let k : x - 0x8000 ≡ n = omega arith in
      simp (le-ltb x 0x8000 (omega arith), lt-ltb x 0xC000 (omega arith), lt-ltb x 0x9000 (omega arith), k)

  short_nulling : (n : ℕ) → n < 4096 → x ≡ 0x9000 + n → spelt_by s q x ≡ Some (NullingLeaf n)
  unfolding leaf_spelt
  short_nulling n h e =
      let k : x - 0x9000 ≡ n = omega arith in
      simp (
        le-ltb x 0x8000 (omega arith),
        lt-ltb x 0xC000 (omega arith),
        le-ltb x 0x9000 (omega arith),
        lt-ltb x 0xA000 (omega arith),
        k,
      )

  pub wide_evaluated : (n : ℕ) → x ≡ 0xA000 → value_at s (q + 2) ≡ n → spelt_by s q x ≡ Some (Evaluated n)
  unfolding leaf_spelt
  wide_evaluated n e v = rw (e, v)

  pub wide_nulling : (n : ℕ) → x ≡ 0xA001 → value_at s (q + 2) ≡ n → spelt_by s q x ≡ Some (NullingLeaf n)
  unfolding leaf_spelt
  wide_nulling n e v = rw (e, v)

  long_product_lem :
      (a f : ℕ) (r : Option ℕ) → a < 0x20000000 → x ≡ 0xC000 + high a → get_or s (q + 1) 0 ≡ low a → value_at s (q + 2) ≡ f
      → long_right (value_at s (q + 4)) ≡ r → spelt_by s q x ≡ Some (Product a f r)
  unfolding long_spelt
  long_product_lem a f r h e action left right =
      let k : (x - 0xC000) * 65536 + get_or s (q + 1) 0 ≡ a = omega arith in
      simp (le-ltb x 0x8000 (omega arith), le-ltb x 0xC000 (omega arith), lt-ltb x 0xE000 (omega arith), k, left, right)

  pub long-sum :
      (c n : ℕ) → c < 0x10000000 → x ≡ 0xE000 + high c → get_or s (q + 1) 0 ≡ low c → value_at s (q + 2) ≡ n
      → spelt_by s q x ≡ Some (Sum c n)
  unfolding long_spelt
  long-sum c n h e count symbol =
      let k : (x - 0xE000) * 65536 + get_or s (q + 1) 0 ≡ c = omega arith in
      simp (le-ltb x 0x8000 (omega arith), le-ltb x 0xC000 (omega arith), le-ltb x 0xE000 (omega arith), k, symbol)

-- The two halves of a value make it up.
pub halves : (x : ℕ) → high x * 65536 + low x ≡ x
halves x = omega arith

-- A right factor that is not all ones is present in the longest Product; all ones are none.
pub long_present : (r : ℕ) → eqb r all_ones ≡ false → long_right (high r * 65536 + low r) ≡ Some r
unfolding long_right
long_present r present = ap long_right (halves r) ∙ rw present

pub long_none : long_right (high all_ones * 65536 + low all_ones) ≡ None
unfolding long_right
long_none = refl

module _ (s : List ℕ) (q : ℕ) where
  sum-spells : (c n : ℕ) → c < count_limit → stand s q (sum_row c n) ≡ true → spelt s q ≡ Some (Sum c n)
  unfolding sum_row stand
  sum-spells c n h st = on (both_below c 32 n 256) refl st
    where
      on : (t : Bool) → both_below c 32 n 256 ≡ t
          → stand s q (pick t ((c * 256 + n) ∷ []) ((0xE000 + high c) ∷ low c ∷ low n ∷ high n ∷ [])) ≡ true
          → spelt s q ≡ Some (Sum c n)
      on true e st =
          let b : BothBelow c 32 n 256 = below (sym e) refl in
          short-sum s q _ c n b.first b.second (S.first-stands s q _ _ st).first.there
      on false e st =
          let f : S.Four s q (0xE000 + high c) (low c) (high n * 65536 + low n) = S.four_stand s q _ _ _ _ _ st in
          long-sum s q _ c n h f.head f.second (f.value ∙ halves n)

  pub product-spells :
      (a l v : ℕ) (r : Option ℕ) → a < action_limit → long_right (high v * 65536 + low v) ≡ r
      → stand s q (long_product a l v) ≡ true
      → spelt s q ≡ Some (Product a l r)
  unfolding long_product stand
  product-spells a l v r h right st =
      let f : S.Four s q (0xC000 + high a) (low a) (high l * 65536 + low l) = S.four_stand s q _ _ _ _ _ st in
      long_product_lem s q _ a l r h f.head f.second (f.value ∙ halves l) (ap long_right (S.six_stand s q _ _ _ _ _ _ st)
      ∙ right)

  alone-spells : (a l : ℕ) → a < action_limit → l < q → stand s q (alone_row q a l) ≡ true → spelt s q ≡ Some (Product a l None)
  unfolding alone_row stand
  alone-spells a l h before st = short (both_below (distance q l) 32 a 256) refl st
    where
      middle : (t : Bool) → both_below (distance q l) 8192 a 65536 ≡ t
          → stand s q (pick t ((0x4000 + distance q l) ∷ a ∷ []) (long_product a l all_ones)) ≡ true
          → spelt s q ≡ Some (Product a l None)
      middle true e st =
          let b : BothBelow (distance q l) 8192 a 65536 = below (sym e) refl in
          let f : S.First s q (0x4000 + distance q l) (a ∷ []) = S.first-stands s q _ _ st in
          middle-alone s q _ (distance q l) a l b.first f.first.there (S.first-stands s (q + 1) _ _ f.others).first.there
          (factor_back q l before)
      middle false e st = product-spells a l all_ones None h long_none st

      short : (t : Bool) → both_below (distance q l) 32 a 256 ≡ t
          → stand s q (pick t ((0x2000 + distance q l * 256 + a) ∷ [])
          (pick (both_below (distance q l) 8192 a 65536) ((0x4000 + distance q l) ∷ a ∷ []) (long_product a l all_ones))) ≡ true
          → spelt s q ≡ Some (Product a l None)
      short true e st =
          let b : BothBelow (distance q l) 32 a 256 = below (sym e) refl in
          short-alone s q _ (distance q l) a l b.first b.second (S.first-stands s q _ _ st).first.there
          (factor_back q l before)
      short false e st = middle (both_below (distance q l) 8192 a 65536) refl st

  pair-spells :
      (a l r : ℕ) → a < action_limit → l < q → FitRight q r → stand s q (pair_row q a l r) ≡ true
      → spelt s q ≡ Some (Product a l (Some r))
  unfolding pair_row stand
  pair-spells a l r h before right st = on (both (ltb a 65536) (both_below (distance q r) 32 (distance q l) 256)) refl st
    where
      on : (t : Bool) → both (ltb a 65536) (both_below (distance q r) 32 (distance q l) 256) ≡ t
          → stand s q (pick t ((0x6000 + distance q r * 256 + distance q l) ∷ a ∷ []) (long_product a l r)) ≡ true
          → spelt s q ≡ Some (Product a l (Some r))
      on true e st =
          let two : Both (ltb a 65536) (both_below (distance q r) 32 (distance q l) 256) = both_true _ _ e in
          let b : BothBelow (distance q r) 32 (distance q l) 256 = below (sym two.second) refl in
          let f : S.First s q (0x6000 + distance q r * 256 + distance q l) (a ∷ []) = S.first-stands s q _ _ st in
          short-pair s q _ (distance q r) (distance q l) a l r b.first b.second f.first.there
          (S.first-stands s (q + 1) _ _ f.others).first.there
          (factor_back q l before) (factor_back q r right.before)
      on false e st =
          product-spells a l r (Some r) h (long_present r right.present) st

  leaf-spells :
      (leaf : ℕ → Node) (short wide n : ℕ)
      → (n < 4096 → get_or s q 0 ≡ short + n → spelt s q ≡ Some (leaf n))
      → (get_or s q 0 ≡ wide → value_at s (q + 2) ≡ n → spelt s q ≡ Some (leaf n))
      → stand s q (leaf_row short wide n) ≡ true → spelt s q ≡ Some (leaf n)
  unfolding leaf_row stand
  leaf-spells leaf short wide n one four st = on (ltb n 4096) refl st
    where
      on : (t : Bool) → ltb n 4096 ≡ t → stand s q (pick t ((short + n) ∷ []) (wide ∷ 0 ∷ low n ∷ high n ∷ [])) ≡ true
          → spelt s q ≡ Some (leaf n)
      on true e st = one (ltb-true n 4096 e) (S.first-stands s q _ _ st).first.there
      on false e st =
          let f : S.Four s q wide 0 (high n * 65536 + low n) = S.four_stand s q _ _ _ _ _ st in
          four f.head (f.value ∙ halves n)

  row-spells : (n : Node) → unfit q n ≡ false → stand s q (row_of q n) ≡ true → spelt s q ≡ Some n
  unfolding row_of product_row unfit
  row-spells (Sum c n) fit st = sum-spells c n (fit-sum q {nonterminal = n} refl fit) st
  row-spells (Product a l None) fit st =
      let f : FitProduct q a l None = fit-product fit in alone-spells a l f.action_small f.left-before st
  row-spells (Product a l (Some r)) fit st =
      let f : FitProduct q a l (Some r) = fit-product fit in
      pair-spells a l r f.action_small f.left-before (fit-right f.right-fit) st
  row-spells (NullingLeaf n) fit st = leaf-spells NullingLeaf 0x9000 0xA001 n (short_nulling s q _ n) (wide_nulling s q _ n) st
  row-spells (Evaluated n) fit st = leaf-spells Evaluated 0x8000 0xA000 n (short-evaluated s q _ n) (wide_evaluated s q _ n) st

  -- The units of a node stand nowhere but where they spell that node.
  pub units_spell : (n : Node) → stand s q (units_at q n) ≡ true → spelt s q ≡ Some n
  unfolding units_at stand
  units_spell n st = on (unfit q n) refl st
    where
      on : (t : Bool) → unfit q n ≡ t → stand s q (pick t [] (row_of q n)) ≡ true → spelt s q ≡ Some n
      on true e st = cc
      on false e st = row-spells n e st
