-- Units whose head is right are a node's, or a wide leaf's but for the second.
use Rattle.std.proofs.Common.{ℕ, ◌+◌, ◌-◌, ◌*◌, ◌≤◌, ◌<◌, ◌≡◌, refl, sym, ap, ◌∙◌, Bool, true, false, List, [], ◌∷◌, arith, length, get_or, ltb, eqb, lt-ltb, le-ltb, eqb-true, Option, Some, None}
use Rattle.node.specs.Choice.{pick, both, both_below}
use Rattle.node.specs.Rows.{distance, units_at, row_of, sum_row, long_product, alone_row, pair_row, product_row}
use Rattle.node.specs.Rows.{leaf_row, unfit, low, high, all_ones, count_limit, action_limit}
use Rattle.node.specs.Reading.{long_right, value_at, long_spelt, spelt_by, spelt, stand_all, head_stands, head_right}
use Rattle.node.specs.declared.Node.{Node}
use Rattle.node.specs.declared.Node.TheVariants.{Sum, Product, NullingLeaf, Evaluated}
use Rattle.node.proofs.Choices.{BothBelow, below, Both, both_true}
use Rattle.node.proofs.Fit.{fit-sum, FitProduct, fit-product, FitRight, fit-right}
use Rattle.node.proofs.Stands.{hold}
use Rattle.node.proofs.Spells as Sp
use Rattle.node.proofs.Lowest.{HeadRight, right-head}

-- Every unit of a store is a u16.
pub record Narrow (s : List ℕ) : Type 0 where
  pub fits : (i : ℕ) → get_or s i 0 < 65536

-- A unit that stands in front of units that stand.
pub cons_stand :
    (s : List ℕ) (i j u : ℕ) (us : List ℕ) → i ≡ j → j < length s → get_or s j 0 ≡ u → stand_all s (i + 1) us ≡ true
    → stand_all s i (u ∷ us) ≡ true
unfolding stand_all
cons_stand s i j u us at inside is rest =
    rw (hold s i u (omega (arith, at, inside)) (ap (λ k. get_or s k 0) at ∙ is)) rest

none_stand : (s : List ℕ) (i : ℕ) → stand_all s i [] ≡ true
unfolding stand_all
none_stand s i = refl

-- The halves of a value of two units are these units.
value_low : (s : List ℕ) (i v : ℕ) → Narrow s → value_at s i ≡ v → get_or s i 0 ≡ low v
unfolding value_at
value_low s i v narrow is = omega (arith, narrow.fits i, is)

value_high : (s : List ℕ) (i v : ℕ) → Narrow s → value_at s i ≡ v → get_or s (i + 1) 0 ≡ high v
unfolding value_at
value_high s i v narrow is = omega (arith, narrow.fits i, is)

-- What a long form spells, whatever its units are.
long-sum-spelt :
    (s : List ℕ) (q x : ℕ) → 0xE000 ≤ x → spelt_by s q x ≡ Some (Sum ((x - 0xE000) * 65536 + get_or s (q + 1) 0) (value_at s (q + 2)))
unfolding long_spelt
long-sum-spelt s q x h = simp (le-ltb x 0x8000 (omega arith), le-ltb x 0xC000 (omega arith), le-ltb x 0xE000 h)

long_product-spelt :
    (s : List ℕ) (q x : ℕ) → 0xC000 ≤ x → x < 0xE000
    → spelt_by s q x ≡ Some (Product ((x - 0xC000) * 65536 + get_or s (q + 1) 0) (value_at s (q + 2)) (long_right (value_at s (q + 4))))
unfolding long_spelt
long_product-spelt s q x h k = simp (le-ltb x 0x8000 (omega arith), le-ltb x 0xC000 h, lt-ltb x 0xE000 k)

-- What a right factor of the longest Product was read from.
long_absent : (v : ℕ) → long_right v ≡ None → v ≡ all_ones
unfolding long_right
long_absent v e = on (eqb v all_ones) refl e
  where
    on : (t : Bool) → eqb v all_ones ≡ t → pick t None (Some v) ≡ None → v ≡ all_ones
    on true h e = eqb-true v all_ones h
    on false h e = cc

long-there : (v r : ℕ) → long_right v ≡ Some r → v ≡ r
unfolding long_right
long-there v r e = on (eqb v all_ones) e
  where
    on : (t : Bool) → pick t None (Some v) ≡ Some r → v ≡ r
    on true e = cc
    on false e = cc

-- Units of a node whose head is right: they stand, or they are a wide leaf's and all but the second stand.
pub data Almost (s : List ℕ) (q : ℕ) (us : List ℕ) : Type 0 where
  stands : stand_all s q us ≡ true → Almost s q us
  wide : (w l h : ℕ) → (w ≡ 0 → ⊥) → us ≡ w ∷ 0 ∷ l ∷ h ∷ [] → stand_all s q (w ∷ get_or s (q + 1) 0 ∷ l ∷ h ∷ []) ≡ true → Almost s q us

module _ (s : List ℕ) (q : ℕ) (narrow : Narrow s) where
  one_stands : (u : ℕ) → head_right s q (u ∷ []) ≡ true → stand_all s q (u ∷ []) ≡ true
  one_stands u right =
      let h : HeadRight s q u [] = right-head s q u [] right in
      cons_stand s q q u [] refl (omega (arith, h.inside)) h.head (none_stand s (q + 1))

  two_stands : (u a : ℕ) → head_right s q (u ∷ a ∷ []) ≡ true → get_or s (q + 1) 0 ≡ a → stand_all s q (u ∷ a ∷ []) ≡ true
  two_stands u a right second =
      let h : HeadRight s q u (a ∷ []) = right-head s q u (a ∷ []) right in
      cons_stand s q q u _ refl (omega (arith, h.inside)) h.head
      (cons_stand s (q + 1) (q + 1) a [] refl (omega (arith, h.inside)) second (none_stand s (q + 1 + 1)))

  -- A value of two units behind others.
  value_stands :
      (i j v : ℕ) (us : List ℕ) → i ≡ j → j + 2 ≤ length s → value_at s j ≡ v → stand_all s (i + 1 + 1) us ≡ true
      → stand_all s i (low v ∷ high v ∷ us) ≡ true
  value_stands i j v us at inside is rest =
      cons_stand s i j _ _ at (omega (arith, inside)) (value_low s j v narrow is)
      (cons_stand s (i + 1) (j + 1) _ _ (omega (arith, at)) (omega (arith, inside)) (value_high s j v narrow is) rest)

  four_stands :
      (u b v : ℕ) → q + 4 ≤ length s → get_or s q 0 ≡ u → get_or s (q + 1) 0 ≡ b → value_at s (q + 2) ≡ v
      → stand_all s q (u ∷ b ∷ low v ∷ high v ∷ []) ≡ true
  four_stands u b v inside head second value =
      cons_stand s q q u _ refl (omega (arith, inside)) head
      (cons_stand s (q + 1) (q + 1) b _ refl (omega (arith, inside)) second
      (value_stands (q + 1 + 1) (q + 2) v [] (omega arith) (omega (arith, inside)) value (none_stand s _)))

  six_stands :
      (u b v w : ℕ) → q + 6 ≤ length s → get_or s q 0 ≡ u → get_or s (q + 1) 0 ≡ b → value_at s (q + 2) ≡ v → value_at s (q + 4) ≡ w
      → stand_all s q (u ∷ b ∷ low v ∷ high v ∷ low w ∷ high w ∷ []) ≡ true
  six_stands u b v w inside head second value last =
      cons_stand s q q u _ refl (omega (arith, inside)) head
      (cons_stand s (q + 1) (q + 1) b _ refl (omega (arith, inside)) second
      (value_stands (q + 1 + 1) (q + 2) v _ (omega arith) (omega (arith, inside)) value
      (value_stands (q + 1 + 1 + 1 + 1) (q + 4) w [] (omega arith) (omega (arith, inside)) last (none_stand s _))))

  sum_almost :
      (c n : ℕ) → c < count_limit → spelt s q ≡ Some (Sum c n) → head_right s q (sum_row c n) ≡ true
      → Almost s q (sum_row c n)
  unfolding sum_row
  sum_almost c n small like right = on (both_below c 32 n 256) right
    where
      on : (t : Bool)
          → head_right s q (pick t ((c * 256 + n) ∷ []) ((0xE000 + high c) ∷ low c ∷ low n ∷ high n ∷ [])) ≡ true
          → Almost s q (pick t ((c * 256 + n) ∷ []) ((0xE000 + high c) ∷ low c ∷ low n ∷ high n ∷ []))
      on true right = stands (one_stands _ right)
      on false right =
          let h : HeadRight s q (0xE000 + high c) (low c ∷ low n ∷ high n ∷ []) = right-head s q _ _ right in
          let same : Some (Sum ((get_or s q 0 - 0xE000) * 65536 + get_or s (q + 1) 0) (value_at s (q + 2))) ≡ Some (Sum c n) =
          sym (long-sum-spelt s q (get_or s q 0) (omega (arith, h.head))) ∙ like in
          let count : (get_or s q 0 - 0xE000) * 65536 + get_or s (q + 1) 0 ≡ c = cc in
          let value : value_at s (q + 2) ≡ n = cc in
          stands (four_stands _ _ n (omega (arith, h.inside)) h.head (omega (arith, h.head, count)) value)

  long_almost :
      (a l v : ℕ) (r : Option ℕ) → a < action_limit → (long_right (value_at s (q + 4)) ≡ r → value_at s (q + 4) ≡ v)
      → spelt s q ≡ Some (Product a l r)
      → head_right s q (long_product a l v) ≡ true → Almost s q (long_product a l v)
  unfolding long_product
  long_almost a l v r small back like right =
      let h : HeadRight s q (0xC000 + high a) (low a ∷ low l ∷ high l ∷ low v ∷ high v ∷ []) = right-head s q _ _ right in
      let same : Some (Product ((get_or s q 0 - 0xC000) * 65536 + get_or s (q + 1) 0) (value_at s (q + 2)) (long_right (value_at s (q + 4))))
      ≡ Some (Product a l r) =
      sym (long_product-spelt s q (get_or s q 0) (omega (arith, h.head)) (omega (arith, h.head))) ∙ like in
      let action : (get_or s q 0 - 0xC000) * 65536 + get_or s (q + 1) 0 ≡ a = cc in
      let left : value_at s (q + 2) ≡ l = cc in
      let right_is : long_right (value_at s (q + 4)) ≡ r = cc in
      stands (six_stands _ _ l v (omega (arith, h.inside)) h.head (omega (arith, h.head, action)) left (back right_is))

  alone_almost :
      (a l : ℕ) → a < action_limit → l < q → spelt s q ≡ Some (Product a l None) → head_right s q (alone_row q a l) ≡ true
      → Almost s q (alone_row q a l)
  unfolding alone_row
  alone_almost a l small before like right = short (both_below (distance q l) 32 a 256) right
    where
      middle : (t : Bool) → both_below (distance q l) 8192 a 65536 ≡ t
          → head_right s q (pick t ((0x4000 + distance q l) ∷ a ∷ []) (long_product a l all_ones)) ≡ true
          → Almost s q (pick t ((0x4000 + distance q l) ∷ a ∷ []) (long_product a l all_ones))
      middle true e right =
          let b : BothBelow (distance q l) 8192 a 65536 = below (sym e) refl in
          let h : HeadRight s q (0x4000 + distance q l) (a ∷ []) = right-head s q _ _ right in
          let same : Some (Product (get_or s (q + 1) 0) l None) ≡ Some (Product a l None) =
          sym (Sp.middle-alone s q (get_or s q 0) (distance q l) (get_or s (q + 1) 0) l b.first h.head refl (Sp.factor_back q l before))
          ∙ like in
          let second : get_or s (q + 1) 0 ≡ a = cc in
          stands (two_stands _ a right second)
      middle false e right = long_almost a l all_ones None small (long_absent _) like right

      short : (t : Bool)
          → head_right s q (pick t ((0x2000 + distance q l * 256 + a) ∷ [])
          (pick (both_below (distance q l) 8192 a 65536) ((0x4000 + distance q l) ∷ a ∷ []) (long_product a l all_ones))) ≡ true
          → Almost s q (pick t ((0x2000 + distance q l * 256 + a) ∷ [])
          (pick (both_below (distance q l) 8192 a 65536) ((0x4000 + distance q l) ∷ a ∷ []) (long_product a l all_ones)))
      short true right = stands (one_stands _ right)
      short false right = middle (both_below (distance q l) 8192 a 65536) refl right

  pair_almost :
      (a l r : ℕ) → a < action_limit → l < q → FitRight q r → spelt s q ≡ Some (Product a l (Some r))
      → head_right s q (pair_row q a l r) ≡ true
      → Almost s q (pair_row q a l r)
  unfolding pair_row
  pair_almost a l r small before fit like right = on (both (ltb a 65536) (both_below (distance q r) 32 (distance q l) 256)) refl right
    where
      on : (t : Bool) → both (ltb a 65536) (both_below (distance q r) 32 (distance q l) 256) ≡ t
          → head_right s q (pick t ((0x6000 + distance q r * 256 + distance q l) ∷ a ∷ []) (long_product a l r)) ≡ true
          → Almost s q (pick t ((0x6000 + distance q r * 256 + distance q l) ∷ a ∷ []) (long_product a l r))
      on true e right =
          let two : Both (ltb a 65536) (both_below (distance q r) 32 (distance q l) 256) = both_true _ _ e in
          let b : BothBelow (distance q r) 32 (distance q l) 256 = below (sym two.second) refl in
          let h : HeadRight s q (0x6000 + distance q r * 256 + distance q l) (a ∷ []) = right-head s q _ _ right in
          let same : Some (Product (get_or s (q + 1) 0) l (Some r)) ≡ Some (Product a l (Some r)) =
          sym (Sp.short-pair s q (get_or s q 0) (distance q r) (distance q l) (get_or s (q + 1) 0) l r b.first b.second h.head refl
          (Sp.factor_back q l before) (Sp.factor_back q r fit.before))
          ∙ like in
          let second : get_or s (q + 1) 0 ≡ a = cc in
          stands (two_stands _ a right second)
      on false e right = long_almost a l r (Some r) small (long-there _ r) like right

  leaf_almost :
      (short wide-head n : ℕ) → (wide-head ≡ 0 → ⊥) → (get_or s q 0 ≡ wide-head → value_at s (q + 2) ≡ n)
      → head_right s q (leaf_row short wide-head n) ≡ true
      → Almost s q (leaf_row short wide-head n)
  unfolding leaf_row
  leaf_almost short wide-head n some back right = on (ltb n 4096) right
    where
      on : (t : Bool) → head_right s q (pick t ((short + n) ∷ []) (wide-head ∷ 0 ∷ low n ∷ high n ∷ [])) ≡ true
          → Almost s q (pick t ((short + n) ∷ []) (wide-head ∷ 0 ∷ low n ∷ high n ∷ []))
      on true right = stands (one_stands _ right)
      on false right =
          let h : HeadRight s q wide-head (0 ∷ low n ∷ high n ∷ []) = right-head s q _ _ right in
          wide wide-head (low n) (high n) some refl (four_stands _ _ n (omega (arith, h.inside)) h.head refl (back h.head))

  row_almost :
      (n : Node) → unfit q n ≡ false → spelt s q ≡ Some n → head_right s q (row_of q n) ≡ true → Almost s q (row_of q n)
  unfolding row_of product_row unfit
  row_almost (Sum c n) fit like right = sum_almost c n (fit-sum q {nonterminal = n} refl fit) like right
  row_almost (Product a l None) fit like right =
      let f : FitProduct q a l None = fit-product fit in alone_almost a l f.action_small f.left-before like right
  row_almost (Product a l (Some r)) fit like right =
      let f : FitProduct q a l (Some r) = fit-product fit in
      pair_almost a l r f.action_small f.left-before (fit-right f.right-fit) like right
  row_almost (NullingLeaf n) fit like right =
      leaf_almost 0x9000 0xA001 n (λ e. omega (arith, e)) (λ head.
      let same : Some (NullingLeaf (value_at s (q + 2))) ≡ Some (NullingLeaf n) = sym (Sp.wide_nulling s q (get_or s q 0) _ head refl) ∙ like in
      cc) right
  row_almost (Evaluated n) fit like right =
      leaf_almost 0x8000 0xA000 n (λ e. omega (arith, e)) (λ head.
      let same : Some (Evaluated (value_at s (q + 2))) ≡ Some (Evaluated n) = sym (Sp.wide_evaluated s q (get_or s q 0) _ head refl) ∙ like in
      cc) right

  -- The units of the node that is spelt, where the head is right.
  pub almost :
      (n : Node) → spelt s q ≡ Some n → head_right s q (units_at q n) ≡ true → Almost s q (units_at q n)
  unfolding units_at head_right head_stands
  almost n like right = on (unfit q n) refl right
    where
      on : (t : Bool) → unfit q n ≡ t → head_right s q (pick t [] (row_of q n)) ≡ true
          → Almost s q (pick t [] (row_of q n))
      on true e right = stands cc
      on false e right = row_almost n e like right
