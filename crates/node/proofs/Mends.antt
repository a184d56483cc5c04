-- What a zero behind the head would mend: nothing but the second unit of a wide leaf.
use Rattle.std.proofs.Common.{ℕ, zero, suc, ◌+◌, ◌*◌, ◌<◌, ◌≡◌, refl, sym, ap, subst, ◌∙◌, Bool, true, false, List, [], ◌∷◌, arith, length, get_or, length-set, get_or-set_same, get_or-set_other, ltb, lt-ltb, ltb-true, Some, None}
use borrow.Author.Tests.{eqb-false}
use Rattle.node.specs.Choice.{pick, both, both_below}
use Rattle.node.specs.Rows.{distance, units_at, row_of, sum_row, long_product, alone_row, pair_row, product_row}
use Rattle.node.specs.Rows.{leaf_row, unfit, unfit_right, low, high, all_ones, count_limit, action_limit}
use Rattle.node.specs.Reading.{spelt, value_at, stand_all, stand, zero_behind}
use Rattle.node.specs.declared.Node.{Node}
use Rattle.node.specs.declared.Node.TheVariants.{Sum, Product, NullingLeaf, Evaluated}
use Rattle.node.proofs.Choices.{BothBelow, below, Both, both_true}
use Rattle.node.proofs.Fit.{fit-sum, FitProduct, fit-product, FitRight, fit-right, fit_row}
use Rattle.node.proofs.Stands as S
use Rattle.node.proofs.Stands.{Holds, all_held, all-stand}
use Rattle.node.proofs.Spells as Sp
use Rattle.node.proofs.Due.{due-middle, due-pair, due-long-sum, due-long-alone, due-long-pair}
use Rattle.node.proofs.Almost.{Narrow}

-- Bounds that do not both hold do not both hold of numbers for which they would.
still_not :
    {a x b y c d : ℕ} → both_below a x b y ≡ false → (BothBelow c x d y → BothBelow a x b y) → both_below c x d y ≡ false
unfolding both_below
still_not {a} {x} {b} {y} {c} {d} never back = on (both_below c x d y) refl
  where
    on : (t : Bool) → both_below c x d y ≡ t → both_below c x d y ≡ false
    on true e =
        let h : BothBelow a x b y = back (below (sym e) refl) in
        let yes : both_below a x b y ≡ true = simp (lt-ltb a x h.first, lt-ltb b y h.second) in
        let z : ◌≡◌ {A = Bool} true false = sym yes ∙ never in cc
    on false e = e

module _ (s : List ℕ) (q : ℕ) where
  -- The unit behind the head is the only one that a zero there changes.
  kept : (i : ℕ) → (i ≡ q + 1 → ⊥) → get_or (zero_behind s q) i 0 ≡ get_or s i 0
  kept i other = get_or-set_other s (q + 1) i 0 0 (λ e. other e)

  kept-held : (i u : ℕ) → (i ≡ q + 1 → ⊥) → Holds (zero_behind s q) i u → Holds s i u
  kept-held i u other h = record {
    within = omega (arith, h.within, length-set s (q + 1) 0);
    there = sym (kept i other) ∙ h.there;
  }

  -- So units that stand with a zero there stand with the unit that is there.
  restand :
      (u v : ℕ) (us : List ℕ) → stand_all (zero_behind s q) q (u ∷ v ∷ us) ≡ true → stand_all s q (u ∷ get_or s (q + 1) 0 ∷ us) ≡ true
  restand u v us st = all-stand s q (u ∷ get_or s (q + 1) 0 ∷ us) at
    where
      there : (k : ℕ) → k < length (u ∷ v ∷ us) → Holds (zero_behind s q) (q + k) (get_or (u ∷ v ∷ us) k 0)
      there = all_held (zero_behind s q) q (u ∷ v ∷ us) st

      at : (k : ℕ) → k < length (u ∷ get_or s (q + 1) 0 ∷ us) → Holds s (q + k) (get_or (u ∷ get_or s (q + 1) 0 ∷ us) k 0)
      at zero h = kept-held (q + 0) u (λ e. omega (arith, e)) (there 0 (omega arith))
      at (suc zero) h = record { within = omega (arith, (there 1 (omega arith)).within, length-set s (q + 1) 0); there = refl }
      at (suc (suc k)) h = kept-held (q + suc (suc k)) (get_or us k 0) (λ e. omega (arith, e)) (there (suc (suc k)) (omega (arith, h)))

  restand_one : (u : ℕ) → stand_all (zero_behind s q) q (u ∷ []) ≡ true → stand_all s q (u ∷ []) ≡ true
  restand_one u st = all-stand s q (u ∷ []) at
    where
      at : (k : ℕ) → k < 1 → Holds s (q + k) (get_or (u ∷ []) k 0)
      at zero h = kept-held (q + 0) u (λ e. omega (arith, e)) (all_held (zero_behind s q) q (u ∷ []) st 0 (omega arith))
      at (suc k) h = absurd (omega (arith, h))

  -- The second unit of units that stand there is zero.
  second-zero : (u v : ℕ) (us : List ℕ) → stand_all (zero_behind s q) q (u ∷ v ∷ us) ≡ true → v ≡ 0
  second-zero u v us st =
      let h : Holds (zero_behind s q) (q + 1) v = all_held (zero_behind s q) q (u ∷ v ∷ us) st 1 (omega arith) in
      sym h.there ∙ get_or-set_same s (q + 1) 0 0 (omega (arith, h.within, length-set s (q + 1) 0))

  -- A node that a zero behind the head makes stand: some node stands without it, or it is a wide leaf whose other units stand.
  pub data Mends (n : Node) : Type 0 where
    standing : (m : Node) → stand s q (units_at q m) ≡ true → Mends n
    leaf : (w l h : ℕ) → (w ≡ 0 → ⊥) → units_at q n ≡ w ∷ 0 ∷ l ∷ h ∷ [] → spelt s q ≡ Some n
        → stand_all s q (w ∷ get_or s (q + 1) 0 ∷ l ∷ h ∷ []) ≡ true
        → Mends n

  -- Some node stands whose units are known.
  known : {n : Node} (m : Node) (u : ℕ) (us : List ℕ) → units_at q m ≡ u ∷ us → stand_all s q (u ∷ us) ≡ true → Mends n
  unfolding stand
  known m u us is st = standing m (subst (λ l. stand s q l ≡ true) (sym is) st)

  module _ (narrow : Narrow s) where
    sum_mends :
        (c n : ℕ) → c < count_limit → units_at q (Sum c n) ≡ (sum_row c n)
        → stand (zero_behind s q) q (sum_row c n) ≡ true → Mends (Sum c n)
    unfolding sum_row stand
    sum_mends c n small own st = on (both_below c 32 n 256) refl own st
      where
        on : (t : Bool) → both_below c 32 n 256 ≡ t
            → units_at q (Sum c n) ≡ (pick t ((c * 256 + n) ∷ []) ((0xE000 + high c) ∷ low c ∷ low n ∷ high n ∷ []))
            → stand (zero_behind s q) q (pick t ((c * 256 + n) ∷ []) ((0xE000 + high c) ∷ low c ∷ low n ∷ high n ∷ [])) ≡ true
            → Mends (Sum c n)
        on true e own st = known (Sum c n) _ [] own (restand_one _ st)
        on false e own st =
            let none : low c ≡ 0 = second-zero _ _ _ st in
            let second : ℕ = get_or s (q + 1) 0 in
            let fits : get_or s (q + 1) 0 < 65536 = narrow.fits (q + 1) in
            let count : ℕ = high c * 65536 + second in
            let top : high count ≡ high c = omega (arith, fits) in
            let rest : low count ≡ get_or s (q + 1) 0 = omega (arith, fits) in
            let long : both_below count 32 n 256 ≡ false =
            still_not e (λ h. record { first = omega (arith, h.first, none); second = h.second }) in
            known (Sum count n) (0xE000 + high c) (get_or s (q + 1) 0 ∷ low n ∷ high n ∷ [])
            (due-long-sum q count n (omega (arith, fits, small)) long ∙ rw (top, rest)) (restand _ _ _ st)

    -- The longest Product with another low half of its action.
    long_mends :
        (n : Node) (a l v : ℕ) (m : ℕ → Node)
        → (low a ≡ 0 → (b : ℕ) → high b ≡ high a → units_at q (m b) ≡ (long_product b l v))
        → stand_all (zero_behind s q) q (long_product a l v) ≡ true → Mends n
    unfolding long_product
    long_mends n a l v m due st =
        let none : low a ≡ 0 = second-zero _ _ _ st in
        let fits : get_or s (q + 1) 0 < 65536 = narrow.fits (q + 1) in
        let action : ℕ = high a * 65536 + get_or s (q + 1) 0 in
        let top : high action ≡ high a = omega (arith, fits) in
        let rest : low action ≡ get_or s (q + 1) 0 = omega (arith, fits) in
        known (m action) (0xC000 + high a) (get_or s (q + 1) 0 ∷ low l ∷ high l ∷ low v ∷ high v ∷ [])
        (due none action top ∙ rw (top, rest)) (restand _ _ _ st)

    alone_mends :
        (a l : ℕ) → a < action_limit → l < q → units_at q (Product a l None) ≡ (alone_row q a l)
        → stand (zero_behind s q) q (alone_row q a l) ≡ true → Mends (Product a l None)
    unfolding alone_row stand long_product
    alone_mends a l small before own st = short (both_below (distance q l) 32 a 256) refl own st
      where
        middle : (t : Bool) → both_below (distance q l) 32 a 256 ≡ false → both_below (distance q l) 8192 a 65536 ≡ t
            → stand (zero_behind s q) q (pick t ((0x4000 + distance q l) ∷ a ∷ []) (long_product a l all_ones)) ≡ true
            → Mends (Product a l None)
        middle true no_short e st =
            let b : BothBelow (distance q l) 8192 a 65536 = below (sym e) refl in
            let none : a ≡ 0 = second-zero _ _ _ st in
            let long : both_below (distance q l) 32 (get_or s (q + 1) 0) 256 ≡ false =
            still_not no_short (λ h. record { first = h.first; second = omega (arith, none) }) in
            known (Product (get_or s (q + 1) 0) l None) _ _
            (due-middle q (get_or s (q + 1) 0) l before long b.first (narrow.fits (q + 1))) (restand _ _ _ st)
        middle false no_short e st =
            long_mends _ a l all_ones (λ b. Product b l None) (λ none b top.
            due-long-alone q b l before (omega (arith, small, top))
            (still_not no_short (λ h. record { first = h.first; second = omega (arith, h.second, none, top) }))
            (still_not e (λ h. record { first = h.first; second = omega (arith, h.second, none, top) }))) st

        short : (t : Bool) → both_below (distance q l) 32 a 256 ≡ t
            → units_at q (Product a l None) ≡ (pick t ((0x2000 + distance q l * 256 + a) ∷ [])
            (pick (both_below (distance q l) 8192 a 65536) ((0x4000 + distance q l) ∷ a ∷ []) (long_product a l all_ones)))
            → stand (zero_behind s q) q (pick t ((0x2000 + distance q l * 256 + a) ∷ [])
            (pick (both_below (distance q l) 8192 a 65536) ((0x4000 + distance q l) ∷ a ∷ []) (long_product a l all_ones))) ≡ true
            → Mends (Product a l None)
        short true e own st = known (Product a l None) _ [] own (restand_one _ st)
        short false e own st = middle (both_below (distance q l) 8192 a 65536) e refl st

    pair_mends :
        (a l r : ℕ) → a < action_limit → l < q → unfit_right q (Some r) ≡ false
        → stand (zero_behind s q) q (pair_row q a l r) ≡ true → Mends (Product a l (Some r))
    unfolding pair_row stand long_product
    pair_mends a l r small before fit st = on (both (ltb a 65536) (both_below (distance q r) 32 (distance q l) 256)) refl st
      where
        on : (t : Bool) → both (ltb a 65536) (both_below (distance q r) 32 (distance q l) 256) ≡ t
            → stand (zero_behind s q) q (pick t ((0x6000 + distance q r * 256 + distance q l) ∷ a ∷ []) (long_product a l r)) ≡ true
            → Mends (Product a l (Some r))
        on true e st =
            let two : Both (ltb a 65536) (both_below (distance q r) 32 (distance q l) 256) = both_true _ _ e in
            let b : BothBelow (distance q r) 32 (distance q l) 256 = below (sym two.second) refl in
            let f : FitRight q r = fit-right fit in
            known (Product (get_or s (q + 1) 0) l (Some r)) _ _
            (due-pair q (get_or s (q + 1) 0) l r before f.before b.first b.second (narrow.fits (q + 1)) (eqb-false r all_ones f.present))
            (restand _ _ _ st)
        on false e st =
            long_mends _ a l r (λ b. Product b l (Some r)) (λ none b top.
            due-long-pair q b l r before (omega (arith, small, top)) fit (still_long b none top)) st
          where
            still_long : (b : ℕ) → low a ≡ 0 → high b ≡ high a → both (ltb b 65536) (both_below (distance q r) 32 (distance q l) 256) ≡ false
            still_long b none top = test (ltb b 65536) refl
              where
                test : (t : Bool) → ltb b 65536 ≡ t → both t (both_below (distance q r) 32 (distance q l) 256) ≡ false
                test true h =
                    let small-action : ltb a 65536 ≡ true = lt-ltb a 65536 (omega (arith, ltb-true b 65536 h, none, top)) in
                    ap (λ t. both t (both_below (distance q r) 32 (distance q l) 256)) (sym small-action) ∙ e
                test false h = refl

    leaf_mends :
        (leaf-of : ℕ → Node) (short w n : ℕ) → (w ≡ 0 → ⊥) → units_at q (leaf-of n) ≡ (leaf_row short w n)
        → (get_or s q 0 ≡ w → value_at s (q + 2) ≡ n → spelt s q ≡ Some (leaf-of n))
        → stand (zero_behind s q) q (leaf_row short w n) ≡ true → Mends (leaf-of n)
    unfolding leaf_row stand
    leaf_mends leaf-of short w n some own spells st = on (ltb n 4096) own st
      where
        on : (t : Bool) → units_at q (leaf-of n) ≡ (pick t ((short + n) ∷ []) (w ∷ 0 ∷ low n ∷ high n ∷ []))
            → stand (zero_behind s q) q (pick t ((short + n) ∷ []) (w ∷ 0 ∷ low n ∷ high n ∷ [])) ≡ true → Mends (leaf-of n)
        on true own st = known (leaf-of n) _ [] own (restand_one _ st)
        on false own st =
            let there : stand_all s q (w ∷ get_or s (q + 1) 0 ∷ low n ∷ high n ∷ []) ≡ true = restand _ _ _ st in
            let f : S.Four s q w (get_or s (q + 1) 0) (high n * 65536 + low n) = S.four_stand s q _ _ _ _ _ there in
            leaf w (low n) (high n) some own (spells f.head (f.value ∙ Sp.halves n)) there

    row_mends :
        (n : Node) → unfit q n ≡ false → units_at q n ≡ (row_of q n) → stand (zero_behind s q) q (row_of q n) ≡ true → Mends n
    unfolding row_of product_row unfit
    row_mends (Sum c n) fit own st = sum_mends c n (fit-sum q {nonterminal = n} refl fit) own st
    row_mends (Product a l None) fit own st =
        let f : FitProduct q a l None = fit-product fit in alone_mends a l f.action_small f.left-before own st
    row_mends (Product a l (Some r)) fit own st =
        let f : FitProduct q a l (Some r) = fit-product fit in pair_mends a l r f.action_small f.left-before f.right-fit st
    row_mends (NullingLeaf n) fit own st =
        leaf_mends NullingLeaf 0x9000 0xA001 n (λ e. omega (arith, e)) own (Sp.wide_nulling s q (get_or s q 0) n) st
    row_mends (Evaluated n) fit own st =
        leaf_mends Evaluated 0x8000 0xA000 n (λ e. omega (arith, e)) own (Sp.wide_evaluated s q (get_or s q 0) n) st

    pub mends : (n : Node) → stand (zero_behind s q) q (units_at q n) ≡ true → Mends n
    unfolding units_at stand
    mends n st = on (unfit q n) refl st
      where
        on : (t : Bool) → unfit q n ≡ t → stand (zero_behind s q) q (pick t [] (row_of q n)) ≡ true → Mends n
        on true e st = standing n cc
        on false e st = row_mends n e (fit_row q n e) st

  -- Units that stand with another second unit stand with a zero there.
  pub zero-stands :
      (w g : ℕ) (us : List ℕ) → stand_all s q (w ∷ g ∷ us) ≡ true → stand (zero_behind s q) q (w ∷ 0 ∷ us) ≡ true
  unfolding stand
  zero-stands w g us st = all-stand (zero_behind s q) q (w ∷ 0 ∷ us) at
    where
      there : (k : ℕ) → k < length (w ∷ g ∷ us) → Holds s (q + k) (get_or (w ∷ g ∷ us) k 0)
      there = all_held s q (w ∷ g ∷ us) st

      put_back : (i u : ℕ) → (i ≡ q + 1 → ⊥) → Holds s i u → Holds (zero_behind s q) i u
      put_back i u other h = record {
        within = omega (arith, h.within, length-set s (q + 1) 0);
        there = kept i other ∙ h.there;
      }

      at : (k : ℕ) → k < length (w ∷ 0 ∷ us) → Holds (zero_behind s q) (q + k) (get_or (w ∷ 0 ∷ us) k 0)
      at zero h = put_back (q + 0) w (λ e. omega (arith, e)) (there 0 (omega arith))
      at (suc zero) h =
          let second : Holds s (q + 1) g = there 1 (omega arith) in
          record {
            within = omega (arith, second.within, length-set s (q + 1) 0);
            there = get_or-set_same s (q + 1) 0 0 second.within;
          }
      at (suc (suc k)) h = put_back (q + suc (suc k)) (get_or us k 0) (λ e. omega (arith, e)) (there (suc (suc k)) (omega (arith, h)))
