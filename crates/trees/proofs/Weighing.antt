-- THE TABLE: the entry at a position tells the lowest fault below it, or the number of its trees.
use Rattle.std.proofs.Common.{◌≡◌, refl, sym, subst, ap, ◌∙◌, List, [], ◌∷◌, ◌++◌, inl, inr, ⊎_elim, ℕ, zero, suc, ◌+◌, ◌≤◌, ◌<◌, arith, length, get_or, length-append, get_or-append-add, lt-ltb, le-ltb, Option, Some, None}
use mathlib.Core.List.{flat_map}
use mathlib.Core.List.Memᴰ.{head as here}
use mathlib.Core.List.Memᴰ.{tail as there}
use mathlib.Core.List.{Memᴰ as Member}
use native.Mathlib.Decide.{dec_lt}
use lib.ListN.{length-map, get_or-append}
use Rattle.node.specs.Choice.{pick}
use Rattle.forest.specs.Trees.{one, two}
use Rattle.forest.specs.Forests.{Product, alone, paired, Node, token, sum, other, FactorOf, Under, of_product, of_node, listed}
use Rattle.forest.specs.Stores.{node_at}
use Rattle.forest.proofs.Choosing.{length_pairs}
use Rattle.trees.specs.Faults.{asked_at, Faulty, Below, Sound}
use Rattle.trees.specs.inner.Weights.{plus, of_entry, factor_weight, product_weight, sum_from, closed, weigh_node, entry_in, weigh, weights, entry_at}
use Rattle.trees.specs.declared.Weight.{Weight}
use Rattle.trees.specs.declared.Weight.TheVariants.{Fault, Number}
use Rattle.trees.proofs.Belows.{below_through, Down, below_down, FactorIn, under_sum, sum_under}
use Rattle.trees.proofs.Means.{Means, means_same, Or, plus_means, times_means}

-- The table has an entry for each position, and each is the one that was weighed there.
pub length-weights : (store : List ℕ) (p : ℕ) → length (weights store p) ≡ p
unfolding weights
length-weights store zero = refl
length-weights store (suc p) =
    omega (arith, length-append (weights store p) (weigh store (weights store p) p ∷ []), length-weights store p)

pub weights_at : (store : List ℕ) (p q : ℕ) → q < p → entry_in (weights store p) q ≡ entry_at store q
unfolding weights
weights_at store zero q less = absurd (omega arith)
weights_at store (suc p) q less = elim (dec_lt q p) [
  | yes before ↦
      get_or-append (weights store p) (entry_at store p ∷ []) None q (omega (arith, length-weights store p)) ∙ weights_at store p q before
  | no not ↦
      (let is : q ≡ length (weights store p) + 0 = omega (arith, length-weights store p) in
      let same : p ≡ q = omega arith in
      ap (λ i. get_or (weights store p ++ (entry_at store p ∷ [])) i None) is
      ∙ get_or-append-add (weights store p) (entry_at store p ∷ []) 0 None
      ∙ ap (entry_at store) same)
]

-- A fault below a position.
pub record FaultBelow (store : List ℕ) (h v : ℕ) : Type 0 where
  pub below : Below store h v
  pub faulty : Faulty store v

-- What an entry tells of a position, however many rounds are listed.
pub data Weighs (store : List ℕ) (rounds q : ℕ) : Option Weight → Type 0 where
  nothing : node_at store q ≡ other → Weighs store rounds q None
  leaf : {t : ℕ} → node_at store q ≡ token t → Weighs store rounds q (Some (Number 1))
  sums : {ps : List Product} {w : Weight} → node_at store q ≡ sum ps → Means (FaultBelow store q) (length (listed (node_at store) rounds q)) w
      → Weighs store rounds q (Some w)

-- The faults that a factor at q gives a Sum at s: the Sum's own, or those below the factor.
data FactorFault (store : List ℕ) (s q : ℕ) : ℕ → Type 0 where
  late : s ≤ q → FactorFault store s q s
  none : node_at store q ≡ other → FactorFault store s q s
  further : {v : ℕ} {ps : List Product} → q < s → node_at store q ≡ sum ps → FaultBelow store q v → FactorFault store s q v

leaf-length : (store : List ℕ) (rounds q t : ℕ) → q < rounds → node_at store q ≡ token t → length (listed (node_at store) rounds q) ≡ 1
leaf-length store zero q t less e = absurd (omega arith)
leaf-length store (suc rounds) q t less e = ap (λ n. length (of_node (listed (node_at store) rounds) n)) e

module _ (store : List ℕ) (rounds s : ℕ) (enough : s ≤ rounds) (under : ℕ → Option Weight) (told : (q : ℕ) → q < s → Weighs store rounds q (under q)) where
  abbrev number : ℕ → ℕ
  number q = length (listed (node_at store) rounds q)

  entry_means : (q : ℕ) (e : Option Weight) → q < s → Weighs store rounds q e → Means (FactorFault store s q) (number q) (of_entry s e)
  unfolding of_entry
  entry_means q e less (Weighs.nothing is) =
      Means.faulty (FactorFault.none is) (λ v f. own v f)
    where
      own : (v : ℕ) → FactorFault store s q v → s ≤ v
      own v (FactorFault.late l) = omega arith
      own v (FactorFault.none i) = omega arith
      own v (FactorFault.further l i f) = let z : ◌≡◌ {A = ℕ} 0 1 = cc in omega arith
  entry_means q e less (Weighs.leaf {t = t} is) =
      Means.number (λ v f. never v f) (leaf-length store rounds q t (omega arith) is) (omega arith)
    where
      never : (v : ℕ) → FactorFault store s q v → ⊥
      never v (FactorFault.late l) = omega arith
      never v (FactorFault.none i) = let z : ◌≡◌ {A = ℕ} 0 1 = cc in omega arith
      never v (FactorFault.further l i f) = let z : ◌≡◌ {A = ℕ} 0 1 = cc in omega arith
  entry_means q e less (Weighs.sums is m) = means_same (λ v f. FactorFault.further less is f) (λ v f. back v f) refl m
    where
      back : (v : ℕ) → FactorFault store s q v → FaultBelow store q v
      back v (FactorFault.late l) = absurd (omega arith)
      back v (FactorFault.none i) = let z : ◌≡◌ {A = ℕ} 0 1 = cc in absurd (omega arith)
      back v (FactorFault.further l i f) = f

  -- A factor,
  factor_means : (q : ℕ) → Means (FactorFault store s q) (number q) (factor_weight under s q)
  unfolding factor_weight
  factor_means q = elim (dec_lt q s) [
    | yes less ↦
        subst (λ t. Means (FactorFault store s q) (number q) (pick t (of_entry s (under q)) (Fault s))) (sym (lt-ltb q s less))
        (entry_means q (under q) less (told q less))
    | no not ↦
        (let behind : s ≤ q = omega arith in
        subst (λ t. Means (FactorFault store s q) (number q) (pick t (of_entry s (under q)) (Fault s))) (sym (le-ltb q s behind))
        (Means.faulty (FactorFault.late behind) (λ v f. own v behind f)))
  ]
    where
      own : (v : ℕ) → s ≤ q → FactorFault store s q v → s ≤ v
      own v b (FactorFault.late l) = omega arith
      own v b (FactorFault.none i) = omega arith
      own v b (FactorFault.further l i f) = absurd (omega arith)

  -- a Product,
  record ProductFault (p : Product) (v : ℕ) : Type 0 where
    factor : ℕ
    of : FactorOf factor p
    fault : FactorFault store s factor v

  product_means : (p : Product) → Means (ProductFault p) (length (of_product (listed (node_at store) rounds) p)) (product_weight under s p)
  unfolding product_weight
  product_means (alone r a) =
      means_same (λ v f. record { factor = a; of = FactorOf.only; fault = f }) (λ v f. only v f.of f.fault)
      (sym (length-map (listed (node_at store) rounds a) (one r))) (factor_means a)
    where
      only : {q : ℕ} (v : ℕ) → FactorOf q (alone r a) → FactorFault store s q v → FactorFault store s a v
      only v FactorOf.only f = f
  product_means (paired r a b) =
      means_same (λ v x. ⊎_elim (λ f. record { factor = a; of = FactorOf.left; fault = f }) (λ f. record { factor = b; of = FactorOf.right; fault = f }) x)
      (λ v f. either v f.of f.fault)
      (sym (length_pairs (two r) (listed (node_at store) rounds a) (listed (node_at store) rounds b)))
      (times_means (factor_means a) (factor_means b))
    where
      either : {q : ℕ} (v : ℕ) → FactorOf q (paired r a b) → FactorFault store s q v → Or (FactorFault store s a) (FactorFault store s b) v
      either v FactorOf.left f = inl f
      either v FactorOf.right f = inr f

  -- and Products behind what is weighed so far.
  record ProductsFault (ps : List Product) (v : ℕ) : Type 0 where
    product : Product
    member : Member product ps
    fault : ProductFault product v

  sum_means : (ps : List Product) {P : ℕ → Type 0} {n : ℕ} {w : Weight} → Means P n w
      → Means (Or P (ProductsFault ps)) (n + length (flat_map (of_product (listed (node_at store) rounds)) ps)) (sum_from under s w ps)
  unfolding sum_from flat_map
  sum_means [] {n = n} m = means_same (λ v x. inl x) (λ v x. ⊎_elim (λ y. y) (λ f. none v f.member) x) (let e : n ≡ n + 0 = omega arith in e) m
    where
      none : {A : Type 0} {p : Product} (v : ℕ) → Member p [] → A
      none v h = elim h [ ]
  sum_means (p ∷ ps) {P} {n} m =
      means_same
      (λ v x. ⊎_elim (λ y. ⊎_elim (λ z. inl z) (λ f. inr (record { product = p; member = here refl; fault = f })) y)
      (λ f. inr (record { product = f.product; member = there f.member; fault = f.fault })) x)
      (λ v x. ⊎_elim (λ y. inl (inl y)) (λ f. which v f.member f.fault) x)
      (let parts = length-append (of_product (listed (node_at store) rounds) p) (flat_map (of_product (listed (node_at store) rounds)) ps) in
      let e : n + length (of_product (listed (node_at store) rounds) p) + length (flat_map (of_product (listed (node_at store) rounds)) ps) ≡ n + length (flat_map (of_product (listed (node_at store) rounds)) (p ∷ ps)) = omega arith in
      e)
      (sum_means ps (plus_means m (product_means p)))
    where
      which : {q : Product} (v : ℕ) → Member q (p ∷ ps) → ProductFault q v → Or (Or P (ProductFault p)) (ProductsFault ps) v
      which v (here same) f = inl (inr (subst (λ x. ProductFault x v) same f))
      which v (there h) f = inr (record { product = _; member = h; fault = f })

  -- A Sum that asks for more Products than there are is faulty itself.
  record Short (count : ℕ) (ps : List Product) (v : ℕ) : Type 0 where
    is : v ≡ s
    fewer : length ps < count

  closed_means : (count : ℕ) (ps : List Product) {P : ℕ → Type 0} {n : ℕ} {w : Weight} → Means P n w
      → Means (Or P (Short count ps)) n (closed s count ps w)
  unfolding closed
  closed_means count ps {P} {n} {w} m = elim (dec_lt (length ps) count) [
    | yes less ↦
        (let own : Means (Short count ps) 0 (Fault s) = Means.faulty (record { is = refl; fewer = less }) (λ v f. omega (arith, f.is)) in
        let e : n + 0 ≡ n = omega arith in
        subst (λ t. Means (Or P (Short count ps)) n (pick t (plus w (Fault s)) w)) (sym (lt-ltb (length ps) count less))
        (means_same (λ v x. x) (λ v x. x) e (plus_means m own)))
    | no not ↦
        (let enough : count ≤ length ps = omega arith in
        subst (λ t. Means (Or P (Short count ps)) n (pick t (plus w (Fault s)) w)) (sym (le-ltb (length ps) count enough))
        (means_same (λ v x. inl x) (λ v x. ⊎_elim (λ y. y) (λ f. absurd (omega (arith, f.fewer))) x) refl m))
  ]

  -- The faults of a Sum's factors, and its own, are those below it.
  module _ (ps : List Product) (is : node_at store s ≡ sum ps) where
    abbrev Found : ℕ → Type 0
    Found = Or (Or (λ v. ⊥) (ProductsFault ps)) (Short (asked_at store s) ps)

    found_below : (v : ℕ) → Found v → FaultBelow store s v
    found_below v x = ⊎_elim (λ y. ⊎_elim (λ z. absurd z) (λ f. by_factor (record { product = f.product; member = f.member; factor = f.fault.of }) f.fault.fault) y)
        (λ f. subst (FaultBelow store s) (sym f.is) (record { below = Below.itself; faulty = Faulty.cut_off is f.fewer })) x
      where
        by_factor : {q v : ℕ} → FactorIn q ps → FactorFault store s q v → FaultBelow store s v
        by_factor f (FactorFault.late l) = record { below = Below.itself; faulty = Faulty.late_factor (sum_under f is) l }
        by_factor f (FactorFault.none i) = record { below = Below.itself; faulty = Faulty.no_factor (sum_under f is) i }
        by_factor f (FactorFault.further l i b) =
            record { below = below_through (Below.factor Below.itself (sum_under f is) l i) b.below; faulty = b.faulty }

    factor-found : {q v : ℕ} → Under q (node_at store s) → FactorFault store s q v → Found v
    factor-found u f =
        let i = under_sum u is in
        inl (inr (record { product = i.product; member = i.member; fault = record { factor = _; of = i.factor; fault = f } }))

    own-found : Faulty store s → Found s
    own-found (Faulty.no_sum never) = absurd (never ps is)
    own-found (Faulty.cut_off {ps = qs} e less) = let same : ps ≡ qs = cc in inr (record { is = refl; fewer = omega (arith, ap length same) })
    own-found (Faulty.late_factor u l) = factor-found u (FactorFault.late l)
    own-found (Faulty.no_factor u i) = factor-found u (FactorFault.none i)

    below-found : (v : ℕ) → FaultBelow store s v → Found v
    below-found v f = by_step (below_down f.below) f.faulty
      where
        by_step : {v : ℕ} → Down store s v → Faulty store v → Found v
        by_step Down.here f = own-found f
        by_step (Down.further u l i b) f = factor-found u (FactorFault.further l i (record { below = b; faulty = f }))

    -- Where nothing below the Sum is faulty, a factor and a Product of it weigh the number of their trees.
    no_fault : Sound store s → (v : ℕ) → FaultBelow store s v → ⊥
    no_fault sound v f = sound.sound v f.below f.faulty

    pub sound-factor : Sound store s → (q : ℕ) → FactorIn q ps → Means (λ v. ⊥) (number q) (factor_weight under s q)
    sound-factor sound q i =
        means_same
        (λ v f. no_fault sound v (found_below v (inl (inr (record { product = i.product; member = i.member; fault = record { factor = q; of = i.factor; fault = f } })))))
        (λ v f. absurd f) refl (factor_means q)

    pub sound-product : Sound store s → (p : Product) → Member p ps
        → Means (λ v. ⊥) (length (of_product (listed (node_at store) rounds) p)) (product_weight under s p)
    sound-product sound p m =
        means_same (λ v f. no_fault sound v (found_below v (inl (inr (record { product = p; member = m; fault = f })))))
        (λ v f. absurd f) refl (product_means p)

    pub sum_weighs : Weighs store (suc rounds) s (weigh_node under s (asked_at store s) (sum ps))
    unfolding weigh_node
    sum_weighs =
        let nothing_yet : Means (λ v. ⊥) 0 (Number 0) = Means.number (λ v x. x) refl (omega arith) in
        let same : length (flat_map (of_product (listed (node_at store) rounds)) ps) ≡ length (listed (node_at store) (suc rounds) s) =
        ap (λ n. length (of_node (listed (node_at store) rounds) n)) (sym is) in
        let e : 0 + length (flat_map (of_product (listed (node_at store) rounds)) ps) ≡ length (listed (node_at store) (suc rounds) s) = omega arith in
        Weighs.sums is (means_same found_below below-found e (closed_means (asked_at store s) ps (sum_means ps nothing_yet)))

-- THE TABLE TELLS IT.
pub entry_weighs : (store : List ℕ) (rounds p : ℕ) → p < rounds → Weighs store rounds p (entry_at store p)
unfolding weigh_node
entry_weighs store zero p less = absurd (omega arith)
entry_weighs store (suc rounds) p less =
    on (λ q before. subst (Weighs store rounds q) (sym (weights_at store p q before)) (entry_weighs store rounds q (omega arith))) (node_at store p) refl
  where
    on : ((q : ℕ) → q < p → Weighs store rounds q (entry_in (weights store p) q)) → (n : Node) → node_at store p ≡ n
        → Weighs store (suc rounds) p (weigh_node (entry_in (weights store p)) p (asked_at store p) n)
    on told (token t) is = Weighs.leaf is
    on told (sum ps) is = sum_weighs store rounds p (omega arith) (entry_in (weights store p)) told ps is
    on told other is = Weighs.nothing is
