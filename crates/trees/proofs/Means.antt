-- What a weight means of faults and of a number of trees, and that sums and products of weights mean it of both.
use Rattle.std.proofs.Common.{◌≡◌, refl, sym, subst, ap, ◌∙◌, ◌⊎◌, inl, inr, ⊎_elim, ℕ, zero, suc, ◌+◌, ◌*◌, ◌≤◌, ◌<◌, suc-mul, zero-mul, mul_comm, arith, lt-ltb, le-ltb, eq-eqb, ne_eqb}
use native.Mathlib.Decide.{dec_lt}
use Rattle.node.specs.Choice.{pick}
use Rattle.trees.specs.Answers.{tree_limit}
use Rattle.trees.specs.inner.Weights.{limited, lower, plus, often, times}
use Rattle.trees.specs.declared.Weight.{Weight}
use Rattle.trees.specs.declared.Weight.TheVariants.{Fault, Number, Many}

-- The lowest of the faults; where there is none, the number of trees; and where that exceeds 64 bits, that it does.
pub data Means (P : ℕ → Type 0) (n : ℕ) : Weight → Type 0 where
  faulty : {u : ℕ} → P u → ((v : ℕ) → P v → u ≤ v) → Means P n (Fault u)
  number : {k : ℕ} → ((v : ℕ) → P v → ⊥) → n ≡ k → k < tree_limit → Means P n (Number k)
  over : ((v : ℕ) → P v → ⊥) → tree_limit ≤ n → Means P n Many

-- Of the same faults, and of the same number.
pub means_same : {P Q : ℕ → Type 0} {n m : ℕ} {w : Weight} → ((v : ℕ) → P v → Q v) → ((v : ℕ) → Q v → P v) → n ≡ m → Means P n w → Means Q m w
means_same to from same (Means.faulty p low) = Means.faulty (to _ p) (λ v q. low v (from v q))
means_same to from same (Means.number none is small) = Means.number (λ v q. none v (from v q)) (sym same ∙ is) small
means_same to from same (Means.over none big) = Means.over (λ v q. none v (from v q)) (omega arith)

-- A number as it stands, where it is not over.
limited_means : {P : ℕ → Type 0} (n : ℕ) → ((v : ℕ) → P v → ⊥) → Means P n (limited n)
unfolding limited
limited_means {P} n none = elim (dec_lt n tree_limit) [
  | yes less ↦ subst (λ t. Means P n (pick t (Number n) Many)) (sym (lt-ltb n tree_limit less)) (Means.number none refl less)
  | no not ↦
      (let big : tree_limit ≤ n = omega arith in
      subst (λ t. Means P n (pick t (Number n) Many)) (sym (le-ltb n tree_limit big)) (Means.over none big))
]

-- None, or over.
often_means : {P : ℕ → Type 0} (n m : ℕ) → tree_limit ≤ m → ((v : ℕ) → P v → ⊥) → Means P (n * m) (often n)
unfolding often
often_means {P} zero m big none =
    subst (λ t. Means P (zero * m) (pick t (Number 0) Many)) (sym (eq-eqb 0 0 refl)) (Means.number none (zero-mul m) (omega arith))
often_means {P} (suc k) m big none =
    subst (λ t. Means P (suc k * m) (pick t (Number 0) Many)) (sym (ne_eqb (suc k) 0 (λ e. omega arith))) (Means.over none (omega (arith, suc-mul k m)))

-- The faults of the one, and those of the other.
abbrev pub Or : (ℕ → Type 0) → (ℕ → Type 0) → ℕ → Type 0
Or P Q v = P v ⊎ Q v

module _ {P Q : ℕ → Type 0} where
  neither : ((v : ℕ) → P v → ⊥) → ((v : ℕ) → Q v → ⊥) → (v : ℕ) → Or P Q v → ⊥
  neither no-p no-q v x = ⊎_elim (no-p v) (no-q v) x

  first-fault : {k u : ℕ} → P u → ((v : ℕ) → P v → u ≤ v) → ((v : ℕ) → Q v → u ≤ v) → Means (Or P Q) k (Fault u)
  first-fault p low other = Means.faulty (inl p) (λ v x. ⊎_elim (low v) (other v) x)

  second-fault : {k u : ℕ} → Q u → ((v : ℕ) → Q v → u ≤ v) → ((v : ℕ) → P v → u ≤ v) → Means (Or P Q) k (Fault u)
  second-fault q low other = Means.faulty (inr q) (λ v x. ⊎_elim (other v) (low v) x)

  -- Where the one is faulty, the lower fault counts, whatever the numbers.
  lower_means : {m k u : ℕ} {b : Weight} → P u → ((v : ℕ) → P v → u ≤ v) → Means Q m b → Means (Or P Q) k (lower u b)
  unfolding lower
  lower_means {k = k} {u = u} p low (Means.faulty {u = w} q least) = elim (dec_lt u w) [
    | yes less ↦
        subst (λ t. Means (Or P Q) k (pick t (Fault u) (Fault w))) (sym (lt-ltb u w less)) (first-fault p low (λ v y. omega (arith, least v y)))
    | no not ↦
        (let not-above : w ≤ u = omega arith in
        subst (λ t. Means (Or P Q) k (pick t (Fault u) (Fault w))) (sym (le-ltb u w not-above)) (second-fault q least (λ v y. omega (arith, low v y))))
  ]
  lower_means p low (Means.number none is small) = first-fault p low (λ v y. absurd (none v y))
  lower_means p low (Means.over none big) = first-fault p low (λ v y. absurd (none v y))

  -- Trees of the one and then of the other are as many as both.
  pub plus_means : {n m : ℕ} {a b : Weight} → Means P n a → Means Q m b → Means (Or P Q) (n + m) (plus a b)
  unfolding plus
  plus_means (Means.faulty p low) b = lower_means p low b
  plus_means (Means.number none is small) (Means.faulty q low) = second-fault q low (λ v y. absurd (none v y))
  plus_means (Means.number {k = i} none is small) (Means.number {k = j} none' is' small') =
      means_same (λ v x. x) (λ v x. x) (let e : i + j ≡ _ = omega arith in e) (limited_means (i + j) (neither none none'))
  plus_means (Means.number none is small) (Means.over none' big) = Means.over (neither none none') (omega arith)
  plus_means (Means.over none big) (Means.faulty q low) = second-fault q low (λ v y. absurd (none v y))
  plus_means (Means.over none big) (Means.number none' is small) = Means.over (neither none none') (omega arith)
  plus_means (Means.over none big) (Means.over none' big') = Means.over (neither none none') (omega arith)

  -- Each of the one with each of the other are as many as the product.
  pub times_means : {n m : ℕ} {a b : Weight} → Means P n a → Means Q m b → Means (Or P Q) (n * m) (times a b)
  unfolding times
  times_means (Means.faulty p low) b = lower_means p low b
  times_means (Means.number none is small) (Means.faulty q low) = second-fault q low (λ v y. absurd (none v y))
  times_means {n} {m} (Means.number {k = i} none is small) (Means.number {k = j} none' is' small') =
      means_same (λ v x. x) (λ v x. x) (ap (λ x. x * j) (sym is) ∙ ap (λ x. n * x) (sym is')) (limited_means (i * j) (neither none none'))
  times_means {n} {m} (Means.number {k = i} none is small) (Means.over none' big) =
      means_same (λ v x. x) (λ v x. x) (ap (λ x. x * m) (sym is)) (often_means i m big (neither none none'))
  times_means (Means.over none big) (Means.faulty q low) = second-fault q low (λ v y. absurd (none v y))
  times_means {n} {m} (Means.over none big) (Means.number {k = j} none' is small) =
      means_same (λ v x. x) (λ v x. x) (mul_comm j n ∙ ap (λ x. n * x) (sym is)) (often_means j n big (neither none none'))
  times_means {n} {m} (Means.over none big) (Means.over none' big') = Means.over (neither none none') (at_least n m big big')
    where
      at_least : (n m : ℕ) → tree_limit ≤ n → tree_limit ≤ m → tree_limit ≤ n * m
      at_least zero m a b = absurd (omega arith)
      at_least (suc k) m a b = omega (arith, suc-mul k m)
