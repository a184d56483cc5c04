-- Warshall's order: after turn k a row holds what is reached through middle symbols below k. Over any width.
use mathlib.Core.Path.{◌≡◌, sym, ap, subst, ◌∙◌}
use mathlib.Core.Logic.{◌⊎◌, inl, inr, ⊎_elim}
use mathlib.Core.List.{List}
use Prim.Native.Nat.{ℕ, ◌+◌, ◌≤◌, ◌<◌}
use native.Mathlib.Decide.{ℕ_discrete, dec_lt}
use native.Mathlib.Omega.{arith}
use lib.ListN.{set}
use Rattle.laws.specs.Bits.{Holds, union}
use Rattle.laws.proofs.Bits.{union_left, union_right, union_one, union-row}
use Rattle.grammar.specs.Accepted.{max_symbols}
use Rattle.grammar.specs.Prediction.{row_at}
use Rattle.prediction.specs.inner.Tables.{Bit, Shape, Chain, Closed, LowRows, Lone}
use Rattle.prediction.proofs.Cells.{row_new, row_kept, shape-kept}

-- A chain of the seed's bits through middle symbols below `k`.
pub data Via (seed : List (List ℕ)) (k : ℕ) : ℕ → ℕ → Type 0 where
  link : {x y : ℕ} → Bit seed x y → Via seed k x y
  join : {x m y : ℕ} → m < k → Via seed k x m → Via seed k m y → Via seed k x y

-- Before turn `k`.
pub record Level (width : ℕ) (seed : List (List ℕ)) (k : ℕ) (table : List (List ℕ)) : Type 0 where
  pub shape : Shape width table
  pub sound : (x y : ℕ) → Bit table x y → Via seed k x y
  pub complete : (x y : ℕ) → Via seed k x y → Bit table x y

-- InTurn turn `k`, before row `i`.
pub record InTurn (width : ℕ) (seed : List (List ℕ)) (k i : ℕ) (table : List (List ℕ)) : Type 0 where
  pub shape : Shape width table
  pub past_sound : (x y : ℕ) → x < i → Bit table x y → Via seed (k + 1) x y
  pub past_complete : (x y : ℕ) → x < i → Via seed (k + 1) x y → Bit table x y
  pub sound : (x y : ℕ) → i ≤ x → Bit table x y → Via seed k x y
  pub complete : (x y : ℕ) → i ≤ x → Via seed k x y → Bit table x y

module _ (width : ℕ) (seed : List (List ℕ)) where
  -- More middle symbols do no harm.
  widen : {k x y : ℕ} → Via seed k x y → Via seed (k + 1) x y
  widen (link b) = link b
  widen (join {m = m} l p q) = join {m = m} (omega arith) (widen p) (widen q)

  -- A chain through symbols up to `k` passes below `k`, or goes to `k` and on from `k`.
  pub record Through (k x y : ℕ) : Type 0 where
    pub to : Via seed k x k
    pub on : Via seed k k y

  merge : (k x m y : ℕ) → m < k + 1 → Via seed k x m ⊎ Through k x m → Via seed k m y ⊎ Through k m y → Via seed k x y ⊎ Through k x y
  merge k x m y l (inl p) (inl q) = elim (ℕ_discrete m k) [
    | yes e ↦ inr (record { to = subst (Via seed k x) e p; on = subst (λ (z : ℕ). Via seed k z y) e q })
    | no n ↦ inl (join {m = m} (omega arith) p q)
  ]
  merge k x m y l (inl p) (inr t) = elim (ℕ_discrete m k) [
    | yes e ↦ inr (record { to = subst (Via seed k x) e p; on = t.on })
    | no n ↦ inr (record { to = join {m = m} (omega arith) p t.to; on = t.on })
  ]
  merge k x m y l (inr s) (inl q) = elim (ℕ_discrete m k) [
    | yes e ↦ inr (record { to = s.to; on = subst (λ (z : ℕ). Via seed k z y) e q })
    | no n ↦ inr (record { to = s.to; on = join {m = m} (omega arith) s.on q })
  ]
  merge k x m y l (inr s) (inr t) = inr (record { to = s.to; on = t.on })

  pub narrow : {k x y : ℕ} → Via seed (k + 1) x y → Via seed k x y ⊎ Through k x y
  narrow (link b) = inl (link b)
  narrow {k} {x} {y} (join {m = m} l p q) = merge k x m y l (narrow p) (narrow q)

  -- Chains start at low symbols where bits do.
  via_low : {n k x y : ℕ} → LowRows n seed → Via seed k x y → x < n
  via_low h (link {x = x} {y = y} b) = h.low x y b
  via_low h (join l p q) = via_low h p

  -- From a lone row a chain leads nowhere.
  lone_bit : {from k x y : ℕ} → Lone from seed → Via seed k x y → x < from → Bit seed x y
  lone_bit h (link b) l = b
  lone_bit {from} {k} {x} {y} h (join {m = m} before p q) l =
      let to : Bit seed x m = lone_bit h p l in
      let is : m ≡ x = h.alone x m l to in
      subst (λ (z : ℕ). Bit seed z y) is (lone_bit h q (subst (λ (z : ℕ). z < from) (sym is) l))

  -- Where the rows below `from` are lone, the seed is the level before turn `from`.
  pub level_seed : (from : ℕ) → Shape width seed → Lone from seed → Level width seed from seed
  level_seed from h lone = record { shape = h; sound = λ x y b. link b; complete = λ x y v. back v }
    where
      back : {x y : ℕ} → Via seed from x y → Bit seed x y
      back (link b) = b
      back {x} {y} (join {m = m} l p q) = subst (λ (z : ℕ). Bit seed x z) (sym (lone.alone m y l (back q))) (back p)

  -- A turn begins behind them, and ends.
  pub turn-begins : (from k : ℕ) (table : List (List ℕ)) → Lone from seed → Level width seed k table → InTurn width seed k from table
  turn-begins from k table lone h = record {
    shape = h.shape;
    past_sound = λ x y l b. widen (h.sound x y b);
    past_complete = λ x y l v. h.complete x y (link (lone_bit lone v l));
    sound = λ x y l. h.sound x y;
    complete = λ x y l. h.complete x y;
  }

  pub turn-ends : (n k i : ℕ) (table : List (List ℕ)) → LowRows n seed → InTurn width seed k i table → n ≤ i → Level width seed (k + 1) table
  turn-ends n k i table low h l = record {
    shape = h.shape;
    sound = λ x y b. elim (dec_lt x i) [ yes m ↦ h.past_sound x y m b | no g ↦ widen (h.sound x y (omega arith) b) ];
    complete = λ x y v. h.past_complete x y (let m : x < n = via_low low v in omega arith) v;
  }

  -- What row `k` holds during turn `k`.
  pivot_sound : (k i : ℕ) (table : List (List ℕ)) (y : ℕ) → InTurn width seed k i table → Bit table k y → Via seed (k + 1) k y
  pivot_sound k i table y h b = elim (dec_lt k i) [ yes m ↦ h.past_sound k y m b | no g ↦ widen (h.sound k y (omega arith) b) ]

  pivot_complete : (k i : ℕ) (table : List (List ℕ)) (y : ℕ) → InTurn width seed k i table → Via seed k k y → Bit table k y
  pivot_complete k i table y h v = elim (dec_lt k i) [ yes m ↦ h.past_complete k y m (widen v) | no g ↦ h.complete k y (omega arith) v ]

  -- A row that lacks `k` is passed.
  pub row_passed : (k i : ℕ) (table : List (List ℕ)) → InTurn width seed k i table → (Bit table i k → ⊥) → InTurn width seed k (i + 1) table
  row_passed k i table h lacks = record {
    shape = h.shape;
    past_sound = λ x y l b. elim (dec_lt x i) [ yes m ↦ h.past_sound x y m b | no g ↦ widen (h.sound x y (omega arith) b) ];
    past_complete = λ x y l v. elim (dec_lt x i) [ yes m ↦ h.past_complete x y m v | no g ↦ at x y (omega arith) (narrow v) ];
    sound = λ x y l. h.sound x y (omega arith);
    complete = λ x y l. h.complete x y (omega arith);
  }
    where
      at : (x y : ℕ) → x ≡ i → Via seed k x y ⊎ Through k x y → Bit table x y
      at x y e (inl v) = h.complete x y (omega arith) v
      at x y e (inr t) = absurd (lacks (h.complete i k (omega arith) (subst (λ (z : ℕ). Via seed k z k) e t.to)))

  joined-row : (k i : ℕ) (table : List (List ℕ)) → InTurn width seed k i table → i < max_symbols → k < max_symbols → Bit table i k
      → InTurn width seed k (i + 1) (set table i (union (row_at table i) (row_at table k)))
  joined-row k i table h li lk holds = record {
    shape = shape-kept table i both width h.shape (union-row width (row_at table i) (row_at table k) (h.shape.row i li) (h.shape.row k lk));
    past_sound = λ x y l b. elim (ℕ_discrete x i) [
      | yes e ↦ subst (λ (z : ℕ). Via seed (k + 1) z y) (sym e)
          (⊎_elim (λ (p : Bit table i y). widen (h.sound i y (omega arith) p))
          (λ (p : Bit table k y). join {m = k} (omega arith) (widen (h.sound i k (omega arith) holds)) (pivot_sound k i table y h p))
          (union_one (row_at table i) (row_at table k) y (subst (λ (r : List ℕ). Holds r y) (ap (row_at joined) e ∙ new) b)))
      | no n ↦ h.past_sound x y (lower x l n) (old x y n b)
    ];
    past_complete = λ x y l v. elim (ℕ_discrete x i) [
      | yes e ↦ subst (λ (r : List ℕ). Holds r y) (sym (ap (row_at joined) e ∙ new)) (at y (narrow (subst (λ (z : ℕ). Via seed (k + 1) z y) e v)))
      | no n ↦ kept x y n (h.past_complete x y (lower x l n) v)
    ];
    sound = λ x y l b. h.sound x y (omega arith) (old x y (apart x l) b);
    complete = λ x y l v. kept x y (apart x l) (h.complete x y (omega arith) v);
  }
    where
      both : List ℕ
      both = union (row_at table i) (row_at table k)

      joined : List (List ℕ)
      joined = set table i both

      new : row_at joined i ≡ both
      new = row_new table i both (omega (arith, h.shape.rows))

      lower : (x : ℕ) → x < i + 1 → (x ≡ i → ⊥) → x < i
      lower x l n = omega arith

      apart : (x : ℕ) → i + 1 ≤ x → x ≡ i → ⊥
      apart x l e = omega arith

      old : (x y : ℕ) → (x ≡ i → ⊥) → Bit joined x y → Bit table x y
      old x y n b = subst (λ (r : List ℕ). Holds r y) (row_kept table i both x n) b

      kept : (x y : ℕ) → (x ≡ i → ⊥) → Bit table x y → Bit joined x y
      kept x y n b = subst (λ (r : List ℕ). Holds r y) (sym (row_kept table i both x n)) b

      at : (y : ℕ) → Via seed k i y ⊎ Through k i y → Holds both y
      at y (inl v) = union_left (row_at table i) (row_at table k) y (h.complete i y (omega arith) v)
      at y (inr t) = union_right (row_at table i) (row_at table k) y (pivot_complete k i table y h t.on)

  -- A row that holds `k` takes in row `k`.
  pub row-joined : (k i : ℕ) (table : List (List ℕ)) (row : List ℕ) → row ≡ union (row_at table i) (row_at table k) → InTurn width seed k i table
      → i < max_symbols → k < max_symbols → Bit table i k → InTurn width seed k (i + 1) (set table i row)
  row-joined k i table row e h li lk holds = subst (λ (r : List ℕ). InTurn width seed k (i + 1) (set table i r)) (sym e) (joined-row k i table h li lk holds)

  -- After the last turn every chain is there.
  chained : {k x y : ℕ} → Via seed k x y → Chain seed x y
  chained (link b) = Chain.link b
  chained (join l p q) = Chain.join (chained p) (chained q)

  pub closed : (n k : ℕ) (table : List (List ℕ)) → LowRows n seed → Level width seed k table → n ≤ k → Closed width seed table
  closed n k table low h l = record {
    shape = h.shape;
    no_more = λ x y b. chained (h.sound x y b);
    all = λ x y c. h.complete x y (via c);
  }
    where
      via : {x y : ℕ} → Chain seed x y → Via seed k x y
      via (Chain.link b) = link b
      via (Chain.join {m = m} p q) = join {m = m} (let s : m < n = via_low low (via q) in omega arith) (via p) (via q)
