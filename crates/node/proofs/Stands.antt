-- What it means that units stand at a position.
use Rattle.std.proofs.Common.{ℕ, zero, suc, ◌+◌, ◌*◌, ◌<◌, ◌≤◌, ◌≡◌, refl, sym, ap, ◌∙◌, Bool, true, false, List, [], ◌∷◌, add-zero, add_assoc, arith, length, get_or, ltb, eqb, ltb-true, eqb-true, lt-ltb, eq-eqb}
use Rattle.node.specs.Reading.{holds, stand_all, stand, value_at}
use Rattle.node.proofs.Choices.{Both, both_true}

-- A position that holds a unit is within the store, and the unit is there.
pub record Holds (s : List ℕ) (i u : ℕ) : Type 0 where
  pub within : i < length s
  pub there : get_or s i 0 ≡ u

pub held : (s : List ℕ) (i u : ℕ) → holds s i u ≡ true → Holds s i u
unfolding holds
held s i u e =
    let h : Both (ltb i (length s)) (eqb (get_or s i 0) u) = both_true _ _ e in
    record { within = ltb-true i (length s) h.first; there = eqb-true (get_or s i 0) u h.second }

pub hold : (s : List ℕ) (i u : ℕ) → i < length s → get_or s i 0 ≡ u → holds s i u ≡ true
unfolding holds
hold s i u h e = simp (lt-ltb i (length s) h, eq-eqb (get_or s i 0) u e)

-- The first of units that stand, and the others.
pub record First (s : List ℕ) (q u : ℕ) (us : List ℕ) : Type 0 where
  pub first : Holds s q u
  pub others : stand_all s (q + 1) us ≡ true

pub first-stands : (s : List ℕ) (q u : ℕ) (us : List ℕ) → stand_all s q (u ∷ us) ≡ true → First s q u us
unfolding stand_all
first-stands s q u us e =
    let h : Both (holds s q u) (stand_all s (q + 1) us) = both_true _ _ e in
    record { first = held s q u h.first; others = h.second }

-- Units stand where each is where it should be.
pub all-stand :
    (s : List ℕ) (q : ℕ) (us : List ℕ) → ((k : ℕ) → k < length us → Holds s (q + k) (get_or us k 0)) → stand_all s q us ≡ true
unfolding stand_all
all-stand s q [] h = refl
all-stand s q (u ∷ us) h =
    let z : Holds s (q + 0) u = h 0 (omega arith) in
    let e : q + 0 ≡ q = add-zero q in
    let here : holds s q u ≡ true = hold s q u (omega (arith, z.within)) (ap (λ i. get_or s i 0) (sym e) ∙ z.there) in
    rw here (all-stand s (q + 1) us (λ k b.
    let n : Holds s (q + suc k) (get_or us k 0) = h (suc k) (omega arith) in
    let f : q + suc k ≡ q + 1 + k = omega arith in
    record { within = omega (arith, n.within); there = ap (λ i. get_or s i 0) (sym f) ∙ n.there }))

-- Of units that stand, each is where it should be.
pub all_held :
    (s : List ℕ) (q : ℕ) (us : List ℕ) → stand_all s q us ≡ true → (k : ℕ) → k < length us → Holds s (q + k) (get_or us k 0)
all_held s q [] e k h = absurd (omega (arith, h))
all_held s q (u ∷ us) e zero h =
    let f : First s q u us = first-stands s q u us e in
    let z : q + 0 ≡ q = add-zero q in
    record { within = omega (arith, f.first.within); there = ap (λ i. get_or s i 0) z ∙ f.first.there }
all_held s q (u ∷ us) e (suc k) h =
    let f : First s q u us = first-stands s q u us e in
    let n : Holds s (q + 1 + k) (get_or us k 0) = all_held s (q + 1) us f.others k (omega arith) in
    let z : q + suc k ≡ q + 1 + k = omega arith in
    record { within = omega (arith, n.within); there = ap (λ i. get_or s i 0) z ∙ n.there }

-- A value of two units.
pub value_held :
    (s : List ℕ) (i l h : ℕ) → get_or s i 0 ≡ l → get_or s (i + 1) 0 ≡ h → value_at s i ≡ h * 65536 + l
unfolding value_at
value_held s i l h a b = rw (a, b)

-- Four units that stand: the head, the second, and a value of two units.
pub record Four (s : List ℕ) (q a b v : ℕ) : Type 0 where
  pub head : get_or s q 0 ≡ a
  pub second : get_or s (q + 1) 0 ≡ b
  pub value : value_at s (q + 2) ≡ v

pub four_stand :
    (s : List ℕ) (q a b c d : ℕ) (us : List ℕ) → stand_all s q (a ∷ b ∷ c ∷ d ∷ us) ≡ true → Four s q a b (d * 65536 + c)
four_stand s q a b c d us e =
    let at : (k : ℕ) → k < 4 + length us → Holds s (q + k) (get_or (a ∷ b ∷ c ∷ d ∷ us) k 0)
    = λ k h. all_held s q (a ∷ b ∷ c ∷ d ∷ us) e k (omega (arith, h)) in
    record {
      head = (first-stands s q a (b ∷ c ∷ d ∷ us) e).first.there;
      second = (at 1 (omega arith)).there;
      value = value_held s (q + 2) c d (at 2 (omega arith)).there
          (ap (λ i. get_or s i 0) (add_assoc q 2 1) ∙ (at 3 (omega arith)).there);
    }

-- The last two of six units that stand.
pub six_stand :
    (s : List ℕ) (q a b c d e f : ℕ) → stand_all s q (a ∷ b ∷ c ∷ d ∷ e ∷ f ∷ []) ≡ true → value_at s (q + 4) ≡ f * 65536 + e
six_stand s q a b c d e f st =
    let at : (k : ℕ) → k < 6 → Holds s (q + k) (get_or (a ∷ b ∷ c ∷ d ∷ e ∷ f ∷ []) k 0)
    = λ k h. all_held s q (a ∷ b ∷ c ∷ d ∷ e ∷ f ∷ []) st k (omega (arith, h)) in
    value_held s (q + 4) e f (at 4 (omega arith)).there
    (ap (λ i. get_or s i 0) (add_assoc q 4 1) ∙ (at 5 (omega arith)).there)

-- Units of which there is one at least stand where all of them do.
stand-some : (s : List ℕ) (q : ℕ) (us : List ℕ) → 0 < length us → stand s q us ≡ stand_all s q us
unfolding stand
stand-some s q [] some = absurd (omega (arith, some))
stand-some s q (u ∷ us) some = refl

-- They stand where each is in its place and there is room for them ..
pub stand-there :
    (s : List ℕ) (q : ℕ) (us : List ℕ) → 0 < length us → q + length us ≤ length s
    → ((k : ℕ) → k < length us → get_or s (q + k) 0 ≡ get_or us k 0) → stand s q us ≡ true
stand-there s q us some room there =
    stand-some s q us some ∙ all-stand s q us (λ k h. record { within = omega (arith, room, h); there = there k h })

-- .. and do not where one is not.
pub stand-not :
    (s : List ℕ) (q : ℕ) (us : List ℕ) (k : ℕ) → k < length us → (Holds s (q + k) (get_or us k 0) → ⊥) → stand s q us ≡ false
stand-not s q us k h not = on (stand s q us) refl
  where
    on : (t : Bool) → stand s q us ≡ t → t ≡ false
    on true e = absurd (not (all_held s q us (sym (stand-some s q us (omega (arith, h))) ∙ e) k h))
    on false e = refl
