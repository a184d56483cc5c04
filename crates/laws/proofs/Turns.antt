-- Laws on something done again and again.
use mathlib.Core.Path.{◌≡◌, refl, sym, ap, ◌∙◌, subst}
use mathlib.Core.Bool.{Bool, true, false}
use Prim.Native.Nat.{ℕ, zero, suc, ◌+◌, ◌≤◌, ◌<◌}
use native.Mathlib.Nat.{add-zero}
use native.Mathlib.Numerals.{add-one}
use native.Mathlib.Omega.{arith}
use Rattle.laws.specs.Turns.{over, until}

module _ {S : Type 0} where
  -- One number more is one turn more.
  pub over-more : (n : ℕ) (turn : ℕ → S → S) (s : S) → over (n + 1) turn s ≡ turn n (over n turn s)
  unfolding over
  over-more n turn s = ap (λ (k : ℕ). over k turn s) (add-one n)

  -- One turn more, of what came of the turns before.
  pub over-next : (n : ℕ) (turn : ℕ → S → S) (s now next : S) → now ≡ over n turn s → next ≡ turn n now → next ≡ over (n + 1) turn s
  over-next n turn s now next before step = step ∙ ap (turn n) before ∙ sym (over-more n turn s)

  -- No turn yet.
  pub over_none : (turn : ℕ → S → S) (s : S) → s ≡ over 0 turn s
  unfolding over
  over_none turn s = refl

  -- What each turn keeps all turns keep.
  pub over-keeps : (P : S → Type 0) (n : ℕ) (turn : ℕ → S → S) → ((i : ℕ) (s : S) → i < n → P s → P (turn i s)) → (s : S) → P s
      → P (over n turn s)
  unfolding over
  over-keeps P zero turn keeps s p = p
  over-keeps P (suc n) turn keeps s p =
      keeps n (over n turn s) (omega arith) (over-keeps P n turn (λ i s h. keeps i s (omega arith)) s p)

  -- Turns that do the same on what is kept do the same together.
  pub over-same : (P : S → Type 0) (n : ℕ) (f g : ℕ → S → S) → ((i : ℕ) (s : S) → i < n → P s → P (f i s))
      → ((i : ℕ) (s : S) → i < n → P s → f i s ≡ g i s) → (s : S) → P s → over n f s ≡ over n g s
  unfolding over
  over-same P zero f g keeps same s p = refl
  over-same P (suc n) f g keeps same s p =
      let before : over n f s ≡ over n g s = over-same P n f g (λ i s h. keeps i s (omega arith)) (λ i s h. same i s (omega arith)) s p in
      same n (over n f s) (omega arith) (over-keeps P n f (λ i s h. keeps i s (omega arith)) s p) ∙ ap (g n) before

  -- Turns that change nothing.
  pub over_still : (P : S → Type 0) (n : ℕ) (turn : ℕ → S → S) → ((i : ℕ) (s : S) → i < n → P s → turn i s ≡ s) → (s : S) → P s
      → over n turn s ≡ s
  unfolding over
  over_still P zero turn still s p = refl
  over_still P (suc n) turn still s p =
      let before : over n turn s ≡ s = over_still P n turn (λ i s h. still i s (omega arith)) s p in
      ap (turn n) before ∙ still n s (omega arith) p

  -- A stretch of turns, and the stretch behind it.
  pub over-split : (n m : ℕ) (turn : ℕ → S → S) (s : S) → over (n + m) turn s ≡ over m (λ i. turn (n + i)) (over n turn s)
  unfolding over
  over-split n zero turn s = ap (λ (k : ℕ). over k turn s) (add-zero n)
  over-split n (suc m) turn s =
      let at : n + suc m ≡ suc (n + m) = omega arith in
      ap (λ (k : ℕ). over k turn s) at ∙ ap (turn (n + m)) (over-split n m turn s)

  module _ (rests : S → Bool) (turn : S → S) where
    -- Where it rests nothing is done.
    pub until-rests : (n : ℕ) (s : S) → rests s ≡ true → until n rests turn s ≡ s
    unfolding until
    until-rests zero s r = refl
    until-rests (suc n) s r = rw (until, r) refl

    -- Where it does not rest a turn is done.
    pub until_turns : (n : ℕ) (s : S) → rests s ≡ false → until (suc n) rests turn s ≡ until n rests turn (turn s)
    unfolding until
    until_turns n s r = rw (until, r) refl

    -- Either it rests, or a turn is done.
    pub until_cases : (P : S → Type 0) (n : ℕ) (s : S) → (rests s ≡ true → P s) → (rests s ≡ false → P (until n rests turn (turn s)))
        → P (until (suc n) rests turn s)
    until_cases P n s at_rest on = by_rest (rests s) refl
      where
        by_rest : (b : Bool) → rests s ≡ b → P (until (suc n) rests turn s)
        by_rest true r = subst P (sym (until-rests (suc n) s r)) (at_rest r)
        by_rest false r = subst P (sym (until_turns n s r)) (on r)

    -- What each turn keeps all turns keep.
    pub until-keeps : (P : S → Type 0) → ((s : S) → rests s ≡ false → P s → P (turn s)) → (n : ℕ) (s : S) → P s → P (until n rests turn s)
    unfolding until
    until-keeps P keeps zero s p = p
    until-keeps P keeps (suc n) s p = until_cases P n s (λ r. p) (λ r. until-keeps P keeps n (turn s) (keeps s r p))

    -- Where a number falls with each turn, as many turns as it says are enough: it rests then.
    pub until-ends : (P : S → Type 0) (left : S → ℕ) → ((s : S) → rests s ≡ false → P s → P (turn s))
        → ((s : S) → rests s ≡ false → P s → left (turn s) < left s) → (n : ℕ) (s : S) → P s → left s ≤ n
        → rests (until n rests turn s) ≡ true
    unfolding until
    until-ends P left keeps falls zero s p few = by_rest (rests s) refl
      where
        by_rest : (b : Bool) → rests s ≡ b → rests s ≡ true
        by_rest true r = r
        by_rest false r = absurd (let less : left (turn s) < left s = falls s r p in omega arith)
    until-ends P left keeps falls (suc n) s p few =
        until_cases (λ (u : S). rests u ≡ true) n s (λ r. r)
        (λ r. until-ends P left keeps falls n (turn s) (keeps s r p) (let less : left (turn s) < left s = falls s r p in omega arith))

    -- More turns than are enough give no other result.
    pub until-enough : (P : S → Type 0) (left : S → ℕ) → ((s : S) → rests s ≡ false → P s → P (turn s))
        → ((s : S) → rests s ≡ false → P s → left (turn s) < left s) → (n m : ℕ) (s : S) → P s → left s ≤ n → left s ≤ m
        → until n rests turn s ≡ until m rests turn s
    unfolding until
    until-enough P left keeps falls zero m s p few few' = sym (until-rests m s (until-ends P left keeps falls zero s p few))
    until-enough P left keeps falls (suc n) zero s p few few' = until-rests (suc n) s (until-ends P left keeps falls zero s p few')
    until-enough P left keeps falls (suc n) (suc m) s p few few' = by_rest (rests s) refl
        (λ r.
        let less : left (turn s) < left s = falls s r p in
        until-enough P left keeps falls n m (turn s) (keeps s r p) (omega arith) (omega arith))
      where
        by_rest : (b : Bool) → rests s ≡ b → (rests s ≡ false → until n rests turn (turn s) ≡ until m rests turn (turn s))
            → until (suc n) rests turn s ≡ until (suc m) rests turn s
        by_rest true r same = until-rests (suc n) s r ∙ sym (until-rests (suc m) s r)
        by_rest false r same = until_turns n s r ∙ same r ∙ sym (until_turns m s r)

-- What turn `i` takes from `P i` to `P (i + 1)` all turns take from `P 0` to `P n`.
pub over_goes : {S : Type 0} (P : ℕ → S → Type 0) (n : ℕ) (turn : ℕ → S → S) → ((i : ℕ) (s : S) → i < n → P i s → P (suc i) (turn i s)) → (s : S) → P 0 s
    → P n (over n turn s)
unfolding over
over_goes P zero turn goes s p = p
over_goes P (suc n) turn goes s p = goes n (over n turn s) (omega arith) (over_goes P n turn (λ i s h. goes i s (omega arith)) s p)
