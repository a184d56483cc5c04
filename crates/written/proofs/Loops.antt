-- A finite set in which everything has a predecessor has a loop.
use mathlib.Core.List.{List, [], ◌∷◌}
use Prim.Native.Nat.{ℕ}
use Rattle.written.specs.Lists.{In}
use Rattle.written.specs.Lists.In.{here, there}

module _ (R : ℕ → ℕ → Type 0) where
  -- Something of the list leads to `b`.
  pub record Led (l : List ℕ) (b : ℕ) : Type 0 where
    pub from : ℕ
    pub within : In from l
    pub leads : R from b

  pub record Loop : Type 0 where
    pub at : ℕ
    pub loops : R at at

  module _ (on : (x y z : ℕ) → R x y → R y z → R x z) where
    -- One element less: what led to it leads where it led.
    around : (y : ℕ) (l : List ℕ) (c : ℕ) → In c l → R c y → (b f : ℕ) → In f (y ∷ l) → R f b → Led l b
    around y l c i p b f here q = record { from = c; within = i; leads = on c y b p q }
    around y l c i p b f (there j) q = record { from = f; within = j; leads = q }

    step : (y : ℕ) (l : List ℕ) → ((b : ℕ) → In b l → Led (y ∷ l) b) → ((f : ℕ) → In f l → ((b : ℕ) → In b l → Led l b) → Loop) → (f : ℕ) → In f (y ∷ l) → R f y → Loop
    step y l led go f here p = record { at = y; loops = p }
    step y l led go f (there j) p = go f j (λ b k. around y l f j p b (led b k).from (led b k).within (led b k).leads)

    -- A list in which everything is led to by something of the list has a loop.
    pub has_loop : (l : List ℕ) (x : ℕ) → In x l → ((b : ℕ) → In b l → Led l b) → Loop
    has_loop [] x i led = elim i [ ]
    has_loop (y ∷ l) x i led = step y l (λ b k. led b (there k)) (λ f j h. has_loop l f j h) (led y here).from (led y here).within (led y here).leads
