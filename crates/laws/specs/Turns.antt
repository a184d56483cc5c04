-- Something done again and again.
use Rattle.std.specs.Prelude.{Bool, true, false, ℕ, zero, suc, ◌+◌, ◌-◌}

-- `turn` for each number below `n`, in rising order.
unfoldable pub over : {S : Type 0} → ℕ → (ℕ → S → S) → S → S
over zero turn s = s
over (suc n) turn s = turn n (over n turn s)

-- `turn` for each number from `a` up to and without `b`, in rising order.
abbrev pub between : {S : Type 0} → ℕ → ℕ → (ℕ → S → S) → S → S
between a b turn s = over (b - a) (λ i. turn (a + i)) s

-- `turn` until `rests` holds, `n` times at the most.
unfoldable pub until : {S : Type 0} → ℕ → (S → Bool) → (S → S) → S → S
until zero rests turn s = s
until (suc n) rests turn s = elim (rests s) [ true ↦ s | false ↦ until n rests turn (turn s) ]
