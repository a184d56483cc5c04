-- A number in the fewest decimal digits, as ASCII codes.
use Rattle.std.specs.Prelude.{true, false, List, [], ◌∷◌, ◌++◌, ℕ, zero, suc, ◌+◌, ◌/◌, ◌%◌, ltb}

abbrev pub digit : ℕ → ℕ
digit d = 48 + d

-- The tens in decimal, if there are any, and behind them the last digit; in `rounds` rounds at the most.
unfoldable pub digits_in : ℕ → ℕ → List ℕ
digits_in zero n = []
digits_in (suc rounds) n = elim (ltb n 10) [ true ↦ digit n ∷ [] | false ↦ digits_in rounds (n / 10) ++ (digit (n % 10) ∷ []) ]

-- As many rounds as the number, and one, are always enough.
unfoldable pub decimal : ℕ → List ℕ
decimal n = digits_in (suc n) n
