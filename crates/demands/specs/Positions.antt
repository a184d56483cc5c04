-- What a call reads at one place of its input: a position, of one kind of token or of several.
use Rattle.std.specs.Prelude.{Bool, true, false, ◌&&◌, ◌||◌, List, [], ◌∷◌, ℕ, zero, suc, length, take, drop, ltb}
use Rattle.completion.specs.Complete.{predicted}
use Rattle.earley.specs.Positions.{Positions}

-- Some kind, strictly rising, the last below T, and so each.
unfoldable pub is_position : ℕ → List ℕ → Bool
is_position tokens [] = false
is_position tokens (t ∷ []) = ltb t tokens
is_position tokens (t ∷ u ∷ kinds) = ltb t u && is_position tokens (u ∷ kinds)

-- Some kind is predicted at set `e`.
unfoldable pub any_predicted : List ℕ → ℕ → List ℕ → Bool
any_predicted rows e [] = false
any_predicted rows e (t ∷ kinds) = predicted rows e t || any_predicted rows e kinds

-- The positions that words hold: how many kinds, then the kinds, position by position. One that the words cut off has no kind, and so is none.
unfoldable pub positions_from : ℕ → List ℕ → Positions
positions_from zero words = []
positions_from (suc n) [] = []
positions_from (suc n) (many ∷ words) =
    elim (ltb (length words) many) [
      | true ↦ [] ∷ []
      | false ↦ take many words ∷ positions_from n (drop many words)
    ]

-- Each position has at least one word of its own.
abbrev pub positions_in : List ℕ → Positions
positions_in words = positions_from (length words) words
