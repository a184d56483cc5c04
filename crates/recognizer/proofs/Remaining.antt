-- What a run still has to read: tokens, each alone, or the positions that words hold.
use mathlib.Core.Path.{◌≡◌, refl, ap, ◌∙◌}
use mathlib.Core.Bool.{Bool, true, false}
use mathlib.Core.List.{List, [], ◌∷◌}
use Prim.Native.Nat.{ℕ, zero, suc, ◌≤◌, ◌<◌}
use native.Mathlib.Omega.{arith}
use lib.ListN.{length, get_or, take, drop, length-drop}
use lib.Dec.{ltb}
use borrow.Author.Tests.{lt-ltb, le-ltb}
use Rattle.earley.specs.Positions.{Positions, plain}
use Rattle.demands.specs.Positions.{positions_from, positions_in}

-- As many turns as there are words are enough to read the positions in them.
enough : (n m : ℕ) (words : List ℕ) → length words ≤ n → length words ≤ m → positions_from n words ≡ positions_from m words
unfolding positions_from
enough zero zero words few few' = refl
enough zero (suc m) [] few few' = refl
enough zero (suc m) (many ∷ words) few few' = absurd (omega arith)
enough (suc n) zero [] few few' = refl
enough (suc n) zero (many ∷ words) few few' = absurd (omega arith)
enough (suc n) (suc m) [] few few' = refl
enough (suc n) (suc m) (many ∷ words) few few' =
    ap (λ (rest : Positions). elim (ltb (length words) many) [ true ↦ [] ∷ [] | false ↦ take many words ∷ rest ])
    (enough n m (drop many words) (omega (arith, length-drop many words)) (omega (arith, length-drop many words)))

-- Where there is no word there is no position.
pub no_positions : (words : List ℕ) → length words ≡ 0 → positions_in words ≡ []
unfolding positions_from
no_positions [] none = refl
no_positions (many ∷ words) none = absurd (omega (arith, none))

module _ (many : ℕ) (rest : List ℕ) where
  abbrev by : Bool → Positions
  by cut = elim cut [ true ↦ [] ∷ [] | false ↦ take many rest ∷ positions_from (length rest) (drop many rest) ]

  by_fit : positions_in (many ∷ rest) ≡ by (ltb (length rest) many)
  unfolding positions_from
  by_fit = refl

-- A position that the words cut off has no kind, and is the last.
pub position-cut : (words : List ℕ) → 0 < length words → length (drop 1 words) < get_or words 0 0 → positions_in words ≡ [] ∷ []
position-cut [] some short = absurd (omega (arith, some))
position-cut (many ∷ rest) some short = by_fit many rest ∙ ap (by many rest) (lt-ltb (length rest) many short)

-- One that they hold whole has its kinds, and the words behind them hold the others.
pub position-next : (words : List ℕ) → 0 < length words → get_or words 0 0 ≤ length (drop 1 words)
    → positions_in words ≡ take (get_or words 0 0) (drop 1 words) ∷ positions_in (drop (get_or words 0 0) (drop 1 words))
position-next [] some whole = absurd (omega (arith, some))
position-next (many ∷ rest) some whole =
    by_fit many rest ∙ ap (by many rest) (le-ltb (length rest) many whole)
    ∙ ap (λ (others : Positions). take many rest ∷ others)
    (enough (length rest) (length (drop many rest)) (drop many rest) (omega (arith, length-drop many rest)) (omega arith))

-- There are no more positions than words.
few : (n many : ℕ) (rest : List ℕ) (cut : Bool) → length (positions_from n (drop many rest)) ≤ n
    → length {A = List ℕ} (elim cut [ true ↦ [] ∷ [] | false ↦ take many rest ∷ positions_from n (drop many rest) ]) ≤ suc n
few n many rest true low = omega (arith)
few n many rest false low = omega (arith, low)

pub few_positions : (n : ℕ) (words : List ℕ) → length (positions_from n words) ≤ n
unfolding positions_from
few_positions zero words = omega arith
few_positions (suc n) [] = omega arith
few_positions (suc n) (many ∷ words) = few n many words (ltb (length words) many) (few_positions n (drop many words))

pub few_tokens : (ts : List ℕ) → length (plain ts) ≡ length ts
few_tokens [] = refl
few_tokens (t ∷ ts) = ap suc (few_tokens ts)
