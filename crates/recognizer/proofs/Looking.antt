-- What the library's methods answer of the kinds of a position.
use Rattle.std.proofs.Common.{◌≡◌, refl, ap, subst, ◌∙◌, Bool, true, false, ◌&&◌, ◌||◌, List, [], ◌∷◌, ℕ, zero, suc, ◌+◌, ◌-◌, ◌<◌, length, arith, slice_index_or, Some, ◌≤◌}
use Rattle.std.specs.List.{slice_get, list_any}
use lib.Dec.{ltb}
use Rattle.completion.specs.Complete.{predicted}
use Rattle.demands.specs.Positions.{is_position, any_predicted}

-- No kind is no position.
pub no_kind : (tokens : ℕ) (kinds : List ℕ) → length kinds ≤ 0 → false ≡ is_position tokens kinds
unfolding is_position
no_kind tokens [] none = refl
no_kind tokens (t ∷ kinds) none = let never : ⊥ = omega (arith, none) in elim never [ ]

-- Kinds of which one is not below the next are no position.
pub falls_somewhere : (tokens : ℕ) (kinds : List ℕ) (k : ℕ) → k + 1 < length kinds → ((d : ℕ) → false ≡ ltb (slice_index_or kinds k d) (slice_index_or kinds (k + 1) d)) → false ≡ is_position tokens kinds
unfolding is_position
falls_somewhere tokens [] k there low = let none : ⊥ = omega (arith, there) in elim none [ ]
falls_somewhere tokens (t ∷ []) k there low = let none : ⊥ = omega (arith, there) in elim none [ ]
falls_somewhere tokens (t ∷ u ∷ kinds) zero there low = ap (λ (b : Bool). b && is_position tokens (u ∷ kinds)) (low 0)
falls_somewhere tokens (t ∷ u ∷ kinds) (suc k) there low =
    no_more (ltb t u) ∙ ap (λ (b : Bool). ltb t u && b) (falls_somewhere tokens (u ∷ kinds) k (omega (arith, there)) behind)
  where
    next : suc k + 1 ≡ suc (k + 1)
    next = omega arith

    behind : (d : ℕ) → false ≡ ltb (slice_index_or (u ∷ kinds) k d) (slice_index_or (u ∷ kinds) (k + 1) d)
    behind d = subst (λ (n : ℕ). false ≡ ltb (slice_index_or (u ∷ kinds) k d) (slice_index_or (t ∷ u ∷ kinds) n d)) next (low d)

    no_more : (b : Bool) → false ≡ (b && false)
    no_more true = refl
    no_more false = refl

-- Where each is below the next, the last one decides.
pub rises_all : (tokens last : ℕ) (kinds : List ℕ) → slice_get kinds (length kinds - 1) ≡ Some last
    → ((k d : ℕ) → k + 1 < length kinds → true ≡ ltb (slice_index_or kinds k d) (slice_index_or kinds (k + 1) d)) → ltb last tokens ≡ is_position tokens kinds
unfolding is_position
rises_all tokens last [] is up = cc
rises_all tokens last (t ∷ []) is up = cc
rises_all tokens last (t ∷ u ∷ kinds) is up =
    rises_all tokens last (u ∷ kinds) (subst (λ (n : ℕ). slice_get (t ∷ u ∷ kinds) n ≡ Some last) end is)
    (λ k d there. let next : suc k + 1 ≡ suc (k + 1) = omega arith in subst (λ (n : ℕ). true ≡ ltb (slice_index_or (u ∷ kinds) k d) (slice_index_or (t ∷ u ∷ kinds) n d)) next (up (suc k) d (omega (arith, there)))) ∙ ap (λ (b : Bool). b && is_position tokens (u ∷ kinds)) (up 0 0 (omega arith))
  where
    end : suc (suc (length kinds)) - 1 ≡ suc (suc (length kinds) - 1)
    end = omega arith

-- Some kind of a list is predicted where the test holds of one of them.
pub any_listed : (rows : List ℕ) (e : ℕ) (kinds : List ℕ) → list_any (predicted rows e) kinds ≡ any_predicted rows e kinds
unfolding any_predicted
any_listed rows e [] = refl
any_listed rows e (t ∷ kinds) = ap (λ (b : Bool). predicted rows e t || b) (any_listed rows e kinds)
