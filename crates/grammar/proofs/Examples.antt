-- What follows each symbol of grammar A: W 4, end mark 5; rules 4::=2 5, 2::=2 3, 2::=0, 3::=1 2.
use mathlib.Core.Path.{◌≡◌, refl, sym, subst}
use mathlib.Core.List.Memᴰ.{head as first}
use mathlib.Core.List.Memᴰ.{tail as later}
use mathlib.Core.List.{List, [], ◌∷◌, Memᴰ as Member}
use mathlib.Core.Logic.{◌⊎◌, inl, inr, ◌↔◌}
use Prim.Native.Nat.{ℕ, zero, suc}
use native.Mathlib.Omega.{arith}
use lib.ListN.{get_or}
use Rattle.grammar.specs.Rules.{Rule, Grammar, Says, none}
use Rattle.grammar.specs.Prediction.{Reaches}
use Rattle.grammar.specs.Prediction.Reaches.{here, by_first}
use Rattle.grammar.specs.Following.{Follows}
use Rattle.grammar.specs.Following.Follows.{beside, last, only}

abbrev rule : ℕ → ℕ → ℕ → Rule
rule a b c = record { left = a; first = b; second = c }

abbrev pub grammar_a : Grammar
grammar_a = record { symbols = 6; tokens = 2; rules = rule 4 2 5 ∷ rule 2 2 3 ∷ rule 2 0 none ∷ rule 3 1 2 ∷ [] }

-- The follow table of grammar A, row by row. Of tokens and the end it has: 1 5 | 0 | 1 5 | 1 5 | nothing | nothing.
abbrev pub followers_a : List (List ℕ)
followers_a = (1 ∷ 3 ∷ 5 ∷ []) ∷ (0 ∷ 2 ∷ []) ∷ (1 ∷ 3 ∷ 5 ∷ []) ∷ (1 ∷ 3 ∷ 5 ∷ []) ∷ [] ∷ [] ∷ []

-- What first symbols reach, beside the symbol itself.
abbrev begins_a : List (List ℕ)
begins_a = [] ∷ [] ∷ (0 ∷ []) ∷ (1 ∷ []) ∷ (0 ∷ 2 ∷ []) ∷ [] ∷ []

abbrev Begins : ℕ → ℕ → Type 0
Begins x y = (y ≡ x) ⊎ Member y (get_or begins_a x [])

-- What holds of the four rules holds of every rule.
by_rule : (P : ℕ → ℕ → ℕ → Type 0) → P 4 2 5 → P 2 2 3 → P 2 0 none → P 3 1 2 → {r a b c : ℕ} → Says grammar_a r a b c → P a b c
by_rule P p q s t {r} {a} {b} {c} h = said r h
  where
    moved : {x y z : ℕ} → x ≡ a → y ≡ b → z ≡ c → P x y z → P a b c
    moved {x} {y} {z} e f g v = subst (P a b) g (subst (λ (k : ℕ). P a k z) f (subst (λ (k : ℕ). P k y z) e v))

    said : (r : ℕ) → Says grammar_a r a b c → P a b c
    said zero h = moved h.left h.first h.second p
    said (suc zero) h = moved h.left h.first h.second q
    said (suc (suc zero)) h = moved h.left h.first h.second s
    said (suc (suc (suc zero))) h = moved h.left h.first h.second t
    said (suc (suc (suc (suc r)))) h = absurd (let l = h.there in omega arith)

reached : {x y : ℕ} → Reaches grammar_a x y → Begins x y
reached here = inl refl
reached {y = y} (by_first h p) = by_rule (λ a b c. Begins b y → Begins a y) outer (λ m. m) number plus h (reached p)
  where
    outer : Begins 2 y → Begins 4 y
    outer (inl e) = inr (later (first e))
    outer (inr (first e)) = inr (first e)
    outer (inr (later m)) = elim m [ ]

    number : Begins 0 y → Begins 2 y
    number (inl e) = inr (first e)
    number (inr m) = elim m [ ]

    plus : Begins 1 y → Begins 3 y
    plus (inl e) = inr (first e)
    plus (inr m) = elim m [ ]

abbrev Listed : ℕ → ℕ → Type 0
Listed x y = Member y (get_or followers_a x [])

-- Nothing else follows.
no_more : {x y : ℕ} → Follows grammar_a x y → Listed x y
no_more {y = y} (beside h n p) = by_rule (λ a x z. (z ≡ none → ⊥) → Begins z y → Listed x y) end more (λ n m. absurd (n refl)) sum h n (reached p)
  where
    end : (5 ≡ none → ⊥) → Begins 5 y → Listed 2 y
    end n (inl e) = later (later (first e))
    end n (inr m) = elim m [ ]

    more : (3 ≡ none → ⊥) → Begins 3 y → Listed 2 y
    more n (inl e) = later (first e)
    more n (inr (first e)) = first e
    more n (inr (later m)) = elim m [ ]

    sum : (2 ≡ none → ⊥) → Begins 2 y → Listed 1 y
    sum n (inl e) = later (first e)
    sum n (inr (first e)) = first e
    sum n (inr (later m)) = elim m [ ]
no_more {y = y} (last h n p) = by_rule (λ a b x. (x ≡ none → ⊥) → Listed a y → Listed x y) end (λ n m. m) (λ n m. absurd (n refl)) (λ n m. m) h n (no_more p)
  where
    end : (5 ≡ none → ⊥) → Listed 4 y → Listed 5 y
    end n m = m
no_more {y = y} (only h p) = by_rule (λ a x z. z ≡ none → Listed a y → Listed x y) (λ e m. absurd (omega arith)) (λ e m. absurd (omega arith)) (λ e m. m) (λ e m. absurd (omega arith)) h refl (no_more p)

-- The rules.
sum-end : Says grammar_a 0 4 2 5
sum-end = record { there = omega arith; left = refl; first = refl; second = refl }

sum_more : Says grammar_a 1 2 2 3
sum_more = record { there = omega arith; left = refl; first = refl; second = refl }

number : Says grammar_a 2 2 0 none
number = record { there = omega arith; left = refl; first = refl; second = refl }

plus-sum : Says grammar_a 3 3 1 2
plus-sum = record { there = omega arith; left = refl; first = refl; second = refl }

-- All of these follow.
behind_sum : {y : ℕ} → Member y (1 ∷ 3 ∷ 5 ∷ []) → Follows grammar_a 2 y
behind_sum (first e) = subst (Follows grammar_a 2) (sym e) (beside sum_more (omega arith) (by_first plus-sum here))
behind_sum (later (first e)) = subst (Follows grammar_a 2) (sym e) (beside sum_more (omega arith) here)
behind_sum (later (later (first e))) = subst (Follows grammar_a 2) (sym e) (beside sum-end (omega arith) here)
behind_sum (later (later (later m))) = elim m [ ]

nobody : {y : ℕ} → Member y [] → ⊥
nobody m = elim m [ ]

behind_none : (x : ℕ) → get_or followers_a (suc (suc (suc (suc x)))) [] ≡ []
behind_none zero = refl
behind_none (suc zero) = refl
behind_none (suc (suc x)) = refl

all : (x : ℕ) {y : ℕ} → Listed x y → Follows grammar_a x y
all zero m = only number (behind_sum m)
all (suc zero) (first e) = subst (Follows grammar_a 1) (sym e) (beside plus-sum (omega arith) (by_first number here))
all (suc zero) (later (first e)) = subst (Follows grammar_a 1) (sym e) (beside plus-sum (omega arith) here)
all (suc zero) (later (later m)) = elim m [ ]
all (suc (suc zero)) m = behind_sum m
all (suc (suc (suc zero))) m = last sum_more (omega arith) (behind_sum m)
all (suc (suc (suc (suc x)))) {y} m = absurd (nobody (subst (Member y) (behind_none x) m))

-- THE FOLLOW TABLE OF GRAMMAR A.
pub followers_of_a : (x y : ℕ) → Follows grammar_a x y ↔ Listed x y
followers_of_a x y = (no_more, all x)
