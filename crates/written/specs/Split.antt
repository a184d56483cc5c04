-- The rules of one or two symbols that a written rule is split into.
use Rattle.std.specs.Prelude.{Bool, true, false, ◌&&◌, List, [], ◌∷◌, ◌++◌, ℕ, suc}
use Rattle.grammar.specs.Rules.{Rule, none}

abbrev pub rule : ℕ → ℕ → ℕ → Rule
rule a b c = record { left = a; first = b; second = c }

-- The list, or nothing.
unfoldable pub given : {A : Type 0} → Bool → List A → List A
given true l = l
given false l = []

-- a ::= b c; a ::= b where c may be empty; a ::= c where b may be empty.
unfoldable pub pair : (a b c : ℕ) → (b-empty c-empty : Bool) → List Rule
pair a b c b-empty c-empty = rule a b c ∷ given c-empty (rule a b none ∷ []) ++ given b-empty (rule a c none ∷ [])

-- `new` numbers the symbols, `empty` says which may be empty. `head` stands for the places so far; behind it stand `rest`. Each place but the last
-- gives a new symbol, from `next` on.
unfoldable pub joined : (new : ℕ → ℕ) (empty : ℕ → Bool) (a head : ℕ) (head-empty : Bool) (rest : List ℕ) (next : ℕ) → List Rule
joined new empty a head e [] next = []
joined new empty a head e (x ∷ []) next = pair a head (new x) e (empty x)
joined new empty a head e (x ∷ y ∷ rest) next =
    pair next head (new x) e (empty x) ++ joined new empty a next (e && empty x) (y ∷ rest) (suc next)

-- The rules of `a ::=` these places.
unfoldable pub split : (new : ℕ → ℕ) (empty : ℕ → Bool) (a : ℕ) (places : List ℕ) (next : ℕ) → List Rule
split new empty a [] next = []
split new empty a (x ∷ []) next = rule a (new x) none ∷ []
split new empty a (x ∷ y ∷ rest) next = joined new empty a (new x) (empty x) (y ∷ rest) next
