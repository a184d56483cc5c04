-- The order of left sides: first those that no rule names, then those that none of the others names, and so on. A rule names its first symbol
-- where it has no second.
use Rattle.std.specs.Prelude.{Bool, true, false, ◌&&◌, ◌||◌, not, List, [], ◌∷◌, ◌++◌, ℕ, zero, suc, eqb}
use Rattle.grammar.specs.Rules.{Rule, none}

-- Whether a number is in a list.
unfoldable pub has : List ℕ → ℕ → Bool
has [] x = false
has (y ∷ l) x = eqb y x || has l x

-- Whether some rule `a ::= b` alone has its left side in `left`.
unfoldable pub named : List Rule → List ℕ → ℕ → Bool
named [] left b = false
named (r ∷ rules) left b = (eqb r.second none && (eqb r.first b && has left r.left)) || named rules left b

-- Those that pass a test, in their order.
unfoldable pub passing : (ℕ → Bool) → List ℕ → List ℕ
passing test [] = []
passing test (x ∷ l) = elim (test x) [ true ↦ x ∷ passing test l | false ↦ passing test l ]

-- The symbols `left` in order, in at most `rounds` rounds.
unfoldable pub ordered : ℕ → List Rule → List ℕ → List ℕ
ordered zero rules left = []
ordered (suc rounds) rules left = passing (λ b. not (named rules left b)) left ++ ordered rounds rules (passing (named rules left) left)
