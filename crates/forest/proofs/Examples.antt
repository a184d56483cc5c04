-- Grammar A: three numbers joined by plus, "0 1 0 1 0", have two trees.
use Rattle.std.proofs.Common.{◌≡◌, refl, ap, List, [], ◌∷◌, ◌++◌, ℕ, arith, get_or}
use mathlib.Core.List.{flat_map}
use Rattle.grammar.specs.Rules.{Rule, Grammar, none, start}
use Rattle.grammar.proofs.Facts.{rule-says}
use Rattle.forest.specs.Trees.{Tree, leaf, one, two, Derivation, preorder}
use Rattle.forest.specs.Forests.{alone, paired, Node, token, sum, other, listed}

abbrev rule : ℕ → ℕ → ℕ → Rule
rule left first second = record { left = left; first = first; second = second }

abbrev grammar_a : Grammar
grammar_a = record { symbols = 6; tokens = 2; rules = rule 4 2 5 ∷ rule 2 2 3 ∷ rule 2 0 none ∷ rule 3 1 2 ∷ [] }

-- A number, and a sum and a number or sum behind it.
abbrev pub number : Tree
number = one 2 (leaf 0)

abbrev pub plus : Tree → Tree → Tree
plus d e = two 1 d (two 3 (leaf 1) e)

a_number : Derivation grammar_a number (start grammar_a) (0 ∷ [])
a_number = Derivation.unary (rule-says grammar_a 2 (omega arith)) (Derivation.token {t = 0} (omega arith))

a_plus : {d e : Tree} {u v : List ℕ} → Derivation grammar_a d (start grammar_a) u → Derivation grammar_a e (start grammar_a) v
    → Derivation grammar_a (plus d e) (start grammar_a) (u ++ 1 ∷ v)
a_plus left right =
    Derivation.binary (rule-says grammar_a 1 (omega arith)) (λ e. omega arith) left
    (Derivation.binary (rule-says grammar_a 3 (omega arith)) (λ e. omega arith) (Derivation.token {t = 1} (omega arith)) right)

-- The two trees: the first two numbers are a sum, or the last two are.
abbrev pub first_two : Tree
first_two = plus (plus number number) number

abbrev pub last_two : Tree
last_two = plus number (plus number number)

abbrev pub word : List ℕ
word = 0 ∷ 1 ∷ 0 ∷ 1 ∷ 0 ∷ []

pub first_two_derives : Derivation grammar_a first_two (start grammar_a) word
first_two_derives = a_plus (a_plus a_number a_number) a_number

pub last_two_derives : Derivation grammar_a last_two (start grammar_a) word
last_two_derives = a_plus a_number (a_plus a_number a_number)

-- Their words in preorder, and these differ.
pub first_two_words : preorder first_two ≡ 1 ∷ 1 ∷ 2 ∷ 0 ∷ 3 ∷ 1 ∷ 2 ∷ 0 ∷ 3 ∷ 1 ∷ 2 ∷ 0 ∷ []
first_two_words = refl

pub last_two_words : preorder last_two ≡ 1 ∷ 2 ∷ 0 ∷ 3 ∷ 1 ∷ 1 ∷ 2 ∷ 0 ∷ 3 ∷ 1 ∷ 2 ∷ 0 ∷ []
last_two_words = refl

pub two_different : preorder first_two ≡ preorder last_two → ⊥
two_different e = let second : ◌≡◌ {A = ℕ} 1 2 = ap (λ (l : List ℕ). get_or l 1 0) e in omega arith

-- A forest of them, each node at the unit where its head stands in a store: the last Sum lists both.
abbrev nodes : List Node
nodes =
    token 0 ∷ sum (alone 2 0 ∷ []) ∷ other
    ∷ token 1
    ∷ token 0 ∷ sum (alone 2 4 ∷ []) ∷ other
    ∷ sum (paired 3 3 5 ∷ []) ∷ other ∷ other
    ∷ sum (paired 1 1 7 ∷ []) ∷ other ∷ other
    ∷ token 1
    ∷ token 0 ∷ sum (alone 2 14 ∷ []) ∷ other
    ∷ sum (paired 3 13 15 ∷ []) ∷ other ∷ other
    ∷ sum (paired 1 5 17 ∷ []) ∷ other ∷ other
    ∷ sum (paired 3 3 20 ∷ []) ∷ other ∷ other
    ∷ sum (paired 1 10 17 ∷ paired 1 1 23 ∷ []) ∷ []

pub two_trees : listed (λ h. get_or nodes h other) 27 26 ≡ first_two ∷ last_two ∷ []
unfolding flat_map
two_trees = refl
