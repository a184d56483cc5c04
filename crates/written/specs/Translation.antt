-- The grammar that a written grammar is translated to, as docs/TRANSLATION.md says it. `keep` says which symbols stay, `empty` which may be empty.
use Rattle.std.specs.Prelude.{Bool, true, false, ◌&&◌, ◌||◌, List, [], ◌∷◌, ◌++◌, ℕ, zero, suc, ◌+◌, ◌-◌, length, eqb}
use Rattle.grammar.specs.Rules.{Rule, Grammar}
use Rattle.written.specs.Written.{WrittenRule, Written, symbol_count}
use Rattle.written.specs.Split.{rule, given, split}
use Rattle.written.specs.Order.{ordered}

-- The symbols below `n` that stay, rising.
unfoldable pub staying : (keep : ℕ → Bool) → ℕ → List ℕ
staying keep zero = []
staying keep (suc n) = staying keep n ++ given (keep n) (n ∷ [])

-- The number of a symbol that stays: how many below it stay.
unfoldable pub number : (keep : ℕ → Bool) → ℕ → ℕ
number keep x = length (staying keep x)

-- The places of a right side: the symbols that stay.
unfoldable pub places : (keep : ℕ → Bool) → List ℕ → List ℕ
places keep [] = []
places keep (x ∷ l) = given (keep x) (x ∷ []) ++ places keep l

-- A rule with these places has so many new symbols.
abbrev pub new_symbols : List ℕ → ℕ
new_symbols l = length l - 2

-- The new symbols of all rules.
unfoldable pub all_new : (keep : ℕ → Bool) → List WrittenRule → ℕ
all_new keep [] = 0
all_new keep (r ∷ rules) = new_symbols (places keep r.right) + all_new keep rules

-- The rules that the written rules are split into, one behind the other. New symbols are numbered from `next` on.
unfoldable pub splits : (keep empty : ℕ → Bool) → List WrittenRule → ℕ → List Rule
splits keep empty [] next = []
splits keep empty (r ∷ rules) next =
    split (number keep) empty (number keep r.left) (places keep r.right) next
    ++ splits keep empty rules (next + new_symbols (places keep r.right))

-- Whether two rules are equal, and whether a list has a rule.
abbrev pub equal : Rule → Rule → Bool
equal q r = eqb q.left r.left && (eqb q.first r.first && eqb q.second r.second)

unfoldable pub has_rule : List Rule → Rule → Bool
has_rule [] r = false
has_rule (q ∷ rules) r = equal q r || has_rule rules r

-- The list with one rule more, unless it has it already.
unfoldable pub adding : List Rule → Rule → List Rule
adding list r = elim (has_rule list r) [ true ↦ list | false ↦ list ++ r ∷ [] ]

-- The list with these rules more.
unfoldable pub listing : List Rule → List Rule → List Rule
listing list [] = list
listing list (r ∷ rules) = listing (adding list r) rules

-- The rules of one left side, and those of several, left side by left side.
unfoldable pub rules_of : List Rule → ℕ → List Rule
rules_of [] a = []
rules_of (r ∷ rules) a = given (eqb r.left a) (r ∷ []) ++ rules_of rules a

unfoldable pub blocks : List Rule → List ℕ → List Rule
blocks rules [] = []
blocks rules (a ∷ order) = rules_of rules a ++ blocks rules order

-- `n` numbers from `a` on.
unfoldable pub up_from : ℕ → ℕ → List ℕ
up_from a zero = []
up_from a (suc n) = a ∷ up_from (suc a) n

-- How many tokens and nonterminals stay: the number of the first new symbol. And the number of W.
abbrev pub first_new : Written → (keep : ℕ → Bool) → ℕ
first_new w keep = number keep (symbol_count w)

abbrev pub wrapper_of : Written → (keep : ℕ → Bool) → ℕ
wrapper_of w keep = first_new w keep + all_new keep w.rules

-- The list of rules.
abbrev pub list_of : Written → (keep empty : ℕ → Bool) → List Rule
list_of w keep empty = listing [] (splits keep empty w.rules (first_new w keep))

-- The left sides T..N-3, in the order of the file.
abbrev pub order_of : Written → (keep empty : ℕ → Bool) → List ℕ
order_of w keep empty =
    ordered (wrapper_of w keep - w.tokens) (list_of w keep empty) (up_from w.tokens (wrapper_of w keep - w.tokens))

-- The whole: rule 0 is W ::= S end; behind it the rules of the list stand left side by left side.
abbrev pub translated : Written → (keep empty : ℕ → Bool) → Grammar
translated w keep empty = record {
  symbols = wrapper_of w keep + 2;
  tokens = w.tokens;
  rules = rule (wrapper_of w keep) (number keep w.start) (wrapper_of w keep + 1) ∷ blocks (list_of w keep empty) (order_of w keep empty);
}
