-- What the parts of the check promise: of the header's numbers, of rule 0, of each other rule, of pairs of rules, of marks.
-- Only those parts' contracts cite this. What `check` itself promises is over `Malformed` and `Accepted` alone.
use Rattle.std.specs.Prelude.{◌≡◌, Bool, true, false, List, ◌⊎◌, ℕ, ◌+◌, ◌-◌, ◌≤◌, ◌<◌, length, get_or}
use Rattle.grammar.specs.Rules.{Grammar, none}
use Rattle.grammar.specs.Accepted.{max_symbols, max_rules, Nonterminal, Productive, Reachable}
use Rattle.grammar.specs.inner.Decoded.{left_in, first_in, second_in}

-- T ≥ 1, and N and R are within their limits.
pub record Sized (n t count : ℕ) : Type 0 where
  pub a_token : 1 ≤ t
  pub room : t + 3 ≤ n
  pub few_symbols : n ≤ max_symbols
  pub a_rule : 1 ≤ count
  pub few_rules : count ≤ max_rules

-- Rule 0 is W ::= S end with S a nonterminal.
pub record Wraps (words : List ℕ) (n t : ℕ) : Type 0 where
  pub left : left_in words 0 ≡ n - 2
  pub second : second_in words 0 ≡ n - 1
  pub no_token_lem : t ≤ first_in words 0
  pub no_wrapper : first_in words 0 < n - 2

-- Rule `r` has a nonterminal on the left and only symbols 0..N-3 on the right.
pub record Drawn (words : List ℕ) (n t r : ℕ) : Type 0 where
  pub no_token_lem : t ≤ left_in words r
  pub no_wrapper : left_in words r < n - 2
  pub first : first_in words r < n - 2
  pub second : (second_in words r ≡ none) ⊎ (second_in words r < n - 2)

-- Rule `r` begins its left side's block or goes on it.
pub record Adjoins (words : List ℕ) (r : ℕ) : Type 0 where
  pub adjacent : (q : ℕ) → q < r → left_in words q ≡ left_in words r → left_in words (r - 1) ≡ left_in words r

-- Where rule `r` is A ::= B alone, no rule of B stands up to it.
pub record Precedes (words : List ℕ) (r : ℕ) : Type 0 where
  pub unary_below : second_in words r ≡ none → (s : ℕ) → s ≤ r → left_in words s ≡ first_in words r → ⊥

-- Every rule but rule 0 is so.
pub record Ruled (words : List ℕ) (n t count : ℕ) : Type 0 where
  pub drawn : (r : ℕ) → 0 < r → r < count → Drawn words n t r
  pub adjoins : (r : ℕ) → 0 < r → r < count → Adjoins words r
  pub precedes : (r : ℕ) → 0 < r → r < count → Precedes words r

-- Two rules are equal.
pub record Same (words : List ℕ) (q r : ℕ) : Type 0 where
  pub left : left_in words q ≡ left_in words r
  pub first : first_in words q ≡ first_in words r
  pub second : second_in words q ≡ second_in words r

-- Some pair of rules is equal.
pub record EqualPair (words : List ℕ) (count : ℕ) : Type 0 where
  pub lower : ℕ
  pub higher : ℕ
  pub order : lower < higher
  pub there : higher < count
  pub same : Same words lower higher

-- Every symbol of the first `count` rules is below the limit.
pub record LowSymbols (words : List ℕ) (count : ℕ) : Type 0 where
  pub left : (r : ℕ) → r < count → left_in words r < max_symbols
  pub first : (r : ℕ) → r < count → first_in words r < max_symbols
  pub second : (r : ℕ) → r < count → (second_in words r ≡ none) ⊎ (second_in words r < max_symbols)

-- Every nonterminal derives some string of tokens.
pub record AllProductive (g : Grammar) : Type 0 where
  pub productive : (a : ℕ) → Nonterminal g a → Productive g a

-- Every nonterminal is reachable from S by the rules.
pub record AllReachable (g : Grammar) : Type 0 where
  pub reachable : (a : ℕ) → Nonterminal g a → Reachable g a

-- `a` is marked.
abbrev pub Marked : List Bool → ℕ → Type 0
Marked marks a = get_or marks a false ≡ true

-- Some rule below rule `r` has the left side `a`.
pub record LeftBelow (words : List ℕ) (r a : ℕ) : Type 0 where
  pub rule : ℕ
  pub below : rule < r
  pub is : left_in words rule ≡ a

-- The left sides of the rules below rule `r` are marked, and nothing else.
pub record Met (words : List ℕ) (r : ℕ) (marks : List Bool) : Type 0 where
  pub long : length marks ≡ max_symbols
  pub left : (q : ℕ) → q < r → Marked marks (left_in words q)
  pub no_other : (a : ℕ) → Marked marks a → LeftBelow words r a

-- `a` is the last symbol on the right of rule `r`: the second, or the first where there is no second.
pub record Last (words : List ℕ) (r a : ℕ) : Type 0 where
  pub alone : second_in words r ≡ none → a ≡ first_in words r
  pub behind : (second_in words r ≡ none → ⊥) → a ≡ second_in words r

-- Every symbol on the right of rule `r` is marked.
pub record RightMarked (words : List ℕ) (marks : List Bool) (r : ℕ) : Type 0 where
  pub first : Marked marks (first_in words r)
  pub second : (second_in words r ≡ none) ⊎ Marked marks (second_in words r)

-- Rule `r` marks its left side: the right side is marked, and the left side is not yet.
pub record Fires (words : List ℕ) (marks : List Bool) (r : ℕ) : Type 0 where
  pub left : Marked marks (left_in words r) → ⊥
  pub right : RightMarked words marks r

-- Rule `r` marks its right side: the left side is marked, and the right side is not yet.
pub record Spreads (words : List ℕ) (marks : List Bool) (r : ℕ) : Type 0 where
  pub left : Marked marks (left_in words r)
  pub right : RightMarked words marks r → ⊥

-- The tokens are marked, and nothing else.
pub record TokensMarked (t : ℕ) (marks : List Bool) : Type 0 where
  pub long : length marks ≡ max_symbols
  pub token : (a : ℕ) → a < t → Marked marks a
  pub no_other : (a : ℕ) → Marked marks a → a < t

-- All symbols from `from` up to `to` are marked.
pub record AllMarked (marks : List Bool) (from to : ℕ) : Type 0 where
  pub marked : (a : ℕ) → from ≤ a → a < to → Marked marks a
