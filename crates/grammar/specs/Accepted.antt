-- What the check asks of a grammar, one field for each phrase of the paper's list and in its order.
use Rattle.std.specs.Prelude.{◌≡◌, List, ◌⊎◌, ℕ, ◌+◌, ◌≤◌, ◌<◌}
use Rattle.grammar.specs.Rules.{Grammar, Says, none, rule_count, rule_at, wrapper, end_mark, start}
use Rattle.grammar.specs.Sentences.{Derives}

-- The most symbols, and the most rules.
abbrev pub max_symbols : ℕ
max_symbols = 512

abbrev pub max_rules : ℕ
max_rules = 2048

-- `a` is one of T..N-3.
pub record Nonterminal (g : Grammar) (a : ℕ) : Type 0 where
  pub no_token_lem : g.tokens ≤ a
  pub no_wrapper : a < wrapper g

-- `a` derives some string of tokens.
pub record Productive (g : Grammar) (a : ℕ) : Type 0 where
  pub string : List ℕ
  pub derives : Derives g a string

-- S is reachable, and where the left side of a rule is, both symbols on its right are.
pub data Reachable (g : Grammar) : ℕ → Type 0 where
  from_start : Reachable g (start g)
  by_first : {r a b c : ℕ} → Says g r a b c → Reachable g a → Reachable g b
  by_second : {r a b c : ℕ} → Says g r a b c → (c ≡ none → ⊥) → Reachable g a → Reachable g c

pub record Accepted (g : Grammar) : Type 0 where
  -- T ≥ 1
  pub a_token : 1 ≤ g.tokens
  -- T+3 ≤ N ≤ 512
  pub room : g.tokens + 3 ≤ g.symbols
  pub few_symbols : g.symbols ≤ max_symbols
  -- 1 ≤ R ≤ 2,048
  pub a_rule : 1 ≤ rule_count g
  pub few_rules : rule_count g ≤ max_rules
  -- rule 0 is W ::= S end, with S a nonterminal
  pub wraps : Says g 0 (wrapper g) (start g) (end_mark g)
  pub starts : Nonterminal g (start g)
  -- every other rule has a nonterminal on the left, and only symbols 0..N-3 on the right
  pub lefts : (r : ℕ) → 0 < r → r < rule_count g → Nonterminal g (rule_at g r).left
  pub firsts : (r : ℕ) → 0 < r → r < rule_count g → (rule_at g r).first < wrapper g
  pub seconds : (r : ℕ) → 0 < r → r < rule_count g → ((rule_at g r).second ≡ none) ⊎ ((rule_at g r).second < wrapper g)
  -- rules of one left side are adjacent
  pub adjacent :
      (q r s : ℕ) → q < r → r < s → s < rule_count g → (rule_at g q).left ≡ (rule_at g s).left → (rule_at g q).left ≡ (rule_at g r).left
  -- no two rules are equal
  pub distinct : (q r : ℕ) → q < r → r < rule_count g → rule_at g q ≡ rule_at g r → ⊥
  -- where A ::= B alone and B is a nonterminal, every rule of B has a higher number
  pub unary_below :
      (r s : ℕ) → r < rule_count g → s < rule_count g → (rule_at g r).second ≡ none → (rule_at g s).left ≡ (rule_at g r).first → r < s
  -- every nonterminal derives some string of tokens
  pub productive : (a : ℕ) → Nonterminal g a → Productive g a
  -- every nonterminal is reachable from S by the rules
  pub reachable : (a : ℕ) → Nonterminal g a → Reachable g a
