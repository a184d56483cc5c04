-- A written grammar: tokens, nonterminals, a start symbol, rules with any number of symbols; and what symbols become by the rules.
use Rattle.std.specs.Prelude.{◌≡◌, List, [], ◌∷◌, ◌++◌, ℕ, ◌+◌, ◌<◌, length, get_or}

-- A rule `left ::= right`.
pub record WrittenRule : Type 0 where
  pub left : ℕ
  pub right : List ℕ

-- T tokens 0..T-1, M nonterminals T..T+M-1, S and the rules in their order.
pub record Written : Type 0 where
  pub tokens : ℕ
  pub nonterminals : ℕ
  pub start : ℕ
  pub rules : List WrittenRule

-- T+M.
abbrev pub symbol_count : Written → ℕ
symbol_count w = w.tokens + w.nonterminals

-- What stands for a rule where there is none.
abbrev pub no_written : WrittenRule
no_written = record { left = 0; right = [] }

-- Rule `r` is `a ::= ω`.
pub record Writes (w : Written) (r a : ℕ) (ω : List ℕ) : Type 0 where
  pub there : r < length w.rules
  pub left : (get_or w.rules r no_written).left ≡ a
  pub right : (get_or w.rules r no_written).right ≡ ω

-- The symbols `α` become the symbols `β`, in any number of steps. Each symbol stays, or is replaced by the right side of a rule of it, which
-- becomes what stands there.
pub data Becomes (w : Written) : List ℕ → List ℕ → Type 0 where
  nothing : Becomes w [] []
  stays : {x : ℕ} {α β : List ℕ} → Becomes w α β → Becomes w (x ∷ α) (x ∷ β)
  by_rule : {r a : ℕ} {ω γ α β : List ℕ} → Writes w r a ω → Becomes w ω γ → Becomes w α β → Becomes w (a ∷ α) (γ ++ β)

-- `a` may be empty.
abbrev pub MayBeEmpty : Written → ℕ → Type 0
MayBeEmpty w a = Becomes w (a ∷ []) []

-- A string of tokens.
pub data Tokens (w : Written) : List ℕ → Type 0 where
  none_left : Tokens w []
  one_more : {t : ℕ} {u : List ℕ} → t < w.tokens → Tokens w u → Tokens w (t ∷ u)

-- `a` derives the token string `u`.
pub record Gives (w : Written) (a : ℕ) (u : List ℕ) : Type 0 where
  pub tokens : Tokens w u
  pub becomes : Becomes w (a ∷ []) u
