-- What a written grammar is refused for, 17 to 20: over all rules as they are written.
use Rattle.std.specs.Prelude.{◌≡◌, List, [], ◌∷◌, ℕ, ◌≤◌, ◌<◌}
use Rattle.written.specs.Lists.{In}
use Rattle.written.specs.Written.{Written, Writes, Becomes, Gives, symbol_count}

-- `a` is one of T..T+M-1.
pub record Nonterminal (w : Written) (a : ℕ) : Type 0 where
  pub no_token_lem : w.tokens ≤ a
  pub within : a < symbol_count w

-- `a` derives itself in one or more steps.
pub record DerivesItself (w : Written) (a : ℕ) : Type 0 where
  pub rule : ℕ
  pub right : List ℕ
  pub writes : Writes w rule a right
  pub becomes : Becomes w right (a ∷ [])

-- `a` derives some token string, the empty one included.
pub record Fruitful (w : Written) (a : ℕ) : Type 0 where
  pub string : List ℕ
  pub gives : Gives w a string

-- S is reachable, and so is each symbol on the right of a rule of one that is.
pub data Reachable (w : Written) : ℕ → Type 0 where
  from_start : Reachable w w.start
  by_rule : {r a x : ℕ} {ω : List ℕ} → Writes w r a ω → Reachable w a → In x ω → Reachable w x

-- `a` derives a nonempty token string. Of the nonterminals of an accepted grammar these stay, and the others vanish.
pub record Stays (w : Written) (a : ℕ) : Type 0 where
  pub string : List ℕ
  pub gives : Gives w a string
  pub filled : string ≡ [] → ⊥

-- 17: a nonterminal derives itself.
pub record Circular (w : Written) : Type 0 where
  pub symbol : ℕ
  pub itself : DerivesItself w symbol

-- 18: one derives no token string.
pub record Barren (w : Written) : Type 0 where
  pub symbol : ℕ
  pub nonterminal : Nonterminal w symbol
  pub never : Fruitful w symbol → ⊥

-- 19: one is unreachable.
pub record Unreachable (w : Written) : Type 0 where
  pub symbol : ℕ
  pub nonterminal : Nonterminal w symbol
  pub never : Reachable w symbol → ⊥

-- What none of 17 to 20 refuses.
pub record Sound (w : Written) : Type 0 where
  pub straight : Circular w → ⊥
  pub fruitful : (a : ℕ) → Nonterminal w a → Fruitful w a
  pub reachable : (a : ℕ) → Nonterminal w a → Reachable w a
  pub sentence : Stays w w.start
