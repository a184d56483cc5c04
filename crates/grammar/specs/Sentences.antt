-- What symbols derive, by the rules alone, and sentences.
use Rattle.std.specs.Prelude.{◌≡◌, List, [], ◌∷◌, ◌++◌, ℕ, ◌<◌}
use Rattle.grammar.specs.Rules.{Grammar, Says, none, start}

-- `Derives g x w`: the symbol `x` derives the string `w` of tokens. A token derives itself;
-- `a ::= b` passes on what `b` derives; `a ::= b c` joins what `b` and what `c` derive.
pub data Derives (g : Grammar) : ℕ → List ℕ → Type 0 where
  token : {t : ℕ} → t < g.tokens → Derives g t (t ∷ [])
  unary : {r a b : ℕ} {w : List ℕ} → Says g r a b none → Derives g b w → Derives g a w
  binary : {r a b c : ℕ} {u v : List ℕ} → Says g r a b c → (c ≡ none → ⊥) → Derives g b u → Derives g c v → Derives g a (u ++ v)

-- A sentence is a token string that S derives.
abbrev pub Sentence : Grammar → List ℕ → Type 0
Sentence g w = Derives g (start g) w

-- Some sentence begins with `w`.
pub record Begins (g : Grammar) (w : List ℕ) : Type 0 where
  pub rest : List ℕ
  pub sentence : Sentence g (w ++ rest)
