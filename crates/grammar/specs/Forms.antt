-- Sentential forms: what W becomes where left sides are replaced by the right sides of their rules.
use Rattle.std.specs.Prelude.{◌≡◌, List, [], ◌∷◌, ◌++◌, ℕ}
use Rattle.grammar.specs.Rules.{Grammar, Says, none, wrapper}

pub data Form (g : Grammar) : List ℕ → Type 0 where
  whole : Form g (wrapper g ∷ [])
  unary : {r a b : ℕ} (u v : List ℕ) → Says g r a b none → Form g (u ++ a ∷ v) → Form g (u ++ b ∷ v)
  binary : {r a b c : ℕ} (u v : List ℕ) → Says g r a b c → (c ≡ none → ⊥) → Form g (u ++ a ∷ v) → Form g (u ++ b ∷ c ∷ v)

-- `y` stands right behind `x` in some form.
pub record Behind (g : Grammar) (x y : ℕ) : Type 0 where
  pub before : List ℕ
  pub after : List ℕ
  pub form : Form g (before ++ x ∷ y ∷ after)
