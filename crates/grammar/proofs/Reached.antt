-- What first symbols reach.
use Prim.Native.Nat.{ℕ}
use Rattle.grammar.specs.Rules.{Grammar, Says}
use Rattle.grammar.specs.Prediction.{Reaches}
use Rattle.grammar.specs.Prediction.Reaches.{here, by_first}

-- What is reached from what is reached is reached.
pub reaches_trans : {g : Grammar} {x y z : ℕ} → Reaches g x y → Reaches g y z → Reaches g x z
reaches_trans here q = q
reaches_trans (by_first s p) q = by_first s (reaches_trans p q)

-- So is the first symbol of a rule of what is reached.
pub reaches_more : {g : Grammar} {r x a b c : ℕ} → Reaches g x a → Says g r a b c → Reaches g x b
reaches_more p s = reaches_trans p (by_first s here)
