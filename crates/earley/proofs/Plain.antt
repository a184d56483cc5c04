-- Tokens are positions of one kind each: what positions spell is there the tokens themselves.
use mathlib.Core.Path.{refl, sym, subst}
use mathlib.Core.List.Memᴰ.{eq_of_singleton as only}
use mathlib.Core.List.{List, [], ◌∷◌}
use mathlib.Core.Logic.{◌↔◌}
use Prim.Native.Nat.{ℕ, ◌<◌}
use Rattle.grammar.specs.Rules.{Grammar}
use Rattle.grammar.specs.Sentences.{Sentence, Begins}
use Rattle.earley.specs.Positions.{SpellSentence, SpellBeginning, plain}
use Rattle.earley.proofs.Spelling.{plain-spelt}
use Rattle.earley.proofs.Steps.{Kinds}

-- The kind of a token's position is a token.
pub one_kind : {g : Grammar} {t : ℕ} → t < g.tokens → Kinds g (t ∷ [])
one_kind {g} small = record { tokens = λ k m. subst (λ n. n < g.tokens) (sym (only m)) small }

-- Positions of one kind each spell a sentence exactly when their tokens are one.
pub plain-sentence : {g : Grammar} (ts : List ℕ) → SpellSentence g (plain ts) ↔ Sentence g ts
plain-sentence {g} ts = (
  λ s. subst (Sentence g) ((plain-spelt ts s.word).0 s.spelt) s.sentence,
  λ s. record { word = ts; spelt = (plain-spelt ts ts).1 refl; sentence = s },
)

-- And a beginning exactly when a sentence begins with their tokens.
pub plain_beginning : {g : Grammar} (ts : List ℕ) → SpellBeginning g (plain ts) ↔ Begins g ts
plain_beginning {g} ts = (
  λ b. subst (Begins g) ((plain-spelt ts b.word).0 b.spelt) b.begins,
  λ b. record { word = ts; spelt = (plain-spelt ts ts).1 refl; begins = b },
)
