-- What the expected tokens tell of sentences, over any history. The right side speaks of derivations alone, of the words that have one kind of each
-- position.
use Rattle.std.specs.Prelude.{◌≡◌, ◌↔◌, ◌⊎◌, List, [], ◌∷◌, ◌++◌, ℕ, ◌<◌, length, get_or}
use Rattle.laws.specs.Fills.{too_short}
use Rattle.grammar.specs.Rules.{Grammar}
use Rattle.grammar.specs.File.{grammar_of}
use Rattle.parse.specs.declared.State.{State}
use Rattle.parse.specs.Words.{Words}
use Rattle.earley.specs.Positions.{Positions, SpellBeginning}
use Rattle.demands.specs.Histories.{History}

-- `t` stands in a list.
pub record In (t : ℕ) (list : List ℕ) : Type 0 where
  pub place : ℕ
  pub there : place < length list
  pub is : get_or list place 0 ≡ t

-- A token goes on with a sentence behind the accepted positions `a`.
pub record GoesOn (g : Grammar) (a : Positions) (t : ℕ) : Type 0 where
  pub ordinary : t < g.tokens
  pub begins : SpellBeginning g (a ++ ((t ∷ []) ∷ []))

-- Never refused but for want of place; and done, exactly the tokens that go on are listed.
pub record ExpectedTells (file : List ℕ) (s : State) (w : Words) (number : ℕ) (listed : List ℕ) : Type 0 where
  pub told : (a : Positions) → History file s w a → (number ≡ 0) ⊎ (number ≡ too_short)
  pub sentences : (a : Positions) → History file s w a → number ≡ 0 → (t : ℕ) → In t listed ↔ GoesOn (grammar_of file) a t
