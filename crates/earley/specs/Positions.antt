-- Positions that carry several kinds of token, and the words that they spell.
use mathlib.Core.List.{List, [], ◌∷◌, map, Memᴰ as Member}
use Rattle.std.specs.Prelude.{ℕ, suc, ◌<◌, length, get_or}
use Rattle.grammar.specs.Rules.{Grammar}
use Rattle.grammar.specs.Sentences.{Sentence, Begins}

-- The kinds of each position.
abbrev pub Positions : Type 0
Positions = List (List ℕ)

-- `Spelt a i w j`: the word `w` has one kind of each position of `a` from `i` up to `j`.
pub data Spelt (a : Positions) : ℕ → List ℕ → ℕ → Type 0 where
  none : {i : ℕ} → Spelt a i [] i
  next : {i j t : ℕ} {w : List ℕ} → i < length a → Member t (get_or a i []) → Spelt a (suc i) w j → Spelt a i (t ∷ w) j

-- Positions spell a sentence: a word that has one kind of each is one.
pub record SpellSentence (g : Grammar) (a : Positions) : Type 0 where
  pub word : List ℕ
  pub spelt : Spelt a 0 word (length a)
  pub sentence : Sentence g word

-- Positions spell a beginning: some sentence begins with a word that has one kind of each.
pub record SpellBeginning (g : Grammar) (a : Positions) : Type 0 where
  pub word : List ℕ
  pub spelt : Spelt a 0 word (length a)
  pub begins : Begins g word

-- Positions of one kind each: a token string, each token alone.
abbrev pub plain : List ℕ → Positions
plain ts = map (λ t. t ∷ []) ts
