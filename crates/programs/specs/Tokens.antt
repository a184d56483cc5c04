-- What tokens bytes say.
use Rattle.std.specs.Prelude.{List, [], ◌∷◌, ℕ, ◌+◌, ◌*◌}

-- A token that no grammar has.
abbrev pub foreign : ℕ
foreign = 65535

-- The tokens that bytes say: two bytes each, big-endian. A lone last byte is a token that no grammar has.
unfoldable pub tokens_of : List ℕ → List ℕ
tokens_of [] = []
tokens_of (lone ∷ []) = foreign ∷ []
tokens_of (high ∷ (low ∷ rest)) = (high * 256 + low) ∷ tokens_of rest
