-- The parts in which the bytes behind the grammar are read.
use Rattle.std.specs.Prelude.{◌≡◌, List, [], ◌++◌, ℕ, suc, ◌≤◌, ◌<◌, length}

-- The bytes of a part, and its tokens.
abbrev pub part_bytes : ℕ
part_bytes = 65536

abbrev pub part_tokens : ℕ
part_tokens = 32768

-- The most parts that are read: as many as a word counts the tokens of.
abbrev pub most_parts : ℕ
most_parts = 562949953421311

-- The bytes that are read, with so many parts left to read, of a run that ends in `number`. A part that is not full is the last, and so
-- is one that holds a refused token; behind a full one stand the bytes of the next.
pub data InParts (number : ℕ) : ℕ → List ℕ → Type 0 where
  not_full : {left : ℕ} {part : List ℕ} → length part < part_bytes → InParts number (suc left) part
  refused : {left : ℕ} {part : List ℕ} → length part ≤ part_bytes → (number ≡ 0 → ⊥) → InParts number (suc left) part
  full : {left : ℕ} (part : List ℕ) {behind : List ℕ} → length part ≡ part_bytes → InParts number left behind → InParts number (suc left) (part ++ behind)
  none_left : InParts number 0 []
