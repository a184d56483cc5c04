-- The three examples of docs/TRANSLATION.md, computed: the grammar that the bytes write, and the bytes of the file.
use mathlib.Core.Path.{◌≡◌, refl}
use mathlib.Core.Bool.{Bool, false}
use mathlib.Core.List.{List, [], ◌∷◌}
use Prim.Native.Nat.{ℕ}
use lib.Dec.{ltb, eqb}
use Rattle.laws.specs.Records.{flat}
use Rattle.written.specs.Form.{symbols_at, rules_at, written_of}
use Rattle.written.specs.Split.{given, pair, joined, split}
use Rattle.written.specs.Order.{has, named, passing, ordered}
use Rattle.written.specs.Translation.{staying, number, places, all_new, splits, has_rule, adding, listing, rules_of, blocks, up_from, translated}
use Rattle.written.specs.Bytes.{u16_bytes, u32_bytes, bytes_of_rule, header_of, bytes_of}

-- The file of the grammar that the bytes write, by the symbols that stay and those that may be empty.
unfoldable pub file : List ℕ → (keep empty : ℕ → Bool) → List ℕ
file bytes keep empty = bytes_of (translated (written_of bytes) keep empty)

-- S ::= | a S.
pub a_list : file (2 ∷ 0 ∷ 1 ∷ 0 ∷ 1 ∷ 0 ∷ 2 ∷ 0 ∷ 1 ∷ 0 ∷ 1 ∷ 0 ∷ 0 ∷ 0 ∷ 1 ∷ 0 ∷ 2 ∷ 0 ∷ 0 ∷ 0 ∷ 1 ∷ []) (λ x. ltb x 2) (λ x. eqb x 1)
    ≡ 1 ∷ 0 ∷ 0 ∷ 0 ∷ 29 ∷ 0 ∷ 4 ∷ 0 ∷ 1 ∷ 0 ∷ 3 ∷ 0 ∷ 2 ∷ 0 ∷ 1 ∷ 0 ∷ 3 ∷ 0 ∷ 1 ∷ 0 ∷ 0 ∷ 0 ∷ 1 ∷ 0 ∷ 1 ∷ 0 ∷ 0 ∷ 255 ∷ 255 ∷ []
unfolding file symbols_at rules_at given pair joined split has named passing ordered staying number places all_new splits has_rule adding listing rules_of blocks up_from flat u16_bytes u32_bytes bytes_of_rule header_of bytes_of
a_list = refl

-- A ::= x y z.
pub three_places : file (2 ∷ 0 ∷ 3 ∷ 0 ∷ 1 ∷ 0 ∷ 1 ∷ 0 ∷ 3 ∷ 0 ∷ 3 ∷ 0 ∷ 3 ∷ 0 ∷ 0 ∷ 0 ∷ 1 ∷ 0 ∷ 2 ∷ []) (λ x. ltb x 4) (λ x. false)
    ≡ 1 ∷ 0 ∷ 0 ∷ 0 ∷ 29 ∷ 0 ∷ 7 ∷ 0 ∷ 3 ∷ 0 ∷ 3 ∷ 0 ∷ 5 ∷ 0 ∷ 3 ∷ 0 ∷ 6 ∷ 0 ∷ 3 ∷ 0 ∷ 4 ∷ 0 ∷ 2 ∷ 0 ∷ 4 ∷ 0 ∷ 0 ∷ 0 ∷ 1 ∷ []
unfolding file symbols_at rules_at given pair joined split has named passing ordered staying number places all_new splits has_rule adding listing rules_of blocks up_from flat u16_bytes u32_bytes bytes_of_rule header_of bytes_of
three_places = refl

-- A ::= B A x | a, B ::= | b.
pub a_level : file (2 ∷ 0 ∷ 3 ∷ 0 ∷ 2 ∷ 0 ∷ 4 ∷ 0 ∷ 3 ∷ 0 ∷ 3 ∷ 0 ∷ 3 ∷ 0 ∷ 4 ∷ 0 ∷ 3 ∷ 0 ∷ 2 ∷ 0 ∷ 3 ∷ 0 ∷ 1 ∷ 0 ∷ 0 ∷ 0 ∷ 4 ∷ 0 ∷ 0 ∷ 0 ∷ 4 ∷ 0 ∷ 1 ∷ 0 ∷ 1 ∷ []) (λ x. ltb x 5) (λ x. eqb x 4)
    ≡ 1 ∷ 0 ∷ 0 ∷ 0 ∷ 47 ∷ 0 ∷ 8 ∷ 0 ∷ 3 ∷ 0 ∷ 6 ∷ 0 ∷ 6 ∷ 0 ∷ 3 ∷ 0 ∷ 7 ∷ 0 ∷ 4 ∷ 0 ∷ 1 ∷ 255 ∷ 255 ∷ 0 ∷ 5 ∷ 0 ∷ 4 ∷ 0 ∷ 3 ∷ 0 ∷ 5 ∷ 0 ∷ 3 ∷ 255 ∷ 255 ∷ 0 ∷ 3 ∷ 0 ∷ 5 ∷ 0 ∷ 2 ∷ 0 ∷ 3 ∷ 0 ∷ 0 ∷ 255 ∷ 255 ∷ []
unfolding file symbols_at rules_at given pair joined split has named passing ordered staying number places all_new splits has_rule adding listing rules_of blocks up_from flat u16_bytes u32_bytes bytes_of_rule header_of bytes_of
a_level = refl
