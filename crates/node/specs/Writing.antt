-- Writing one node: the position behind it, 10 before 11, both with the position asked for, and no other unit changed.
use Rattle.std.specs.Prelude.{ℕ, ◌+◌, List, [], ◌∷◌, length, set, take, leb}
use Rattle.node.specs.Choice.{pick}
use Rattle.node.specs.Rows.{units_at}
use Rattle.node.specs.Answers.{Answer, answer, refused, done, value_unfit, out_of_room, position, nothing}
use Rattle.node.specs.declared.Node.{Node}

-- A store is u16 units, the first 32,768 usable.
abbrev pub usable_units : ℕ
usable_units = 32768

abbrev pub usable : List ℕ → List ℕ
usable store = take usable_units store

-- The store with units put one behind another from p on.
unfoldable pub put : List ℕ → ℕ → List ℕ → List ℕ
put store p [] = store
put store p (u ∷ us) = put (set store p u) (p + 1) us

-- An answer, and the store that it leaves.
pub record StoreOutcome : Type 0 where
  pub answer : Answer
  pub store : List ℕ

-- Units at p: 11 where they do not fit the store from there.
unfoldable pub place : List ℕ → ℕ → List ℕ → StoreOutcome
place store p us =
    pick (leb (p + length us) (length (usable store)))
    (record { answer = answer done (position (p + length us)); store = put store p us })
    (record { answer = refused out_of_room p nothing; store = store })

-- 10 where the node is unfit and so has no units.
unfoldable pub write_units : List ℕ → ℕ → List ℕ → StoreOutcome
write_units store p [] = record { answer = refused value_unfit p nothing; store = store }
write_units store p (u ∷ us) = place store p (u ∷ us)

abbrev pub write_at : List ℕ → ℕ → Node → StoreOutcome
write_at store p node = write_units store p (units_at p node)
