-- The walk reads on from a given position to the end or the first 12. It answers 0 or 12, the number of nodes read, and the position
-- behind the last one, the given one if there is none. Its 12 has the place of that first 12.
use Rattle.std.specs.Prelude.{ℕ, zero, suc, ◌+◌, List, length}
use Rattle.node.specs.Answers.{Answer, answer, refused, done, nothing, position, node, end, nodes}
use Rattle.node.specs.Writing.{usable}
use Rattle.node.specs.Reading.{read_units}

-- On from the position behind a node; or the number, and the place of a refusal, with the nodes read so far and the position behind the last.
abbrev pub go_on : Answer → (ℕ → Answer) → ℕ → ℕ → Answer
go_on (answer number (node n q)) next count p = next q
go_on (answer number nothing) next count p = answer number (nodes count p)
go_on (answer number (position q)) next count p = answer number (nodes count p)
go_on (answer number end) next count p = answer number (nodes count p)
go_on (answer number (nodes c q)) next count p = answer number (nodes count p)
go_on (refused number place values) next count p = refused number place (nodes count p)

-- At most so many reads from p on, with so many nodes read before.
unfoldable pub walk_on : ℕ → List ℕ → ℕ → ℕ → Answer
walk_on zero s p count = answer done (nodes count p)
walk_on (suc reads) s p count = go_on (read_units s p) (λ q. walk_on reads s q (count + 1)) count p

-- Each node has a unit of its own, so there are no more reads than units, and one that meets the end.
abbrev pub walk_from : List ℕ → ℕ → ℕ → Answer
walk_from s p count = walk_on (suc (length s)) s p count

abbrev pub walk_at : List ℕ → ℕ → Answer
walk_at store p = walk_from (usable store) p 0
