-- Answers: document 01's number, the values that come with it, and the place of a refusal, for each case of what the calls return.
use Rattle.std.specs.Prelude.{ℕ, Option, Some, None, Result, Ok, Err}
use Rattle.node.specs.declared.Node.{Node}
use Rattle.node.specs.declared.Unwritten.{Unwritten}
use Rattle.node.specs.declared.Unwritten.TheVariants.{Unfit, NoRoom}
use Rattle.node.specs.declared.NoNode.{NoNode}
use Rattle.node.specs.declared.Walked.{Walked}

abbrev pub done : ℕ
done = 0

abbrev pub value_unfit : ℕ
value_unfit = 10

abbrev pub out_of_room : ℕ
out_of_room = 11

abbrev pub no_node : ℕ
no_node = 12

-- What comes with a number: nothing, the position behind a node, a node and the position behind it, the end, or the number of nodes
-- read and the position behind the last.
pub data Values : Type 0 where
  nothing : Values
  position : ℕ → Values
  node : Node → ℕ → Values
  end : Values
  nodes : ℕ → ℕ → Values

-- A refusal has a place: with 10 and 11 the position asked for, with 12 the unit at which the fault was seen.
pub data Answer : Type 0 where
  answer : ℕ → Values → Answer
  refused : ℕ → ℕ → Values → Answer

abbrev pub values_of : Answer → Values
values_of (answer number values) = values
values_of (refused number place values) = values

abbrev pub written : Result ℕ Unwritten → Answer
written (Ok q) = answer done (position q)
written (Err (Unfit p)) = refused value_unfit p nothing
written (Err (NoRoom p)) = refused out_of_room p nothing

abbrev pub unread : NoNode → Answer
unread fault = refused no_node fault.0 nothing

-- The same of a node at the very position.
abbrev pub met : Result (Node × ℕ) NoNode → Answer
met (Ok n) = answer done (node n.0 n.1)
met (Err fault) = unread fault

abbrev pub found : Result (Option (Node × ℕ)) NoNode → Answer
found (Ok (Some n)) = answer done (node n.0 n.1)
found (Ok None) = answer done end
found (Err fault) = unread fault

abbrev pub stopped : ℕ → ℕ → Option ℕ → Answer
stopped count q None = answer done (nodes count q)
stopped count q (Some unit) = refused no_node unit (nodes count q)

abbrev pub walked : Walked → Answer
walked walk = stopped walk.count walk.behind walk.fault
