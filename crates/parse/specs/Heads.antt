-- Reading units from a position on, node by node: whether that comes to the end without a 12, and the heads of the nodes that it meets.
use Rattle.std.specs.Prelude.{◌≡◌, List, ℕ}
use Rattle.node.specs.Answers.{answer, done, node, end}
use Rattle.node.specs.Writing.{usable}
use Rattle.node.specs.Reading.{head_from, read_at}
use Rattle.node.specs.declared.Node.{Node}

-- It comes to the end.
pub data ToEnd (units : List ℕ) : ℕ → Type 0 where
  ends : {p : ℕ} → read_at units p ≡ answer done end → ToEnd units p
  on : {p q : ℕ} {n : Node} → read_at units p ≡ answer done (node n q) → ToEnd units q → ToEnd units p

-- It meets a node with its head at `h`.
pub data Meets (units : List ℕ) (h : ℕ) : ℕ → Type 0 where
  here : {p q : ℕ} {n : Node} → read_at units p ≡ answer done (node n q) → head_from (usable units) p ≡ h → Meets units h p
  later : {p q : ℕ} {n : Node} → read_at units p ≡ answer done (node n q) → Meets units h q → Meets units h p
