-- `compare::beginnings::part` meets its contract: by what the main engine says.
use Rattle.std.proofs.Common.{rules}
use Rattle.compare.specs.Compares.{parted}
use Rattle.compare.proofs.beginnings.part.Goals as goal

pub returns-then-yes : goal.returns-then-yes
unfolding parted
returns-then-yes c = search rules

pub returns-else-yes : goal.returns-else-yes
unfolding parted
returns-else-yes c = search rules
