-- `compare::beginnings::no_room` meets its contract: a yes names one of the four.
use Rattle.laws.proofs.Decides.{says_yes_lem}
use Rattle.compare.proofs.Comparing.{room_one}
use Rattle.compare.proofs.beginnings.no_room.Goals as goal

pub returns-in-ItemsFull : goal.returns-in-ItemsFull
returns-in-ItemsFull c = rw c.in-Some.is (says_yes_lem (room_one c.in-Some.why c.in-ItemsFull.is))
