-- `compare::engines::read` meets its contract: a grammar that was checked is started.
use Rattle.compare.proofs.Saying.{not_refused}
use Rattle.compare.proofs.engines.read.Goals as goal

pub unwrap-started-requires : goal.unwrap-started-requires
unwrap-started-requires c = not_refused c.start.result c.requires.0 c.requires.1 c.start.ensures.calls
