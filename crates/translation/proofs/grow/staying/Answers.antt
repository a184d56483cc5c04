-- `translation::grow::staying` meets its contract.
use Rattle.written.proofs.Forms.{formed_lawful}
use Rattle.translation.proofs.Exact.{staying-exact}
use Rattle.translation.proofs.Marked.{only_to}
use Rattle.std.proofs.Common.{arith}
use Rattle.translation.proofs.grow.staying.Goals as goal

pub returns : goal.returns
returns c = staying-exact _ (formed_lawful _ c.tokens.ensures.2) c.requires _ _ (only_to c.tokens.ensures.0 (omega arith) c.mark_within.ensures) c.grow.ensures
