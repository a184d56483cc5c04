-- `plain::rows::mark` meets its contract.
use Rattle.plain.proofs.Marking.{mark_stores}
use Rattle.plain.proofs.rows.mark.Goals as goal

pub returns : goal.returns
returns c = mark_stores c.args.table.now c.args.k c.args.symbol c.requires
