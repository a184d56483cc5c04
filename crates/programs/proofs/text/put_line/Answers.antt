-- `programs::text::put_line` meets its contract. Three copies, one behind the other, are a line.
use Rattle.programs.proofs.Texts.{a_line}
use Rattle.programs.proofs.text.put_line.Goals as goal

pub returns-clause-text : goal.returns-clause-text
returns-clause-text c = a_line _ _ _ _ _ _ _ _ c.decimal-count.ensures.len c.decimal-count.ensures.digits c.put-from.ensures.text c.put-to.ensures.text c.put.ensures.text
