-- `table::Table::factor` meets its contract: a factor lies before its Sum, and has an entry.
use Rattle.std.proofs.Common.{◌∙◌}
use Rattle.trees.proofs.Tabled.{factor_late, factor-tells, entry-or}
use Rattle.trees.proofs.table.Table.factor.Goals as goal

pub returns-then-s-at : goal.returns-then-s-at
returns-then-s-at c = factor_late _ _ _ c.if-s-at.true

pub returns : goal.returns
returns c = c.unwrap_or.ensures ∙ entry-or _ _ ∙ factor-tells _ _ _ _ c.if-s-at.false c.entry.ensures
