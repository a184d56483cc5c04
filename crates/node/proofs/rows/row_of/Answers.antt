-- `rows::row_of` meets its contract: what is not unfit has the limits that its row asks.
use Rattle.std.proofs.Common.{sym, ap, ◌∙◌}
use Rattle.node.specs.Rows.{unfit}
use Rattle.node.proofs.Fit.{fit-sum}
use Rattle.node.proofs.rows.row_of.Goals as goal

pub sum_row-requires : goal.sum_row-requires
sum_row-requires c = fit-sum _ c.in-Sum.is c.requires

pub product_row-requires : goal.product_row-requires
unfolding unfit
product_row-requires c = sym (ap (unfit _) c.in-Product.is) ∙ c.requires
