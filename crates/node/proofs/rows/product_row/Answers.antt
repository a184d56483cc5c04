-- `rows::product_row` meets its contract: a fit Product has what its row asks.
use Rattle.std.proofs.Common.{sym, ap, ◌∙◌}
use Rattle.node.specs.Rows.{unfit_right}
use Rattle.node.proofs.Fit.{fit-product, fit-right}
use Rattle.node.proofs.rows.product_row.Goals as goal

pub alone_row-requires : goal.alone_row-requires
alone_row-requires c =
    let fit = fit-product c.requires in
    (fit.action_small, fit.left-before)

pub pair_row-requires : goal.pair_row-requires
pair_row-requires c =
    let fit = fit-product c.requires in
    let right = fit-right (sym (ap (unfit_right _) c.in-Some.is) ∙ fit.right-fit) in
    (fit.action_small, (fit.left-before, right.before))
