-- `advance::unary::remove_unary_medial_items` meets its contract.
use Rattle.std.proofs.Common.{◌∙◌, arith}
use Rattle.advance.proofs.Dropping.{cut-ending, cut-count}
use Rattle.advance.proofs.unary.remove_unary_medial_items.Goals as goal

pub returns : goal.returns
returns c =
    let required = c.requires in
    let near = c.binary_end-end.ensures in record {
      end = cut-count _ _ _ _ near.within.0 near.are;
      words = c.clear.ensures ∙ cut-ending _ _ _ _ near.within.0
          (omega (arith, near.within.1, required.0.there)) near.are;
    }
