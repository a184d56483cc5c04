-- `advance::unary::new_items` meets its contract.
use Rattle.std.proofs.Common.{ap, ◌∙◌, List, ◌+◌, length}
use Rattle.item.specs.Item.{Item}
use Rattle.advance.proofs.Dropping.{sorted_asks, sorted-new, sorted-ending}
use Rattle.advance.proofs.unary.new_items.Goals as goal

pub remove_unary_medial_items-requires : goal.remove_unary_medial_items-requires
remove_unary_medial_items-requires c =
    let required = c.requires in
    sorted_asks _ _ _ _ _ required.0 required.1 c.sort_medial_items.ensures

pub returns : goal.returns
returns c =
    let given = c.args in
    let required = c.requires in
    let items-sorted = c.sort_medial_items in
    let sorted-are = items-sorted.ensures in
    let removed = c.remove_unary_medial_items.ensures in record {
      end = removed.end
          ∙ ap (λ (is : List Item). given.from + length is) (sorted-new _ _ _ _ _ required.0 sorted-are);
      words = removed.words ∙ sorted-ending _ _ _ _ _ required.0 sorted-are;
    }
