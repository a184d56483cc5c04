use Rattle.completion.specs.Lent.{its_rules}
use Rattle.completion.proofs.Searching.{found}
use Rattle.completion.proofs.pass.Pass.medial_item_set_range.Goals as goal

pub returns : goal.returns
returns c =
    let a = c.args in
    let its = a.self.now in
    found (its_rules its) its.items.now a.from a.to c.requires.1 a.x c.first_not_below-first.result c.first_not_below-end.result c.first_not_below-first.ensures c.first_not_below-end.ensures
