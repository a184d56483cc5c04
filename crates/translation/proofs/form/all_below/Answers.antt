-- `translation::form::all_below` meets its contract.
use Rattle.std.proofs.Common.{refl, ltb, ℕ, ◌∙◌, ap, rules, tests}
use Rattle.std.specs.List.{list_all}
use Rattle.std.proofs.lemmas.Iterator.Consumers.{YieldsList-from_first}
use Rattle.std.proofs.lemmas.Iterator.Search.{all_from_yields_List}
use Rattle.translation.proofs.Testing.{below-decided}
use Rattle.translation.proofs.form.all_below.Goals as goal

pub returns : goal.returns
returns c =
    let test = λ (x : ℕ). ltb x c.args.end in
    below-decided _ _ _ _
    (all_from_yields_List test _ _ _ c.all.ensures.ran (YieldsList-from_first (λ x. x) (λ s. s) _ refl) (λ x b q k. search (rules, tests)) ∙ ap (list_all test) c.new.ensures)
