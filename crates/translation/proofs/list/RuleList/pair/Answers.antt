-- `translation::list::RuleList::pair` meets its contract.
use Rattle.std.proofs.Common.{◌∷◌, [], ◌++◌}
use Rattle.std.proofs.lemmas.Result.{err_from_is_err_and}
use Rattle.grammar.specs.Rules.{none}
use Rattle.written.specs.Split.{rule, given, pair}
use Rattle.translation.proofs.Words.{lists_on, lists-stops}
use Rattle.translation.proofs.list.RuleList.pair.Goals as goal

pub returns-in_err-add : goal.returns-in_err-add
unfolding pair
returns-in_err-add c =
    let p = err_from_is_err_and c.from_residual.result c.from_residual.ensures.1 in
    rw (p.1) (lists-stops (rule _ _ _ ∷ []) (given c.args.c_empty (rule _ _ none ∷ []) ++ given c.args.b_empty (rule _ _ none ∷ [])) c.in_err-add.ensures)

pub returns-in_err-add_if : goal.returns-in_err-add_if
unfolding pair
returns-in_err-add_if c =
    let exit = c.from_residual-in_err-add_if in
    let p = err_from_is_err_and exit.result exit.ensures.1 in
    rw (p.1)
    (lists_on (rule _ _ _ ∷ []) (given c.args.c_empty (rule _ _ none ∷ []) ++ given c.args.b_empty (rule _ _ none ∷ [])) c.in_ok-add.ensures
    (lists-stops (given c.args.c_empty (rule _ _ none ∷ [])) (given c.args.b_empty (rule _ _ none ∷ [])) c.in_err-add_if.ensures))

pub returns : goal.returns
unfolding pair
returns c =
    lists_on (rule _ _ _ ∷ []) (given c.args.c_empty (rule _ _ none ∷ []) ++ given c.args.b_empty (rule _ _ none ∷ [])) c.in_ok-add.ensures
    (lists_on (given c.args.c_empty (rule _ _ none ∷ [])) (given c.args.b_empty (rule _ _ none ∷ [])) c.in_ok-add_if.ensures c.add_if-2.ensures)
