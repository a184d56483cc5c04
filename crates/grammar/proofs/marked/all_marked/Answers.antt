-- `grammar::marked::all_marked` meets its contract.
use Rattle.std.proofs.Common.{rules, arith, true, false, ◌≡◌}
use borrow.Author.Tests.{tests}
use Rattle.std.proofs.lemmas.Iterator.{cases_from_all, YieldsList-from_slice}
use Rattle.grammar.proofs.Marks.{part-marked}
use Rattle.grammar.proofs.marked.all_marked.Goals as goal

pub returns-else-to-from : goal.returns-else-to-from
returns-else-to-from c =
    part-marked _ _ _ (omega (arith, c.if-to-from.false)) (omega (arith, c.told-marks, c.requires)) _
    (cases_from_all _ _ _ (λ m. m ≡ true) (λ m. m ≡ false) c.all.ensures.ran (YieldsList-from_slice _ c.iter.ensures.rest) (λ x q k. search (rules, tests)) (λ x q k. search (rules, tests)))
