-- `prediction::follow::table` meets its contract. What stands beside the symbols that a symbol ends is what follows it.
use Rattle.std.proofs.Common.{rules, arith}
use Rattle.bits.specs.Width.{row_words}
use Rattle.grammar.specs.inner.Decoded.{left_in}
use Rattle.prediction.specs.inner.Tables.{last_in, Seeded}
use Rattle.prediction.proofs.Cells.{steps_low}
use Rattle.prediction.proofs.Following.{last_is, last-low, followers}
use Rattle.prediction.proofs.follow.table.Goals as goal
use Rattle.prediction.proofs.follow.table.Goals.{After-seed-ends}

-- The steps lead from last symbols to left sides.
lasts : (c : After-seed-ends) → Seeded (last_in c.args.rules.now.words) (left_in c.args.rules.now.words) row_words c.args.n c.args.rules.now.count c.seed-ends.result
lasts c = c.seed-ends.ensures _ _ (record { is = λ r x l e. last_is c.args.rules.now.words r x (search rules) }) (record { is = λ r x l e. search rules })

pub close-ended-requires : goal.close-ended-requires
close-ended-requires c =
    let required = c.requires in
    let ends = lasts (goal.at.close-ended-requires c).After-seed-ends in
    (required.1.within.few, ends.shape, steps_low _ _ _ _ _ _ (λ r l. last-low _ _ _ r required.1 l) ends, record { alone = λ x y below b. absurd (omega arith) })

pub beside-behind-requires : goal.beside-behind-requires
beside-behind-requires c =
    let required = c.requires in
    let predicted = c.table-begins.ensures 0 in
    (required.0, required.1, record { rows = predicted.rows; row = predicted.row })

pub returns : goal.returns
returns c =
    let ends = lasts (goal.at.returns c).After-seed-ends in
    λ t. followers _ _ _ _ c.requires.1 t _ _ _ _ _ ends c.close-ended.ensures (c.table-begins.ensures t) c.beside-behind.ensures c.across.ensures
