-- `prediction::table` meets its contract. The closed table of the steps predicts.
use Rattle.std.proofs.Common.{rules}
use Rattle.bits.specs.Width.{row_words}
use Rattle.grammar.specs.inner.Decoded.{left_in, first_in}
use Rattle.prediction.specs.inner.Tables.{Seeded}
use Rattle.prediction.proofs.Reaching.{seed_low, seed_lone, predicts}
use Rattle.prediction.proofs.table.Goals as goal
use Rattle.prediction.proofs.table.Goals.{After-seed-steps}

-- The steps lead from left sides to first symbols.
firsts : (c : After-seed-steps) → Seeded (left_in c.args.rules.now.words) (first_in c.args.rules.now.words) row_words c.args.n c.args.rules.now.count c.seed-steps.result
firsts c = c.seed-steps.ensures _ _ (record { is = λ r x l e. search rules }) (record { is = λ r x l e. search rules })

pub close-requires : goal.close-requires
close-requires c =
    let within = c.requires.1 in
    let seeded = firsts (goal.at.close-requires c).After-seed-steps in
    (within.few, seeded.shape, seed_low _ _ _ _ within _ seeded, seed_lone _ _ _ _ within _ seeded _ c.lowest_left.ensures)

pub returns : goal.returns
returns c = λ t. predicts _ _ _ _ c.requires.1 _ (firsts (goal.at.returns c).After-seed-steps) t _ c.close.ensures
