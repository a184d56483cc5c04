use mathlib.Core.Path.{refl}
use native.Mathlib.Omega.{arith}
use lib.ListN.{length}
use Rattle.recognizer.proofs.Remaining.{few_positions}
use Rattle.recognizer.proofs.run_kinds.Goals as goal

pub run_over-requires : goal.run_over-requires
run_over-requires c =
    let words = c.args.positions.now in
    λ k. ((refl, record {}), omega (arith, few_positions (length words) words, c.well_formed.1.1.1.0.0))
