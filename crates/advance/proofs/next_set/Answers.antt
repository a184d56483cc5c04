-- `advance::next_set` meets its contract.
use Rattle.std.proofs.Common.{arith}
use Rattle.advance.proofs.Following.{end_fits, follows_asks, follows}
use Rattle.advance.proofs.next_set.Goals as goal

pub overflow_cast-starts : goal.overflow_cast-starts
overflow_cast-starts c =
    let required = c.requires in
    let kept-found = c.last_kept-kept in
    let pruned = c.remove_unreachable_sets-start in
    omega (
      arith,
      end_fits _ _ _ _ _ _ _ _ _ _ required _ _ _ _ _ kept-found.ensures pruned.ensures,
    )

pub prediction_pass-requires : goal.prediction_pass-requires
prediction_pass-requires c =
    let required = c.requires in
    let kept-found = c.last_kept-kept in
    let pruned = c.remove_unreachable_sets-start in
    follows_asks _ _ _ _ _ _ _ _ _ _ required _ _ _ _ _ kept-found.ensures pruned.ensures

pub returns : goal.returns
returns c =
    let required = c.requires in
    let kept-found = c.last_kept-kept in
    let pruned = c.remove_unreachable_sets-start in
    follows _ _ _ _ _ _ _ _ _ _ required _ _ _ _ _ kept-found.ensures pruned.ensures _
    c.prediction_pass.ensures
