-- `brinesaddle_latest_set` meets its contract: the part that the call beneath returns, by its place.
use Rattle.std.proofs.Common.{arith}
use Rattle.recognizer.proofs.Answered.{number-some}
use Rattle.host.proofs.Placed.{few_items, reports_in, refused_in}
use Rattle.host.proofs.brinesaddle_latest_set.Goals as goal

pub overflow_mul-first : goal.overflow_mul-first
overflow_mul-first c = let few = few_items (rw c.state.ensures at c.in-Ok.ensures.calls) in record { fits = omega (arith, few) }

pub returns-in-Ok : goal.returns-in-Ok
returns-in-Ok c = record { calls = reports_in (rw c.state.ensures at c.in-Ok.ensures.calls) }

pub returns-in-Err : goal.returns-in-Err
returns-in-Err c = record { calls = rw c.number.ensures (refused_in (rw c.state.ensures at c.in-Err.ensures.calls) (number-some c.in-Err.why)) }
