-- `prepare` meets its contract: the words' report tells the records', a fifth as many, and which place is too short.
use Rattle.std.proofs.lemmas.Result.{err_from_is_err_and}
use Rattle.host.proofs.FromWords.{refused_prepared, short_prepared, done_prepared}
use Rattle.host.proofs.records.prepare.Goals as goal

-- The words are refused.
pub returns-in_err-records : goal.returns-in_err-records
returns-in_err-records c =
    let same = err_from_is_err_and c.from_residual.result c.from_residual.ensures.1 in
    rw (same.1, same.2) (refused_prepared _ _ c.in_err-records.ensures.calls c.requires)

-- There are fewer places than records.
pub returns-then-room-records : goal.returns-then-room-records
returns-then-room-records c = short_prepared _ c.in_ok-records.ensures.calls c.if-room-records.true

-- There are as many.
pub returns : goal.returns
returns c = done_prepared _ c.in_ok-records.ensures.calls c.if-room-records.false
