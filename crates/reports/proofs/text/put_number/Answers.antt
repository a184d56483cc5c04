-- `reports::text::put_number` meets its contract.
use Rattle.reports.proofs.Putting.{put_then}
use Rattle.reports.proofs.text.put_number.Goals as goal

pub returns : goal.returns
returns c =
    let decimal-put = c.put_decimal-end in
    put_then decimal-put.ensures c.put.ensures
