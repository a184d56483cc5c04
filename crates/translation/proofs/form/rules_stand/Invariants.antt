-- `translation::form::rules_stand` meets its contract. The invariant: all rules stand exactly when the rest do.
use Rattle.std.proofs.Common.{◌-◌}
use Rattle.translation.proofs.Reading.{Walked}
use Rattle.written.specs.Form.{written_header, count_in}
use Rattle.translation.proofs.form.rules_stand.Given as goal

abbrev pub invariant-loop-rule : goal.invariant-loop-rule
invariant-loop-rule l = Walked l.written written_header (count_in l.written) l.at (count_in l.written - l._rule)
