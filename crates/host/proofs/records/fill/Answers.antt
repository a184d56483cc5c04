use Rattle.std.proofs.Common.{List, sym, ap, ◌∙◌, arith, set}
use Rattle.reports.specs.declared.Record.{Record}
use Rattle.host.proofs.FromWords.{none_filled, filled_more}
use Rattle.host.proofs.records.fill.Goals as goal

pub loop-i-init : goal.loop-i-init
loop-i-init c = sym (none_filled c.args.words.now c.args.records.now)

pub loop-i-preserved : goal.loop-i-preserved
loop-i-preserved c =
    ap (λ (place : List Record). set place c.loop-i.i c.record_at.result) c.loop-i.invariant
    ∙ filled_more c.args.words.now c.loop-i.i c.args.records.now c.record_at.result (omega (arith, c.requires.within, c.loop-i-test.true)) c.record_at.ensures
