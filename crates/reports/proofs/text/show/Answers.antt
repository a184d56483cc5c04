-- `reports::text::show` meets its contract.
use mathlib.Core.Path.{refl}
use Rattle.reports.proofs.Lines.{shows}
use Rattle.reports.proofs.text.show.Goals as goal

pub returns : goal.returns
returns c = shows c.args.rules.now.words c.requires c.rule-rule.ensures refl c.left.ensures.0 c.first.ensures.0 c.second.ensures.0 c.origin.ensures refl
