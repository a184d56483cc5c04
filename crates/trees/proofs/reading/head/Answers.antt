-- `reading::head` meets its contract: what is read where no filler is stands there.
use Rattle.std.proofs.Common.{sym, ap, ◌∙◌, Ok}
use Rattle.node.specs.Answers.{found}
use Rattle.trees.proofs.Heads.{filler-head, read_head, none_head, end_none, fault_none}
use Rattle.trees.proofs.reading.head.Goals as goal

pub returns-then-filler_at : goal.returns-then-filler_at
returns-then-filler_at c = filler-head _ _ (sym c.filler_at.ensures ∙ c.if-filler_at.true)

pub returns-in-Ok-Some : goal.returns-in-Ok-Some
returns-in-Ok-Some c =
    c.head_of.ensures
    ∙ read_head _ _ _ _ (sym c.filler_at.ensures ∙ c.if-filler_at.false)
    (sym (ap (λ r. found (Ok r)) c.in-Ok-Some.field-0-is) ∙ c.in-Ok-Some.ensures.answers)

pub returns-in-Ok-None : goal.returns-in-Ok-None
returns-in-Ok-None c =
    none_head _ _ _ (sym (ap (λ r. found (Ok r)) c.in-Ok-None.field-0-is) ∙ c.in-Ok-None.ensures.answers) end_none

pub returns-in-Err : goal.returns-in-Err
returns-in-Err c = none_head _ _ _ c.in-Err.ensures.answers (fault_none _)
