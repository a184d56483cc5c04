-- `reading::step` meets its contract: what is read stands behind the fillers.
use Rattle.std.proofs.Common.{sym, ap, ◌∙◌, Ok}
use Rattle.node.specs.Answers.{found}
use Rattle.trees.proofs.Heads.{read_step, none_step, end_none, fault_none}
use Rattle.trees.proofs.reading.step.Goals as goal

pub returns-in-Ok-Some : goal.returns-in-Ok-Some
returns-in-Ok-Some c =
    c.step_of.ensures
    ∙ read_step _ _ _ _ (sym (ap (λ r. found (Ok r)) c.in-Ok-Some.field-0-is) ∙ c.in-Ok-Some.ensures.answers)

pub returns-in-Ok-None : goal.returns-in-Ok-None
returns-in-Ok-None c =
    none_step _ _ _ (sym (ap (λ r. found (Ok r)) c.in-Ok-None.field-0-is) ∙ c.in-Ok-None.ensures.answers) end_none

pub returns-in-Err : goal.returns-in-Err
returns-in-Err c = none_step _ _ _ c.in-Err.ensures.answers (fault_none _)
