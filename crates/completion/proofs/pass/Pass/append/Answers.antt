-- Each answer of the node writer is one case of the rule.
use Rattle.std.proofs.Common.{refl, ap, ◌∙◌, ℕ, Result}
use Rattle.node.specs.Answers.{values_of, written}
use Rattle.node.specs.declared.Unwritten.{Unwritten}
use Rattle.completion.specs.Lent.{pass_in}
use Rattle.completion.proofs.Pushes.{append-wrote, append-refused, refusal-tells}
use Rattle.completion.proofs.pass.Pass.append.Goals as goal

pub returns-in-Ok-clause-pass : goal.returns-in-Ok-clause-pass
returns-in-Ok-clause-pass c =
    append-wrote (pass_in c.args.self.now) c.args.node c.write.result _ _ refl c.write.ensures c.in-Ok.is

pub returns-in-Err-clause-pass : goal.returns-in-Err-clause-pass
returns-in-Err-clause-pass c =
    append-refused (pass_in c.args.self.now) c.args.node c.write.result _ refl c.write.ensures
    (ap (λ (w : Result ℕ Unwritten). values_of (written w)) c.in-Err.is ∙ refusal-tells (pass_in c.args.self.now) _)
