-- What calls keep of a pass they keep together.
use Rattle.std.proofs.Common.{◌∙◌}
use Rattle.completion.specs.declared.pass.Pass.{Pass as Lent}
use Rattle.completion.specs.Lent.{Kept}

pub kept_trans : (p q r : Lent) → Kept p q → Kept q r → Kept p r
kept_trans p q r a b = (b.0 ∙ a.0, b.1 ∙ a.1, b.2 ∙ a.2, b.3 ∙ a.3, b.4 ∙ a.4, b.5 ∙ a.5)
