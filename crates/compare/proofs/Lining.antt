-- The lines of the comparison, one behind the other.
use Rattle.std.proofs.Common.{◌≡◌, subst, List, [], ℕ, Option}
use Rattle.programs.specs.Text.{Line, stopped_head}
use Rattle.compare.specs.declared.beginnings.Engine.{Engine}
use Rattle.compare.specs.Text.{compared_head, Parts, Lines}

-- All of them.
pub all_lines : {agreed stopped number : ℕ} {parting : Option Engine} {first second whole : List ℕ} → Line [] compared_head agreed first → number ≡ stopped → Line first stopped_head number second
    → Parts second agreed parting whole → Lines agreed stopped parting whole
all_lines {first = first} {second = second} a is b c = Lines.lines a (subst (λ (n : ℕ). Line first stopped_head n second) is b) c
