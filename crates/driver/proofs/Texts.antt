-- The driver's lines, one behind the other.
use Rattle.std.proofs.Common.{◌≡◌, subst, Bool, List, [], ◌++◌, ℕ}
use Rattle.programs.specs.Text.{Line, stopped_head}
use Rattle.driver.specs.Text.{Report, read_head, set_head, finished_line}
use Rattle.driver.specs.Text.Report.{lines}

-- Four lines one behind the other are a report.
pub a_report :
    (taken stopped : ℕ) (yes : Bool) (set : ℕ) (first second third whole : List ℕ) → Line [] read_head taken first
    → Line first stopped_head stopped second → third ≡ second ++ finished_line yes → Line third set_head set whole
    → Report taken stopped yes set whole
a_report taken stopped whether set first second third whole a b ends d =
    lines a b (subst (λ (t : List ℕ). Line t set_head set whole) ends d)
