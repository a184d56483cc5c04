-- What is left to scan gives what the whole position gives.
use Rattle.completion.specs.Lent.{its_rules, pass_in, Kept}
use Rattle.completion.proofs.Scanning.{Scans}
use Rattle.completion.proofs.pass.Pass.scan_all.Given as goal

abbrev pub invariant-loop-kind : goal.invariant-loop-kind
invariant-loop-kind l =
    Kept l.fn.self l.self × Scans (its_rules l.fn.self) l.fn.self.starts.now l.fn.self.rows.now l.e l.kinds (pass_in l.fn.self) (pass_in l.self) l.kind-index
