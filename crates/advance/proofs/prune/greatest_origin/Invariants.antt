-- `advance::prune::greatest_origin` meets its contract. The invariant: `m` is the greatest origin from place `p` on, or 0.
use Rattle.advance.proofs.Pruning.{Reaching}
use Rattle.advance.proofs.prune.greatest_origin.Given as goal

abbrev pub invariant-loop-p : goal.invariant-loop-p
invariant-loop-p l = Reaching l.items l.from l.to l.p l.m
