-- `advance::unary::binary_end` meets its contract. The invariant: from place `p` on no item has a second.
use Rattle.grammar.specs.inner.Decoded.{rules_of}
use Rattle.advance.proofs.Dropping.{Dropping}
use Rattle.advance.proofs.unary.binary_end.Given as goal

abbrev pub invariant-loop-p : goal.invariant-loop-p
invariant-loop-p l = Dropping (rules_of l.rules) l.items l.from l.to l.p
