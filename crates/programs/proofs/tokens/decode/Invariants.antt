-- `programs::tokens::decode` meets its contract. The invariant: the tokens of the pairs passed stand in the words.
use Rattle.programs.proofs.Decoding.{Decoded}
use Rattle.programs.proofs.tokens.decode.Given as goal

abbrev pub invariant-loop-i : goal.invariant-loop-i
invariant-loop-i l = Decoded l.bytes l.initial.words l.i-iterator.iter.size l.i-iterator.iter.rest.now l.i-iterator.count l.words
