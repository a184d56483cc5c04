-- `driver::tokens::read_tokens` meets its contract. `l.counter` parts are left.
use Rattle.parse.specs.Words.{words_in, Kept}
use Rattle.driver.proofs.Reading.{Reading}
use Rattle.driver.proofs.tokens.read_tokens.Given as goal

abbrev pub invariant-loop : goal.invariant-loop
invariant-loop g l = record {
  reads : Reading l.file l.fn.state (words_in l.fn.words) l.now (words_in l.words) l.taken l.counter;
  kept : Kept l.fn.words l.words;
}
