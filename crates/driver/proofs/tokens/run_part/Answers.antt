-- `driver::tokens::run_part` meets its contract. The words of a part are its tokens.
use Rattle.driver.proofs.Running.{part-few, runs_same}
use Rattle.driver.proofs.tokens.run_part.Goals as goal

pub returns-clause-few : goal.returns-clause-few
returns-clause-few c = part-few _ (runs_same _ _ c.decode-count.ensures.said c.run.ensures.calls) c.requires
