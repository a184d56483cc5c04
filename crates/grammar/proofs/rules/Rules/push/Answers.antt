-- `grammar::rules::Rules::push` meets its contract.
use Rattle.grammar.proofs.Decoding.{stored-pushed}
use Rattle.grammar.proofs.rules.Rules.push.Goals as goal

pub returns : goal.returns
returns c = stored-pushed _ _ _ _ c.requires.0 c.requires.1
