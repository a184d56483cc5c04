-- `wide_token` meets its contract: a number past a u16 is answered as the greatest u16 is.
use Rattle.demands.proofs.Telling.{position-tells}
use Rattle.host.proofs.Telling.{token_told}
use Rattle.host.proofs.parse_words.wide_token.Goals as goal

pub returns-clause-calls : goal.returns-clause-calls
returns-clause-calls c = token_told _ c.narrow.ensures c.token.ensures.calls

pub returns-clause-sentences : goal.returns-clause-sentences
returns-clause-sentences c = position-tells (token_told _ c.narrow.ensures c.token.ensures.calls)
