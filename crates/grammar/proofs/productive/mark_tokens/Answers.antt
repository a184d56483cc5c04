-- `grammar::productive::mark_tokens` meets its contract.
use Rattle.std.proofs.Common.{refl}
use Rattle.grammar.proofs.Marks.{tokens_filled}
use Rattle.grammar.proofs.productive.mark_tokens.Goals as goal

pub returns : goal.returns
returns c = tokens_filled _ _ _ refl c.requires (c.fill.ensures.after (λ y e. e))
