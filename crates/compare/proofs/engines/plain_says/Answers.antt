-- `compare::engines::plain_says` meets its contract: with words enough and few tokens, a yes is the engine's.
use Rattle.std.proofs.Common.{ℕ, rules}
use Rattle.std.proofs.lemmas.List.{length-replicate}
use Rattle.compare.proofs.Saying.{plain-says}
use Rattle.compare.proofs.engines.plain_says.Goals as goal

pub returns : goal.returns
returns c = plain-says (length-replicate {A = ℕ} 4224 0) c.requires c.plain.result c.plain.ensures.table c.plain.ensures.sentences (search rules)
