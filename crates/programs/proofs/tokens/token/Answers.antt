-- `programs::tokens::token` meets its contract.
use Rattle.std.proofs.Common.{arith}
use Rattle.programs.proofs.Decoding.{two_bytes, one_byte}
use Rattle.programs.proofs.tokens.token.Goals as goal

pub returns-in-len2 : goal.returns-in-len2
returns-in-len2 c = two_bytes _ _ (omega arith) c.from_be_bytes.ensures

pub returns-in_default : goal.returns-in_default
returns-in_default c = one_byte _ (omega (arith, c.in_default.len_below, c.requires))
