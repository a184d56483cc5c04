-- `translation::write::put_u32` meets its contract.
use Rattle.std.proofs.Common.{arith, ◌∙◌}
use Rattle.translation.proofs.Putting.{u32_stored}
use Rattle.translation.proofs.write.put_u32.Goals as goal

pub returns : goal.returns
returns c = u32_stored _ _ _ c.requires.0 c.requires.1 (c.copy_from_slice.ensures.after ∙ c.to_be_bytes.ensures) (omega arith)
