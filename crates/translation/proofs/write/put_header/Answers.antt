-- `translation::write::put_header` meets its contract.
use Rattle.translation.proofs.Putting.{header-stored}
use Rattle.translation.proofs.write.put_header.Goals as goal

pub returns : goal.returns
returns c = header-stored c.args.file.now _ _ _ _ _ _ _ _ _ c.put_version.ensures c.put_u32.ensures c.put_u16.ensures c.put_u16-2.ensures c.put_u16-3.ensures
