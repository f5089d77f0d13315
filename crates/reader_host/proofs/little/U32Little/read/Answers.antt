-- `read` of `u32` meets the contract of `Little`.
use Rattle.reader_host.specs.Rows.{four_read}
use Rattle.reader_host.proofs.little.U32Little.read.Goals as goal

pub returns : goal.returns
returns c = four_read _ _ c.requires c.copy_from_slice.ensures.after c.from_le_bytes.ensures
