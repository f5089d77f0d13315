-- `read` of `usize` meets the contract of `Little`.
use Rattle.reader_host.specs.Rows.{eight_read}
use Rattle.reader_host.proofs.little.UsizeLittle.read.Goals as goal

pub returns : goal.returns
returns c = eight_read _ _ c.requires c.copy_from_slice.ensures.after c.from_le_bytes.ensures
