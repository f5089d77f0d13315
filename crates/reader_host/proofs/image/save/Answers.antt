-- `image::save` meets its contract: the parts stand end to end.
use Rattle.reader_host.specs.Rows.{row_there}
use Rattle.reader_host.specs.Saving.{saved}
use native.Mathlib.Omega.{arith}
use Rattle.reader_host.proofs.image.save.Goals as goal

pub returns : goal.returns
returns c = saved c.args.s c.requires (rw c.numbers_of.ensures at (row_there c.write_row.ensures)) (row_there c.write_row-2.ensures) (row_there c.write_row-3.ensures) (row_there c.write_row-4.ensures) c.write_ids.ensures (omega arith) (omega arith) (omega arith)
