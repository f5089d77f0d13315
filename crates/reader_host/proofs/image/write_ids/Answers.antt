-- `image::write_ids` meets its contract.
use Rattle.reader_host.specs.Rows.{row_there}
use Rattle.reader_host.specs.Saving.{write_both}
use native.Mathlib.Omega.{arith}
use Rattle.reader_host.proofs.image.write_ids.Goals as goal

pub returns : goal.returns
returns c = write_both (row_there c.write_row.ensures) (row_there c.write_row-2.ensures) (omega arith) (omega arith)
