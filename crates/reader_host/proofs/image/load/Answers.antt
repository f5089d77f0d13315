-- `image::load` meets its contract.
use mathlib.Core.Path.{refl}
use Rattle.reader_host.specs.Image.{decode_short, decode_flags}
use Rattle.reader_host.specs.Rows.{row_back}
use Rattle.reader_host.specs.Saving.{held, failed, loads_none, loads_some}
use native.Mathlib.Omega.{arith}
use Rattle.reader_host.proofs.image.load.Goals as goal

pub returns-then-b-ne-BYTES : goal.returns-then-b-ne-BYTES
returns-then-b-ne-BYTES c = loads_none refl (decode_short _ c.if-b-ne-BYTES.true)

pub returns-in_err-registers : goal.returns-in_err-registers
returns-in_err-registers c = loads_none c.from_residual.ensures (decode_flags _ c.if-b-ne-BYTES.false (rw (row_back c.read_row.ensures) at (failed _ _ c.registers_of.ensures c.in_err-registers.was)))

pub returns : goal.returns
returns c =
    let h = held _ c.registers_of.ensures c.in_ok-registers.was in
    loads_some _ (λ i. omega (arith, c.type_inv.b i)) c.if-b-ne-BYTES.false (row_back c.read_row.ensures) h.0 h.1 (row_back c.read_row-2.ensures) (row_back c.read_row-3.ensures) (row_back c.read_row-4.ensures) (row_back c.read_row-5.ensures) (row_back c.read_row-6.ensures)
