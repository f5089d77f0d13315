-- `telling::start_line` meets its contract: a number between two texts.
use native.Mathlib.Omega.{arith}
use Rattle.spec.specs.Bytes.{ascii}
use Rattle.iceshaft.specs.Telling.{start_line, number-told}
use Rattle.iceshaft.proofs.telling.start_line.Goals as goal

pub returns : goal.returns
unfolding start_line ascii
returns c = number-told (ascii "iceshaft: refused ") (ascii " at start\n") _ (omega (arith, c.requires)) c.put_number-n.ensures c.put.ensures
