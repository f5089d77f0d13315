-- `telling::long_line` meets its contract: a number between two texts.
use native.Mathlib.Omega.{arith}
use Rattle.spec.specs.Bytes.{ascii}
use Rattle.iceshaft.specs.Telling.{long_line, number-told}
use Rattle.iceshaft.proofs.telling.long_line.Goals as goal

pub returns : goal.returns
unfolding long_line ascii
returns c = number-told (ascii "iceshaft: argument ") (ascii " is longer than 4096 bytes\n") _ (omega (arith, c.requires)) c.put_number-n.ensures c.put.ensures
