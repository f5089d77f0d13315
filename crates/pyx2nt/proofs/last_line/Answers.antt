-- `pyx2nt::last_line` meets its contract: two texts with their numbers, and a line end.
use mathlib.Core.Path.{refl, sym, ◌∙◌}
use Rattle.theorems.specs.Calls.{number_positive}
use Rattle.spec.specs.Bytes.{ascii}
use Rattle.pyx2nt.specs.LastLine.{no_line, line_goes_on, line_made}
use Rattle.pyx2nt.proofs.last_line.Goals as goal

pub put_number-m-requires : goal.put_number-m-requires
unfolding ascii
put_number-m-requires c = line_goes_on (ascii "# refused ") _ c.requires refl c.put_number-n.ensures

pub returns-in-Ok : goal.returns-in-Ok
returns-in-Ok c = rw c.in-Ok.is (no_line _ 0 _ refl)

pub returns-in-Err : goal.returns-in-Err
unfolding ascii
returns-in-Err c = rw (c.in-Err.is, ← c.from.ensures) (line_made _ _ c.requires (λ z. number_positive _ (sym c.from.ensures ∙ z)) c.put_number-n.ensures c.put_number-m.ensures c.put.ensures)
