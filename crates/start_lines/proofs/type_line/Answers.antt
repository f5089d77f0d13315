-- `start_lines::type_line` meets its contract: no line, or one.
use Rattle.start_lines.specs.Lines.{no_type, one_type}
use Rattle.spec.specs.Bytes.{ascii}
use mathlib.Core.Path.{refl}
use mathlib.Core.List.{[]}
use native.Mathlib.Omega.{arith}
use Rattle.start_lines.proofs.type_line.Goals as goal

pub returns-in-None : goal.returns-in-None
returns-in-None c = rw c.in-None.is (no_type _ [] refl (omega arith))

pub shape_of-out : goal.shape_of-out
shape_of-out c = c.out-1.given

pub returns-in-Some : goal.returns-in-Some
unfolding ascii
returns-in-Some c = rw c.in-Some.is (one_type _ _ refl c.rdf_line.ensures)
