-- `writer::quoted::write` meets its contract: nothing, or runs.
use Rattle.spec.specs.NTriples.{literal_byte}
use Rattle.writer.specs.Coded.{coded_none}
use native.Mathlib.Omega.{arith}
use Rattle.writer.proofs.quoted.write.Goals as goal

pub returns-then-s-eq0 : goal.returns-then-s-eq0
returns-then-s-eq0 c = coded_none literal_byte _ (omega arith) (omega arith)

pub returns : goal.returns
returns c = c.write.ensures
