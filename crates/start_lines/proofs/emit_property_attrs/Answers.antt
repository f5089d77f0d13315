-- `start_lines::emit_property_attrs` meets its contract.
use Rattle.start_lines.specs.Lines.{emitting_begins, emitting_more, emitting_done}
use native.Mathlib.Omega.{arith}
use Rattle.start_lines.proofs.emit_property_attrs.Goals as goal

pub loop-j-init : goal.loop-j-init
loop-j-init c = emitting_begins (omega arith)

pub loop-j-preserved : goal.loop-j-preserved
loop-j-preserved c = emitting_more c.loop-j.invariant (omega arith) c.emit_property_attr-to.ensures

pub returns : goal.returns
returns c = emitting_done c.loop-j.invariant (omega arith)
