-- `literal::attributes` meets its contract.
use Rattle.literal.specs.Copied.{copying_begins, copying_more, copying_done}
use native.Mathlib.Omega.{arith}
use Rattle.literal.proofs.attributes.Goals as goal

pub loop-j-init : goal.loop-j-init
loop-j-init c = copying_begins (omega arith)

pub loop-j-preserved : goal.loop-j-preserved
loop-j-preserved c = copying_more c.loop-j.invariant (omega arith) c.name_of-name.ensures c.value_of-value.ensures c.attribute-to.ensures

pub shape_of-area : goal.shape_of-area
shape_of-area c = c.loop-j.invariant.put.same

pub returns : goal.returns
returns c = copying_done c.loop-j.invariant (omega arith)
