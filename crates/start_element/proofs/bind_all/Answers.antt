-- `start_element::bind_all` meets its contract.
use Rattle.start_element.specs.Rows.{entering_begins, entering_fits, entering_more, entering_done}
use native.Mathlib.Omega.{arith}
use Rattle.start_element.proofs.bind_all.Goals as goal

pub loop-j-init : goal.loop-j-init
loop-j-init c = entering_begins

pub bind_at-next-requires : goal.bind_at-next-requires
bind_at-next-requires c = entering_fits c.loop-j.invariant (omega arith) c.requires

pub loop-j-preserved : goal.loop-j-preserved
loop-j-preserved c = entering_more c.loop-j.invariant (omega arith) c.bind_at-next.ensures

pub shape_of-work : goal.shape_of-work
shape_of-work c = c.loop-j.invariant.entered.same_bytes

pub shape_of-bindings : goal.shape_of-bindings
shape_of-bindings c = c.loop-j.invariant.entered.same_words

pub returns : goal.returns
returns c = entering_done c.loop-j.invariant (omega arith)
