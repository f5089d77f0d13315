-- `pyx::unescape_bytes` meets its contract.
use native.Mathlib.Omega.{arith}
use Rattle.copy.specs.Copy.{wrote_same}
use Rattle.pyx.proofs.Escapes.{passed-begins, passed-room, passed-within, passed_more, passed_wrong, passed_done}
use Rattle.pyx.proofs.unescape_bytes.Goals as goal

pub loop-i-init : goal.loop-i-init
loop-i-init c = passed-begins c.requires

pub returns-in_err-b : goal.returns-in_err-b
returns-in_err-b c = rw c.from_residual.ensures (passed_wrong c.loop-i.invariant c.in_err-b.ensures)

pub bounds-scratch-to : goal.bounds-scratch-to
bounds-scratch-to c = passed-room c.loop-i.invariant (omega arith)

pub overflow_add-to : goal.overflow_add-to
overflow_add-to c = omega (arith, passed-room c.loop-i.invariant (omega arith))

pub overflow_add-i : goal.overflow_add-i
overflow_add-i c = omega (arith, passed-within c.loop-i.invariant c.in_ok-b.ensures)

pub loop-i-smaller : goal.loop-i-smaller
loop-i-smaller c = let w = c.in_ok-b.ensures in omega (arith, w.some, passed-within c.loop-i.invariant w)

pub loop-i-preserved : goal.loop-i-preserved
loop-i-preserved c = passed_more c.loop-i.invariant (omega arith) c.in_ok-b.ensures

pub shape_of-scratch : goal.shape_of-scratch
shape_of-scratch c = wrote_same c.loop-i.invariant.done.wrote

pub returns : goal.returns
returns c = passed_done c.loop-i.invariant (omega arith)
