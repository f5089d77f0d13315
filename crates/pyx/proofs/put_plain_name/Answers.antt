-- `pyx::put_plain_name` meets its contract.
use native.Mathlib.Nat.{add-zero}
use native.Mathlib.Omega.{arith}
use Rattle.copy.specs.Copy.{wrote_none, wrote_same}
use Rattle.pyx.proofs.Names.{spelled_begins, copied_more, copied-part, copied-name}
use Rattle.pyx.proofs.put_plain_name.Goals as goal

pub loop-i-init : goal.loop-i-init
loop-i-init c = (spelled_begins _, rw add-zero (wrote_none (omega (arith, c.requires))))

pub next_part-requires : goal.next_part-requires
next_part-requires c = record { i_in_bounds = omega arith; spelled = c.loop-i.invariant.0 }

pub returns-in_err-part : goal.returns-in_err-part
returns-in_err-part c = rw c.from_residual.ensures (copied-part c.args.name.now c.loop-i.invariant.1 c.loop-i.invariant.0.within)

pub overflow_add-scratch : goal.overflow_add-scratch
overflow_add-scratch c = omega (arith, c.requires, wrote_same c.loop-i.invariant.1)

pub bounds-scratch-at : goal.bounds-scratch-at
bounds-scratch-at c = omega (arith, c.requires, wrote_same c.loop-i.invariant.1)

pub loop-i-preserved : goal.loop-i-preserved
loop-i-preserved c = (rw c.in_ok-part.was at c.next_part.ensures, copied_more c.args.name.now c.loop-i.invariant.1 (omega arith) c.requires)

pub returns-then-name-part : goal.returns-then-name-part
returns-then-name-part c = copied-part c.args.name.now c.loop-i.invariant.1 (omega arith)

pub shape_of-scratch : goal.shape_of-scratch
shape_of-scratch c = wrote_same c.loop-i.invariant.1

pub returns : goal.returns
returns c = copied-name c.args.name.now c.loop-i.invariant.1 c.loop-i.invariant.0 (omega arith) (λ e. c.if-name-part.false (omega arith))
