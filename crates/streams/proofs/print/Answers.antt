-- `streams::print` meets its contract.
use native.Mathlib.Omega.{arith}
use Rattle.streams.specs.Deciding.{going_first, going_next, left_less, prints}
use Rattle.streams.proofs.print.Goals as goal

pub loop-taken-init : goal.loop-taken-init
loop-taken-init g c = going_first _ c.begun-printing.ensures

pub slice_bounds-write-count : goal.slice_bounds-write-count
slice_bounds-write-count g c = omega (arith, c.loop-taken.invariant.fewer)

pub slice_bounds-write-start : goal.slice_bounds-write-start
slice_bounds-write-start g c = omega (arith, c.loop-taken.invariant.fewer)

pub after-printing-requires : goal.after-printing-requires
after-printing-requires g c = omega (arith, c.write-n.ensures, c.loop-taken.invariant.fewer, c.loop-taken.invariant.size)

pub loop-taken-smaller : goal.loop-taken-smaller
loop-taken-smaller g c = left_less c.loop-taken.printing _ c.goes_on.ensures c.loop-taken-test.true (omega (arith, c.write-n.ensures, c.loop-taken.invariant.fewer, c.loop-taken.invariant.size)) c.after-printing.ensures

pub loop-taken-preserved : goal.loop-taken-preserved
loop-taken-preserved g c = going_next _ c.loop-taken.invariant c.goes_on.ensures c.loop-taken-test.true (omega (arith, c.write-n.ensures, c.loop-taken.invariant.fewer)) c.after-printing.ensures

pub returns : goal.returns
returns g c = prints c.loop-taken.invariant c.goes_on.ensures c.loop-taken-test.false c.printed.ensures
