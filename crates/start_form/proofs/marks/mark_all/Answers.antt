-- `start_form::marks::mark_all` meets its contract.
use Rattle.spec.specs.Bytes.{ascii}
use Rattle.spec.specs.Namespaces.{xml_name}
use Rattle.start_form.specs.Marks.{all_begins, all_more, all_done}
use native.Mathlib.Omega.{arith}
use Rattle.start_form.proofs.marks.mark_all.Goals as goal

pub loop-j-init : goal.loop-j-init
loop-j-init c = all_begins c.requires

pub bounds-near-j : goal.bounds-near-j
bounds-near-j c = omega (arith, c.loop-j.invariant.near_same, c.loop-j.invariant.room.near)

pub bounds-far-j : goal.bounds-far-j
bounds-far-j c = omega (arith, c.loop-j.invariant.far_same, c.loop-j.invariant.room.far)

pub loop-j-preserved : goal.loop-j-preserved
unfolding xml_name ascii
loop-j-preserved c = all_more c.loop-j.invariant (omega arith) c.load-class.ensures c.space_of-space.ensures c.tail_of-name.ensures c.mark.ensures c.mark-in-loop-j.ensures

pub returns : goal.returns
returns c = all_done c.loop-j.invariant (omega arith)
