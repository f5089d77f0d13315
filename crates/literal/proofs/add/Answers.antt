-- `literal::add` meets its contract: 7, or the tail of the frame on top grows.
use Prim.Native.Nat.{◌+◌}
use Rattle.state_inner.specs.Calls.{held_in}
use borrow.Author.Tests.{leb-true, leb-false}
use Rattle.spec.specs.Limits as L
use Rattle.literal.specs.Added.{add_over, add_done}
use native.Mathlib.Omega.{arith}
use Rattle.std.proofs.Common.{sym}
use Rattle.std.proofs.Common.{◌∙◌}
use Rattle.literal.proofs.add.Goals as goal

pub returns-then-not-has_room : goal.returns-then-not-has_room
unfolding L.all
returns-then-not-has_room c = add_over c.kept-size.ensures (leb-false _ 49152 (sym c.has_room.ensures ∙ c.if-not-has_room.true))

pub slice_bounds-add_xml-end : goal.slice_bounds-add_xml-end
unfolding L.all
slice_bounds-add_xml-end c = omega (arith, leb-true (held_in c.args.r + c.kept-size.result + c.args.more) 49152 (sym c.has_room.ensures ∙ c.if-not-has_room.false))

pub shape_of-frames : goal.shape_of-frames
shape_of-frames c = c.frames-1.given

pub shape_of-work : goal.shape_of-work
shape_of-work c = c.work-1.given

pub returns : goal.returns
unfolding L.all
returns c = rw c.unwrap_or-behind.ensures (add_done c.kept-size.ensures (leb-true _ 49152 (sym c.has_room.ensures ∙ c.if-not-has_room.false)) (omega arith) c.add_xml.ensures)
