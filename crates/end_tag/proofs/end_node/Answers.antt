-- `end_tag::end_node` meets its contract. Where what is held fits, the node closes.
use Rattle.end_tag.specs.Node.{node_over, node_done}
use native.Mathlib.Omega.{arith}
use Rattle.end_tag.proofs.end_node.Goals as goal

pub returns-then-held-gt-MOST_HELD : goal.returns-then-held-gt-MOST_HELD
returns-then-held-gt-MOST_HELD c = λ out. node_over c.stored_after-stored.ensures (omega (arith, c.saturating_sub-held.ensures, c.if-held-gt-MOST_HELD.true))

pub shape_of-frames : goal.shape_of-frames
shape_of-frames c = c.frames-1.given

pub shape_of-work : goal.shape_of-work
shape_of-work c = c.work-1.given

pub returns : goal.returns
returns c = λ out. rw c.unwrap_or-behind.ensures (node_done c.stored_after-stored.ensures (omega (arith, c.saturating_sub-held.ensures, c.if-held-gt-MOST_HELD.false)) c.close_node.ensures)
