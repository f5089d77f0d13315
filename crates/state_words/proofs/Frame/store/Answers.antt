-- `state_words::Frame::store` meets its contract. Three writes in a row: the kind, the places, the marks.
use mathlib.Core.Path.{◌∙◌}
use lib.ListN.{length-set}
use Rattle.state_words.specs.Words.{frame_refused, frame_stored}
use native.Mathlib.Omega.{arith}
use borrow.Author.Rules.{rules}
use Rattle.state_words.proofs.Frame.store.Goals as goal

pub returns-then-frames-i : goal.returns-then-frames-i
returns-then-frames-i c = frame_refused (omega arith)

pub shape_of-frames : goal.shape_of-frames
shape_of-frames c = c.put-2.ensures.same ∙ (c.put.ensures.same ∙ simp length-set)

pub returns : goal.returns
returns c = frame_stored (omega arith) (search rules) (search rules) (rw c.from.ensures at c.put.ensures) c.put-2.ensures
