-- `state_words::Frame::load` meets its contract. The kind, and two parts of the frame's words, each copied whole.
use Rattle.state_words.specs.Words.{frame_none, frame_loaded}
use mathlib.Core.Path.{◌∙◌}
use native.Mathlib.Omega.{arith}
use Rattle.state_words.proofs.Frame.load.Goals as goal

pub returns-then-frames-i : goal.returns-then-frames-i
returns-then-frames-i c = c.none.ensures ∙ frame_none _ _ (omega arith)

pub returns : goal.returns
returns c = rw c.from-kind.ensures (frame_loaded _ _ _ _ (omega arith) c.put.ensures c.put-2.ensures)
