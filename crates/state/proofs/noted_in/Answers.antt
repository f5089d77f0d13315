-- `state::noted_in` meets its contract.
use Rattle.state.specs.Tests.{note_begins, note_more, note_done}
use Rattle.state_words.specs.Words.{load_frame_lem}
use mathlib.Core.Path.{◌∙◌}
use native.Mathlib.Omega.{arith}
use Rattle.state.proofs.noted_in.Goals as goal

pub loop-i-init : goal.loop-i-init
loop-i-init c = note_begins

pub overflow_add-noted : goal.overflow_add-noted
overflow_add-noted c = omega (arith, c.loop-i.invariant.below, c.noted_of-noted.ensures.1)

pub loop-i-preserved : goal.loop-i-preserved
loop-i-preserved c = note_more c.loop-i.invariant (omega arith) (c.load.ensures ∙ load_frame_lem _ _ (omega arith)) c.noted_of-noted.ensures.0 c.noted_of-noted.ensures.1

pub returns : goal.returns
returns c = note_done c.loop-i.invariant (omega arith)
