-- `state::frames_ok` meets its contract.
use Rattle.state.specs.Tests.{frame-begins, frame_stop, frame_more, other_start, frame_done}
use Rattle.state_words.specs.Words.{load_frame_lem}
use mathlib.Core.Path.{◌∙◌}
use native.Mathlib.Omega.{arith}
use Rattle.std.proofs.Common.{sym}
use Rattle.state.proofs.frames_ok.Goals as goal

pub loop-i-init : goal.loop-i-init
loop-i-init c = frame-begins

pub returns-then-not-element_ok : goal.returns-then-not-element_ok
returns-then-not-element_ok c = frame_stop c.loop-i.invariant (omega arith) (sym c.element_ok.ensures ∙ c.if-not-element_ok.true)

pub loop-i-preserved : goal.loop-i-preserved
loop-i-preserved c = rw (c.wide-t.ensures.0, c.wide-b.ensures.0) (frame_more c.loop-i.invariant (omega arith) (sym c.element_ok.ensures ∙ c.if-not-element_ok.false) (c.load-f.ensures ∙ load_frame_lem _ _ (omega arith)))

pub returns-then-base-t : goal.returns-then-base-t
returns-then-base-t c = other_start c.loop-i.invariant (omega arith) c.if-base-t.true

pub returns : goal.returns
returns c = frame_done c.loop-i.invariant (omega arith) (omega arith)
