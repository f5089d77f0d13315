-- `state::frames_ok` meets its contract. The loop's invariant: what is left to test is the first `i` elements, up to `t`, with bindings up to `b`.
use Rattle.state.specs.Tests.{FrameWalk}
use Rattle.state.proofs.frames_ok.Given as goal

abbrev pub invariant-loop-i : goal.invariant-loop-i
invariant-loop-i l = FrameWalk l.frames l.bindings l.work l.base l.depth l.top l.outer l.i l.t l.b
