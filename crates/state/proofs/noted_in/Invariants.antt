-- `state::noted_in` meets its contract. The loop's invariant: what the first `i` elements have noted is summed up.
use Rattle.state.specs.Tests.{NoteWalk}
use Rattle.state.proofs.noted_in.Given as goal

abbrev pub invariant-loop-i : goal.invariant-loop-i
invariant-loop-i l = NoteWalk l.frames l.n l.noted l.i
