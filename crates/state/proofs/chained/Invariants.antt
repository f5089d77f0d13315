-- `state::chained` meets its contract. The loop's invariant: what is left to test is the first `i` bindings, up to `t`.
use Rattle.state.specs.Tests.{ChainWalk}
use Rattle.state.proofs.chained.Given as goal

abbrev pub invariant-loop-i : goal.invariant-loop-i
invariant-loop-i l = ChainWalk l.bindings l.b l.n l.from l.to l.i l.t
