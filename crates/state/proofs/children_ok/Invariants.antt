-- `state::children_ok` meets its contract. The loop's invariant: what is left to test is the first `_left` children, up to `e`.
use Rattle.state.specs.Tests.{ChildWalk}
use Rattle.state.proofs.children_ok.Given as goal

abbrev pub invariant-loop-left : goal.invariant-loop-left
invariant-loop-left l = ChildWalk l.work l.from l.n l.to l._left l.e
