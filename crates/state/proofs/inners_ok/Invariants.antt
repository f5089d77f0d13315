-- `state::inners_ok` meets its contract. The loop's invariant: what is left to test is the first `i` inner elements, from `l` on, with bindings up to `b`.
use Rattle.state.specs.Tests.{InnerWalk}
use Rattle.state.proofs.inners_ok.Given as goal

abbrev pub invariant-loop-i : goal.invariant-loop-i
invariant-loop-i l = InnerWalk l.inners l.bindings l.outer l.inner l.low l.bound l.i l.l l.b
