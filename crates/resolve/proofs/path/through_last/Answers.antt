-- `resolve::path::through_last` meets its contract.
use Rattle.resolve.specs.Last.{backwards_begins, backwards_stop, backwards_less, backwards_done}
use native.Mathlib.Omega.{arith}
use mathlib.Core.Path.{◌≡◌}
use Prim.Native.Nat.{◌+◌, ◌-◌}
use Rattle.resolve.proofs.path.through_last.Goals as goal

pub loop-i-init : goal.loop-i-init
loop-i-init c = backwards_begins

pub returns-then-s-i-eq47 : goal.returns-then-s-i-eq47
returns-then-s-i-eq47 c = let k : c.loop-i.i - 1 + 1 ≡ c.loop-i.i = omega arith in rw k (backwards_stop c.loop-i.invariant (omega arith) c.if-s-i-eq47.true)

pub loop-i-preserved : goal.loop-i-preserved
loop-i-preserved c = backwards_less c.loop-i.invariant (omega arith) c.if-s-i-eq47.false

pub returns : goal.returns
returns c = backwards_done c.loop-i.invariant (omega arith)
