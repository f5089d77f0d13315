-- `state::child_size` meets its contract. From what the calls ensure.
use Rattle.state.specs.Tests.{child-size_is}
use native.Mathlib.Omega.{arith}
use Rattle.state.proofs.child_size.Goals as goal

pub returns : goal.returns
returns c = (rw (c.byte.ensures.0, c.byte-2.ensures.0) (child-size_is _ _ (omega arith)), omega arith)
