-- `copy::put` meets its contract.
use Rattle.copy.specs.Copy.{put_all}
use native.Mathlib.Omega.{arith}
use Rattle.copy.proofs.put.Goals as goal

pub returns : goal.returns
returns g c = put_all (omega arith) c.store.ensures (omega arith)
