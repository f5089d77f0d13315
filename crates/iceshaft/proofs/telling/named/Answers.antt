-- `telling::named` meets its contract: one text behind the other.
use native.Mathlib.Omega.{arith}
use Rattle.iceshaft.specs.Telling.{both_put}
use Rattle.iceshaft.proofs.telling.named.Goals as goal

pub returns : goal.returns
returns c = both_put (omega (arith, c.requires)) c.put.ensures c.put-2.ensures
