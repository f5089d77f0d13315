-- `iri::is_row` meets its contract.
use native.Mathlib.Omega.{arith}
use Rattle.iri.proofs.Walks.{walked_done}
use Rattle.iri.proofs.is_row.Goals as goal

pub returns : goal.returns
returns c = walked_done c.loop-at.invariant (omega arith)
