-- `pyx::put_data` meets its contract. An empty line has no data.
use native.Mathlib.Omega.{arith}
use Rattle.pyx.proofs.Escapes.{data_empty}
use Rattle.pyx.proofs.put_data.Goals as goal

pub returns-in-empty : goal.returns-in-empty
returns-in-empty c = data_empty c.args.line.now (omega arith) c.requires
