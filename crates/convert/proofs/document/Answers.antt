-- `convert::document` meets its contract: what it lends has the lengths that `run` asks for, and the start left a fresh document in it.
use native.Mathlib.Omega.{arith}
use Rattle.reader.specs.Asked.{roomy}
use Rattle.convert.specs.Running.{own_ready, document_went, document-refused}
use Rattle.convert.proofs.document.Goals as goal

pub run-requires : goal.run-requires
run-requires g c = (own_ready c.begin-begun.ensures c.in-Ok.is, roomy)

pub returns-in-Err : goal.returns-in-Err
returns-in-Err g c = (document-refused c.begin-begun.ensures c.in-Err.is, omega arith)

pub returns-in-Ok : goal.returns-in-Ok
returns-in-Ok g c = (document_went c.begin-begun.ensures c.in-Ok.is c.run.result c.run.ensures.0, c.run.ensures.1)
