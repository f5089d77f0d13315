-- `writer::coded::has_marked` meets its contract.
use Rattle.writer.specs.Coded.{clean_none, clean_more, clean_less}
use native.Mathlib.Omega.{arith}
use Rattle.writer.proofs.coded.has_marked.Goals as goal

pub loop-i-init : goal.loop-i-init
loop-i-init g c = clean_none

pub loop-i-preserved : goal.loop-i-preserved
loop-i-preserved g c = clean_more c.loop-i.invariant c.is_marked-marked.ensures

pub returns : goal.returns
returns g c = clean_less c.loop-i.invariant (omega arith)
