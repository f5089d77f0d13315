-- `little::read_row` meets its contract.
use Rattle.std.proofs.lemmas.List.{length-map}
use Rattle.reader_host.specs.Rows.{reading_begins, reading_one, reading_all}
use native.Mathlib.Omega.{arith}
use Rattle.reader_host.proofs.little.read_row.Goals as goal

pub loop-i-init : goal.loop-i-init
loop-i-init g c = reading_begins (rw length-map c.requires)

pub loop-i-preserved : goal.loop-i-preserved
loop-i-preserved g c = reading_one g.T.Little.value c.args.ns.now c.loop-i.ns c.loop-i.invariant (omega arith) (rw c.WIDTH.ensures at c.read.ensures)

pub returns : goal.returns
returns g c = reading_all g.T.Little.value c.args.ns.now c.loop-i.ns c.loop-i.invariant (omega arith)
