-- `little::write_row` meets its contract.
use Rattle.std.proofs.lemmas.List.{length-map}
use Rattle.reader_host.specs.Rows.{writing_begins, writing_more, writing_all}
use native.Mathlib.Omega.{arith}
use Rattle.reader_host.proofs.little.write_row.Goals as goal

pub loop-i-init : goal.loop-i-init
loop-i-init g c = writing_begins (rw length-map c.requires)

pub loop-i-preserved : goal.loop-i-preserved
loop-i-preserved g c = writing_more g.T.Little.value c.args.ns.now c.loop-i.invariant (omega arith) c.index-ns-i.is (rw c.WIDTH.ensures at c.write.ensures.wrote) c.write.ensures.fits

pub returns : goal.returns
returns g c = writing_all g.T.Little.value c.args.ns.now c.loop-i.invariant (omega arith)
