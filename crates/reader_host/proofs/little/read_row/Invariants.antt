-- `little::read_row` meets its contract. The loop's invariant: the first `i` numbers are read.
use Rattle.std.specs.Prelude.{map}
use Rattle.reader_host.specs.Rows.{Reading}
use Rattle.reader_host.proofs.little.read_row.Given as goal

abbrev pub invariant-loop-i : goal.invariant-loop-i
invariant-loop-i g l = Reading g.T.Little.WIDTH l.b l.at (map g.T.Little.value l.initial.ns) (map g.T.Little.value l.ns) l.i
