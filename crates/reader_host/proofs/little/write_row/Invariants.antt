-- `little::write_row` meets its contract. The loop's invariant: the first `i` numbers stand in their places, and all of them fit.
use Rattle.std.specs.Prelude.{map}
use Rattle.reader_host.specs.Rows.{Writing}
use Rattle.reader_host.proofs.little.write_row.Given as goal

abbrev pub invariant-loop-i : goal.invariant-loop-i
invariant-loop-i g l = Writing g.T.Little.WIDTH l.initial.b l.at (map g.T.Little.value l.ns) l.b l.i
