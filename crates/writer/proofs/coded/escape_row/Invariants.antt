-- `coded::escape_row` meets its contract. The loop's invariant: the first `i` bytes are written.
use Rattle.writer.specs.Coded.{Going}
use Rattle.writer.proofs.coded.escape_row.Given as goal

abbrev pub invariant-loop-b : goal.invariant-loop-b
invariant-loop-b g l = Going g.C.Coding.byte_of l.on l.initial.out l.out l.at l.to l.s 0 l.b-index
