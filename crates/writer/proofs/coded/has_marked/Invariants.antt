-- `writer::coded::has_marked` meets its contract. The loop's invariant: unless one was marked, the bytes before `i` are written as they are.
use Rattle.writer.specs.Coded.{Clean}
use Rattle.writer.proofs.coded.has_marked.Given as goal

abbrev pub invariant-loop-i : goal.invariant-loop-i
invariant-loop-i g l = Clean g.C.Coding.byte_of l.s l.from l.i l.marked
