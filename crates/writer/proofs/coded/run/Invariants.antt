-- `coded::run` meets its contract. The loop's invariant: the first `i` bytes are written as they are.
use Rattle.writer.specs.Coded.{Plain}
use Rattle.writer.proofs.coded.run.Given as goal

abbrev pub invariant-loop-i : goal.invariant-loop-i
invariant-loop-i g l = Plain g.C.Coding.byte_of l.s l.i
