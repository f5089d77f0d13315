-- `is_blank`. The invariant: the bytes passed are whitespace, so the rest decides.
use Rattle.spec.specs.Bytes.{ascii, among, every}
use Rattle.utils.specs.Walking.{Walked}
use Rattle.utils.proofs.is_blank.Given as goal

abbrev pub invariant-loop-b : goal.invariant-loop-b
invariant-loop-b l = Walked (every (among (ascii " \t\n\r"))) l.s l.b-index
