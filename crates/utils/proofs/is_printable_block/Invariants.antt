-- `is_printable_block`. The invariant: `all` is the answer for the first `j` bytes.
use Rattle.utils.specs.Plain.{printable}
use Rattle.utils.proofs.Plain.{Gathered}
use Rattle.utils.proofs.is_printable_block.Given as goal

abbrev pub invariant-loop-b : goal.invariant-loop-b
invariant-loop-b l = Gathered printable l.block l.b-index l.all
