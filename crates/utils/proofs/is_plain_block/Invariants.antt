-- `is_plain_block`. The invariant: `all` is the answer for the first `j` bytes.
use Rattle.utils.specs.Plain.{plain_text}
use Rattle.utils.proofs.Plain.{Gathered}
use Rattle.utils.proofs.is_plain_block.Given as goal

abbrev pub invariant-loop-b : goal.invariant-loop-b
invariant-loop-b l = Gathered plain_text l.block l.b-index l.all
