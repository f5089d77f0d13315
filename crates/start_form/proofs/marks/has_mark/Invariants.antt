-- `start_form::marks::has_mark` meets its contract. The loop's invariant: `found` is the answer for the marks so far.
use Rattle.copy.specs.Scan.{Gathered}
use Rattle.start_form.proofs.marks.has_mark.Given as goal

abbrev pub invariant-loop-other : goal.invariant-loop-other
invariant-loop-other l = Gathered l.mark l.block l.other-index l.found
