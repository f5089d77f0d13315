-- `start_form::marks::mark_all` meets its contract. The loop's invariant: the first `j` attributes are marked.
use Rattle.start_form.specs.Marks.{MarkingAll}
use Rattle.start_form.proofs.marks.mark_all.Given as goal

abbrev pub invariant-loop-j : goal.invariant-loop-j
invariant-loop-j l = MarkingAll l.scratch l.spans l.work l.classes l.k l.initial.near l.initial.far l.near l.far l.j
