-- `start_element::bind_all` meets its contract. The loop's invariant: the attributes from `j` on have their bindings.
use Rattle.start_element.specs.Rows.{Entering}
use Rattle.start_element.proofs.bind_all.Given as goal

abbrev pub invariant-loop-j : goal.invariant-loop-j
invariant-loop-j l = Entering l.scratch l.spans l.k l.initial.work l.initial.bindings l.work l.bindings l.initial.next l.next l.j
