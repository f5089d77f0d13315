-- `start_names::classify` meets its contract. The loop's invariant: the first `j` attributes have their classes.
use Rattle.start_names.specs.Classes.{Classifying}
use Rattle.start_names.proofs.classify.Given as goal

abbrev pub invariant-loop-j : goal.invariant-loop-j
invariant-loop-j l = Classifying l.scratch l.spans l.k l.work l.bindings l.n l.initial.classes l.classes l.j
