-- `start_attributes::read_attributes` meets its contract. The loop's invariant: the first `j` attributes are read, and nothing is wrong with them.
use Rattle.start_attributes.specs.Reads.{Reading}
use Rattle.start_attributes.proofs.read_attributes.Given as goal

abbrev pub invariant-loop-j : goal.invariant-loop-j
invariant-loop-j l = Reading l.scratch l.spans l.work l.classes l.k l.initial.roles l.roles l.j
