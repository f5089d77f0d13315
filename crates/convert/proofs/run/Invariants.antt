-- `convert::run` meets its contract. The loop's invariant: the program is on its way from the start, and all that is lent has its lengths.
use Rattle.event.specs.Progress.{lent, doc_in}
use Rattle.reader.specs.Asked.{Areas}
use Rattle.convert.specs.Places.{Lengths}
use Rattle.convert.specs.Running.{Running}
use Rattle.convert.proofs.run.Given as goal

abbrev pub invariant-loop-turns : goal.invariant-loop-turns
invariant-loop-turns g l =
    Running (doc_in l.initial.place.registers 0 (lent l.initial.frames l.initial.bindings l.initial.inners l.initial.work l.initial.places l.initial.sizes l.initial.ids l.initial.output)) l.place l.turns (lent l.frames l.bindings l.inners l.work l.places l.sizes l.ids l.output) l.input
    × Lengths (lent l.initial.frames l.initial.bindings l.initial.inners l.initial.work l.initial.places l.initial.sizes l.initial.ids l.initial.output) l.initial.input (lent l.frames l.bindings l.inners l.work l.places l.sizes l.ids l.output) l.input
    × Areas l.initial.scratch l.initial.spans l.initial.area l.scratch l.spans l.area
