-- `feeding::feed` meets its contract. The loop's invariant: the events so far were done, and the scratch has its lengths. The measure is what
-- is left of the input.
use Prim.Native.Nat.{◌-◌}
use lib.ListN.{length}
use Rattle.event.specs.Progress.{lent}
use Rattle.reader.specs.Asked.{Areas}
use Rattle.reader.specs.Goes.{Going}
use Rattle.reader.proofs.feeding.feed.Given as goal

abbrev pub invariant-loop-out : goal.invariant-loop-out
invariant-loop-out l =
    Going l.last l.input l.initial.fed.registers l.initial.fed.count l.fed (lent l.initial.frames l.initial.bindings l.initial.inners l.initial.work l.initial.places l.initial.sizes l.initial.ids l.initial.out) (lent l.frames l.bindings l.inners l.work l.places l.sizes l.ids l.out)
    × Areas l.initial.scratch l.initial.spans l.initial.area l.scratch l.spans l.area

abbrev pub decreases-loop-out : goal.decreases-loop-out
decreases-loop-out l =
    length l.input - l.fed.consumed
