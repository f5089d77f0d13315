-- `replay::go_on` meets its contract. The invariant: the way leads to where the definitions' run comes to, and what is lent keeps its length. The
-- measure is how many turns are left at most.
use Rattle.test_reader.specs.Ways.{left_in, Going}
use Rattle.test_reader.proofs.replay.go_on.Given as goal

abbrev pub invariant-loop-way : goal.invariant-loop-way
invariant-loop-way l = Going l.input l.expected l.initial.way.state l.initial.work l.initial.ids l.initial.out l.way l.work l.ids l.out

abbrev pub decreases-loop-way : goal.decreases-loop-way
decreases-loop-way l = left_in l.input l.way
