-- `state_ids::find` meets its contract. The loop's invariant: none of the places from `i` on has the ID.
use Rattle.state_ids.specs.Walks.{Sought}
use Rattle.state_ids.proofs.find.Given as goal

abbrev pub invariant-loop-i : goal.invariant-loop-i
invariant-loop-i l = Sought l.at l.len l.store l.id l.count l.i
