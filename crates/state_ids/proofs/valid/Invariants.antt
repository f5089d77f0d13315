-- `state_ids::valid` meets its contract. The loop's invariant: the places from `i` on lie end to end from `end` to `used`.
use Rattle.state_ids.specs.Walks.{Walked}
use Rattle.state_ids.proofs.valid.Given as goal

abbrev pub invariant-loop-i : goal.invariant-loop-i
invariant-loop-i l = Walked l.at l.len l.count l.used l.i l.end
