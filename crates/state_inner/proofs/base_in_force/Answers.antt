-- `state_inner::base_in_force` meets its contract. The innermost that has one, or the start base.
use Rattle.state_inner.specs.Calls.{base_in}
use Rattle.state_inner.proofs.base_in_force.Goals as goal

pub returns : goal.returns
unfolding base_in
returns c = rw (c.or.ensures, c.innermost-own.ensures, c.then_some.ensures)
