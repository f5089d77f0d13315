-- `state_inner::holds_no_more` meets its contract. From what the calls ensure.
use Rattle.spec.specs.Limits.{most_held_bytes}
use Rattle.state_inner.proofs.holds_no_more.Goals as goal

pub returns : goal.returns
unfolding most_held_bytes
returns c = rw c.held.ensures
