-- `state::tail_size` meets its contract. What is left, or nothing.
use mathlib.Core.Path.{◌∙◌}
use Rattle.state.proofs.tail_size.Goals as goal

pub returns : goal.returns
returns c = (c.wide.ensures.0 ∙ c.saturating_sub.ensures, c.wide.ensures.1)
