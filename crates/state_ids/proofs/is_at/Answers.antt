-- `state_ids::is_at` meets its contract.
use mathlib.Core.Path.{ap, ◌∙◌}
use Rattle.spec.specs.Bytes.{same}
use Rattle.copy.specs.Copy.{part_of}
use Rattle.state_ids.proofs.is_at.Goals as goal

pub returns : goal.returns
returns c = c.equal_from_end.ensures ∙ ap (same _) (part_of _ _ _)
