-- `start_names::same_joined` meets its contract.
use mathlib.Core.Path.{◌∙◌}
use Rattle.start_names.specs.Joined.{same_sym}
use Rattle.start_names.proofs.same_joined.Goals as goal

pub returns-then-c-a : goal.returns-then-c-a
returns-then-c-a c = c.same_from_shorter.ensures ∙ same_sym _ _

pub returns : goal.returns
returns c = c.same_from_shorter-2.ensures
