-- `is_nc_name`: by the first character and the rest.
use mathlib.Core.Path.{sym, ◌∙◌}
use Rattle.utils.proofs.Walking.{to_end}
use Rattle.utils.proofs.is_nc_name.Goals as goal

pub returns-in-None : goal.returns-in-None
returns-in-None c = sym c.in-None.ensures

pub returns-in-Some : goal.returns-in-Some
returns-in-Some c = rw to_end at c.is_nc_rest.ensures ∙ sym c.in-Some.ensures.rest
