-- `pyx::put_name` meets its contract: by what `put_plain_name` says, or `put_any_name` behind it.
use mathlib.Core.Path.{◌∙◌}
use Rattle.pyx.proofs.Names.{named_around}
use Rattle.pyx.proofs.put_name.Goals as goal

pub shape_of-scratch-in-None : goal.shape_of-scratch-in-None
shape_of-scratch-in-None c = c.scratch-in-None-1.given ∙ c.scratch-1.given

pub returns-in-None : goal.returns-in-None
returns-in-None c = named_around c.put_any_name.result c.args.name.now _ c.in-None.ensures c.put_any_name.ensures

pub returns-in-Some : goal.returns-in-Some
returns-in-Some c = c.in-Some.ensures
