-- `resolve::path::store` meets its contract.
use mathlib.Core.Path.{◌∙◌}
use Rattle.resolve.specs.Output.{stored}
use Rattle.resolve.proofs.path.store.Goals as goal

pub shape_of-area : goal.shape_of-area
shape_of-area c = c.area-2-1.given ∙ c.area-1.given

pub returns : goal.returns
returns c = λ from o. stored (record { order = o; within = c.requires.0.within }) c.args.segments.now c.requires.1 c.requires.2 c.put_slash-at.ensures c.put.ensures
