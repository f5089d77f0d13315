-- `literal::start_tag` meets its contract: three pieces.
use mathlib.Core.Path.{◌∙◌}
use Rattle.literal.specs.Copied.{tag-put}
use Rattle.literal.proofs.start_tag.Goals as goal

pub shape_of-area : goal.shape_of-area
shape_of-area c = c.area-3-1.given ∙ c.area-2-1.given ∙ c.area-1.given

pub returns : goal.returns
returns c = tag-put _ _ c.open_tag-to.ensures c.attributes-to.ensures c.close_tag.ensures
