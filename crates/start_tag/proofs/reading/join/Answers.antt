-- `start_tag::reading::join` meets its contract: two stores in a row.
use mathlib.Core.Path.{◌∙◌}
use Rattle.start_tag.specs.Made.{space-long, both_long, joined}
use Rattle.start_tag.proofs.reading.join.Goals as goal

pub returns-then-n-gt-MOST_BYTES : goal.returns-then-n-gt-MOST_BYTES
returns-then-n-gt-MOST_BYTES c = space-long c.args.space.now c.args.local.now c.if-n-gt-MOST_BYTES.true

pub returns-then-n-local : goal.returns-then-n-local
returns-then-n-local c = both_long c.args.space.now c.args.local.now c.if-n-local.true

pub shape_of-area : goal.shape_of-area
shape_of-area c = c.area-2-1.given ∙ c.area-1.given

pub returns : goal.returns
returns c = joined c.args.space.now c.args.local.now c.requires c.if-n-gt-MOST_BYTES.false c.if-n-local.false c.put.ensures c.put-2.ensures
