-- `start_lines::node_lines` meets its contract: two rows of lines.
use mathlib.Core.Path.{◌∙◌}
use Rattle.start_lines.specs.Lines.{lines_then}
use Rattle.writer.specs.Put.{puts, put_as}
use Rattle.start_lines.proofs.node_lines.Goals as goal

pub shape_of-out : goal.shape_of-out
shape_of-out c = c.out-2-1.given ∙ c.out-1.given

pub returns : goal.returns
returns c = put_as (puts c.tag_lines-to.ensures c.type_line.ensures) (lines_then _ _)
