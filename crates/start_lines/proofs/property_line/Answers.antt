-- `start_lines::property_line` meets its contract: one line, from what it reads.
use Rattle.writer.specs.Put.{put_as}
use Rattle.start_lines.specs.Lines.{property-text}
use Rattle.start_lines.proofs.property_line.Goals as goal

pub shape_of-out : goal.shape_of-out
shape_of-out c = c.out-1.given

pub returns : goal.returns
returns c = put_as c.line_behind.ensures (property-text _ c.args.space.now c.args.language.now c.args.scratch.now c.args.spans.now c.args.j c.local_of-local.ensures c.value_of-value.ensures c.literal_kind-term.ensures)
