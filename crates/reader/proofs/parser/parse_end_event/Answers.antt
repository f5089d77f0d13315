-- `parser::parse_end_event` meets its contract, by what its two sides promise.
use Rattle.reader.proofs.parser.parse_end_event.Goals as goal

pub shape_of-frames-then-r-gt0 : goal.shape_of-frames-then-r-gt0
shape_of-frames-then-r-gt0 c = c.frames-1.given

pub shape_of-work-then-r-gt0 : goal.shape_of-work-then-r-gt0
shape_of-work-then-r-gt0 c = c.work-1.given

pub shape_of-area-then-r-gt0 : goal.shape_of-area-then-r-gt0
shape_of-area-then-r-gt0 c = c.area-1.given

pub returns-then-r-gt0 : goal.returns-then-r-gt0
returns-then-r-gt0 c = c.end_inside.ensures.handles _

pub shape_of-frames : goal.shape_of-frames
shape_of-frames c = c.frames-2-1.given

pub shape_of-work : goal.shape_of-work
shape_of-work c = c.work-2-1.given

pub shape_of-out : goal.shape_of-out
shape_of-out c = c.out-1.given
