-- `start_element::commit` meets its contract. What was judged holds still where the element was counted and noted.
use Rattle.start_element.specs.Laws.{ready_noted, commits}
use mathlib.Core.Path.{◌∙◌}
use Rattle.start_element.proofs.commit.Goals as goal

pub open-q-requires : goal.open-q-requires
open-q-requires c = ready_noted c.requires c.count_if.ensures c.note_if-n.ensures

pub shape_of-frames : goal.shape_of-frames
shape_of-frames c = c.frames-3-1.given ∙ c.frames-2-1.given ∙ c.frames-1.given

pub shape_of-bindings : goal.shape_of-bindings
shape_of-bindings c = c.bindings-1.given

pub shape_of-work : goal.shape_of-work
shape_of-work c = c.work-2-1.given ∙ c.work-1.given

pub returns : goal.returns
returns c = commits c.requires c.count_if.ensures c.note_if-n.ensures c.open-q.ensures c.with_labels.ensures
