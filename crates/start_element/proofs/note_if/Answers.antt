-- `start_element::note_if` meets its contract. In the base mode nothing is noted.
use mathlib.Core.Path.{◌∙◌}
use Rattle.start_element.specs.Laws.{notes_nothing, notes_child}
use borrow.Author.Tests.{not-true, not-false}
use Rattle.start_element.proofs.note_if.Goals as goal

pub returns-then-not-r : goal.returns-then-not-r
returns-then-not-r c = notes_nothing (not-true _ c.if-not-r.true)

pub shape_of-frames : goal.shape_of-frames
shape_of-frames c = c.frames-2-1.given ∙ c.frames-1.given

pub shape_of-work : goal.shape_of-work
shape_of-work c = c.work-1.given

pub returns : goal.returns
returns c = notes_child (not-false _ c.if-not-r.false) (rw c.is_said.ensures at c.note_li_if.ensures) (rw c.text.ensures at c.note_about.ensures)
