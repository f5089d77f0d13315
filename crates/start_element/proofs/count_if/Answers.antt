-- `start_element::count_if` meets its contract. A law of specs/ for each return.
use mathlib.Core.Path.{◌∙◌}
use Rattle.start_element.specs.Laws.{counts_not, counts-li, counts-rdf}
use Rattle.start_element.proofs.count_if.Goals as goal

pub returns-then-not-li : goal.returns-then-not-li
returns-then-not-li c = counts_not c.if-not-li.true

pub shape_of-frames-then-count_li : goal.shape_of-frames-then-count_li
shape_of-frames-then-count_li c = c.count_li.ensures.same

pub returns-then-count_li : goal.returns-then-count_li
returns-then-count_li c = counts-li c.if-not-li.false c.count_li.ensures c.if-count_li.true

pub shape_of-frames : goal.shape_of-frames
shape_of-frames c = c.frames-2-1.given ∙ c.frames-1.given

pub returns : goal.returns
returns c = counts-rdf c.if-not-li.false c.count_li.ensures c.if-count_li.false c.count_rdf.ensures
