-- `start_element::note_li_if` meets its contract. A law of specs/ for each return.
use Rattle.start_element.specs.Laws.{li_not, li_does}
use Rattle.start_element.proofs.note_li_if.Goals as goal

pub returns-then-not-li : goal.returns-then-not-li
returns-then-not-li c = li_not c.if-not-li.true

pub returns : goal.returns
returns c = li_does c.if-not-li.false c.note_li.ensures
