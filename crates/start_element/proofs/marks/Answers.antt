-- `start_element::marks` meets its contract. Mark by mark.
use Rattle.spec.specs.Limits.{most_bindings}
use Rattle.start_element.specs.Places.{marks_are}
use borrow.Author.Rules.{rules}
use Rattle.start_element.proofs.marks.Goals as goal

pub overflow_cast-result : goal.overflow_cast-result
unfolding most_bindings
overflow_cast-result c = search rules

pub returns : goal.returns
returns c = marks_are c.args.parts _ c.mark.ensures c.mark-2.ensures c.from.ensures c.mark-3.ensures c.mark-4.ensures c.from-2.ensures
