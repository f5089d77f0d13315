-- `literal::enter` meets its contract: the name, the bindings behind it, and the row of the element.
use mathlib.Core.Path.{◌∙◌}
use Rattle.literal.specs.Entered.{rows_fit, entered}
use Rattle.literal.proofs.enter.Goals as goal

pub bind_all-next-requires : goal.bind_all-next-requires
bind_all-next-requires c = rows_fit c.requires c.put.ensures

pub shape_of-bindings : goal.shape_of-bindings
shape_of-bindings c = c.bindings-1.given

pub shape_of-inners : goal.shape_of-inners
shape_of-inners c = c.inners-1.given

pub shape_of-work : goal.shape_of-work
shape_of-work c = c.work-2-1.given ∙ c.work-1.given

pub returns : goal.returns
returns c = rw c.unwrap_or.ensures (entered c.requires c.put.ensures c.bind_all-next.ensures c.open_inside.ensures)
