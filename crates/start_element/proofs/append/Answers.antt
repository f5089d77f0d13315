-- `start_element::append` meets its contract. One write.
use Rattle.start_element.specs.Places.{puts}
use Rattle.start_element.proofs.append.Goals as goal

pub shape_of-work : goal.shape_of-work
shape_of-work c = c.put.ensures.same

pub returns : goal.returns
returns c = puts c.requires c.put.ensures
