-- `start_plan::resource` meets its contract: a law for each return.
use Rattle.start_plan.proofs.resource.Goals as goal

pub returns : goal.returns
returns c = rw c.made_label.ensures
