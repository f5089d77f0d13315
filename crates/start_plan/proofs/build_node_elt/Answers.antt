-- `start_plan::build_node_elt` meets its contract: a law for each return.
use Rattle.start_plan.specs.Plan.{node_made}
use Rattle.start_plan.proofs.build_node_elt.Goals as goal

pub returns : goal.returns
returns c = node_made _ _ _ c.subject_of-named.ensures c.is_blank.ensures
