-- `start_attributes::read_attribute` meets its contract: the role is that of the attribute's class.
use Rattle.start_attributes.specs.Reads.{read_one}
use Rattle.start_attributes.proofs.read_attribute.Goals as goal

pub returns : goal.returns
returns c = read_one c.load-class.ensures c.role_at-role.ensures c.from.ensures c.judge_at.ensures
