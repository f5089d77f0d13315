-- `giving::made` meets its contract.
use Rattle.start_tag.specs.Giving.{made_there_at}
use Rattle.start_tag.proofs.giving.made.Goals as goal

pub returns-in-Made : goal.returns-in-Made
returns-in-Made c = made_there_at _ c.in-Made.is
