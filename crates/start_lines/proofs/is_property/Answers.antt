-- `start_lines::is_property` meets its contract.
use Rattle.start_lines.specs.Lines.{role_none}
use Rattle.start_lines.proofs.is_property.Goals as goal

pub returns-else-j-roles : goal.returns-else-j-roles
returns-else-j-roles c = role_none c.args.roles.now _ c.if-j-roles.false

pub returns-then-j-roles : goal.returns-then-j-roles
returns-then-j-roles c = rw c.from.ensures
