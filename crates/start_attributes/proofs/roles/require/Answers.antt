-- `start_attributes::roles::require` meets its contract.
use Rattle.spec.specs.Bytes.{require◌or◌}
use Rattle.start_attributes.proofs.roles.require.Goals as goal

pub returns-then-passed : goal.returns-then-passed
unfolding require◌or◌
returns-then-passed c = rw c.if-passed.true

pub returns : goal.returns
unfolding require◌or◌
returns c = rw c.if-passed.false
