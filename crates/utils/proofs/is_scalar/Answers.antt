use Rattle.std.proofs.Common.{rules}
use Rattle.spec.specs.Bytes.{between}
use Rattle.spec.specs.Utf8.{is_scalar}
use Rattle.utils.proofs.is_scalar.Goals as goal

pub returns : goal.returns
unfolding is_scalar between
returns c = search rules
