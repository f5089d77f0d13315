-- `start_attributes::is_known` meets its contract, arm by arm.
use Rattle.spec.specs.Bytes.{ascii}
use Rattle.start_attributes.specs.Attributes.{known_by}
use native.Mathlib.Omega.{arith}
use Rattle.std.proofs.lemmas.Grind.{common_steps}
use Rattle.start_attributes.proofs.is_known.Goals as goal

pub returns-in-Unknown : goal.returns-in-Unknown
unfolding known_by
returns-in-Unknown c = rw c.in-Unknown.is

pub returns-in-Unprefixed : goal.returns-in-Unprefixed
unfolding known_by ascii
returns-in-Unprefixed c = rw c.in-Unprefixed.is c.begins.ensures

pub returns-in-Declaration : goal.returns-in-Declaration
unfolding known_by
returns-in-Declaration c = grind (arith, common_steps)
