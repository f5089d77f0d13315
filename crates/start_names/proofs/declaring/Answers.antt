-- `start_names::declaring` meets its contract.
use mathlib.Core.Path.{refl}
use Rattle.start_names.specs.Declarations.{told, none_behind, none_left}
use native.Mathlib.Omega.{arith}
use Rattle.start_names.proofs.declaring.Goals as goal

pub loop-j-init : goal.loop-j-init
loop-j-init c = refl

pub loop-j-preserved : goal.loop-j-preserved
loop-j-preserved c = none_behind _ _ _ _ _ (omega arith) (told _ _ _ c.name_of.ensures c.is_declaration.ensures c.if-is_declaration.false) c.loop-j.invariant

pub returns : goal.returns
returns c = none_left _ _ _ _ (omega arith) c.loop-j.invariant
