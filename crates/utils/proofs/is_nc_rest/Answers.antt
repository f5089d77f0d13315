-- `is_nc_rest`. The invariant: the characters passed are good, so the rest decides.
use mathlib.Core.Path.{sym, ◌∙◌}
use lib.ListN.{length-drop}
use Rattle.utils.proofs.Walking.{to_end, walked_begins, walked_within, walked_fails, walked_more, walked_passes}
use Rattle.utils.proofs.Names.{rest_by}
use Rattle.utils.proofs.Plain.{walked_plain}
use native.Mathlib.Omega.{arith}
use Rattle.utils.proofs.is_nc_rest.Goals as goal

pub loop-i-init : goal.loop-i-init
loop-i-init c = walked_begins _ _

pub loop-i-preserved-then-is_plain_name : goal.loop-i-preserved-then-is_plain_name
loop-i-preserved-then-is_plain_name c = walked_plain rest_by c.loop-i.invariant (omega arith) (sym c.is_plain_name.ensures ∙ c.if-is_plain_name.true)

pub nc_char-requires : goal.nc_char-requires
nc_char-requires c = rw to_end (rw length-drop (omega arith))

pub returns-in_default : goal.returns-in_default
returns-in_default c = walked_fails c.loop-i.invariant (rw to_end at c.in_default.ensures)

pub overflow_add-i-else-is_plain_name : goal.overflow_add-i-else-is_plain_name
overflow_add-i-else-is_plain_name c = omega (arith, walked_within c.loop-i.invariant (rw to_end at c.in-Some.ensures))

pub loop-i-smaller : goal.loop-i-smaller
loop-i-smaller c = omega (arith, (rw to_end at c.in-Some.ensures).some, walked_within c.loop-i.invariant (rw to_end at c.in-Some.ensures))

pub loop-i-preserved : goal.loop-i-preserved
loop-i-preserved c = walked_more c.loop-i.invariant (rw to_end at c.in-Some.ensures)

pub returns : goal.returns
returns c = walked_passes c.loop-i.invariant rest_by (omega arith)
