-- `nc_char`: by the first character, or none.
use mathlib.Core.Path.{sym, ◌∙◌}
use Rattle.utils.specs.Decoding.{Front}
use Rattle.utils.proofs.Walking.{step_passes, step_fails, step_stuck}
use Rattle.utils.proofs.Names.{goes_on_colon, goes_on_by, rest_by}
use native.Mathlib.Omega.{arith}
use Rattle.utils.proofs.nc_char.Goals.{In-Character}
use Rattle.utils.proofs.nc_char.Goals as goal

-- what decode found
found : (c : In-Character) → Front c.in-Character.c c.in-Character.n c.args.s.now
found c = c.in-Character.ensures

pub returns-then-c-eq58 : goal.returns-then-c-eq58
returns-then-c-eq58 c = step_fails rest_by (found (goal.at.returns-then-c-eq58 c).In-Character) (goes_on_colon _ c.if-c-eq58.true)

pub returns-then-is_name_char : goal.returns-then-is_name_char
returns-then-is_name_char c = step_passes rest_by (found (goal.at.returns-then-is_name_char c).In-Character) (goes_on_by _ c.if-c-eq58.false ∙ sym c.is_name_char.ensures ∙ c.if-is_name_char.true)

pub returns-else-is_name_char : goal.returns-else-is_name_char
returns-else-is_name_char c = step_fails rest_by (found (goal.at.returns-else-is_name_char c).In-Character) (goes_on_by _ c.if-c-eq58.false ∙ sym c.is_name_char.ensures ∙ c.if-is_name_char.false)

pub returns-in-End : goal.returns-in-End
returns-in-End c = absurd (omega (arith, rw c.in-End.is at c.decode.ensures))

pub returns-in-Malformed : goal.returns-in-Malformed
returns-in-Malformed c = step_stuck rest_by (rw c.in-Malformed.is at c.decode.ensures)
