-- `nc_start`: a plain byte by itself, else by the first character, or none.
use mathlib.Core.Path.{sym, ◌∙◌}
use Rattle.utils.specs.Decoding.{Front}
use Rattle.utils.specs.Names.{starts_nc}
use Rattle.utils.proofs.Names.{starts_colon, starts_by, nc_starts, nc_fails, nc_stuck, nc_empty}
use Rattle.utils.proofs.Plain.{plain_front}
use native.Mathlib.Omega.{arith}
use Rattle.utils.proofs.nc_start.Goals.{In-Character}
use Rattle.utils.proofs.nc_start.Goals as goal

-- what decode found
found : (c : In-Character) → Front c.in-Character.c c.in-Character.n c.args.s.now
found c = c.in-Character.ensures

pub returns-then-s-eq0 : goal.returns-then-s-eq0
returns-then-s-eq0 c = nc_empty _ c.if-s-eq0.true

pub returns-then-is_plain_start : goal.returns-then-is_plain_start
returns-then-is_plain_start c = let p = plain_front starts_nc {s = c.args.s.now} (omega arith) (sym c.is_plain_start.ensures ∙ c.if-is_plain_start.true) in nc_starts p.0 p.1

pub returns-then-c-eq58 : goal.returns-then-c-eq58
returns-then-c-eq58 c = nc_fails (found (goal.at.returns-then-c-eq58 c).In-Character) (starts_colon _ c.if-c-eq58.true)

pub returns-then-is_name_start_char : goal.returns-then-is_name_start_char
returns-then-is_name_start_char c = nc_starts (found (goal.at.returns-then-is_name_start_char c).In-Character) (starts_by _ c.if-c-eq58.false ∙ sym c.is_name_start_char.ensures ∙ c.if-is_name_start_char.true)

pub returns-else-is_name_start_char : goal.returns-else-is_name_start_char
returns-else-is_name_start_char c = nc_fails (found (goal.at.returns-else-is_name_start_char c).In-Character) (starts_by _ c.if-c-eq58.false ∙ sym c.is_name_start_char.ensures ∙ c.if-is_name_start_char.false)

pub returns-in-End : goal.returns-in-End
returns-in-End c = nc_empty _ (rw c.in-End.is at c.decode.ensures)

pub returns-in-Malformed : goal.returns-in-Malformed
returns-in-Malformed c = nc_stuck (rw c.in-Malformed.is at c.decode.ensures)
