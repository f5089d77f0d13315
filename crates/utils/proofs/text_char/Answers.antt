-- `text_char`: by the first character, or none.
use mathlib.Core.Path.{sym, ◌∙◌}
use Rattle.spec.specs.XmlNames.{is_char}
use Rattle.utils.specs.Decoding.{Front}
use Rattle.utils.proofs.Walking.{every_by, step_passes, step_fails, step_stuck}
use native.Mathlib.Omega.{arith}
use Rattle.utils.proofs.text_char.Goals.{In-Character}
use Rattle.utils.proofs.text_char.Goals as goal

-- what decode found
found : (c : In-Character) → Front c.in-Character.c c.in-Character.n c.args.s.now
found c = c.in-Character.ensures

pub returns-then-is_char : goal.returns-then-is_char
returns-then-is_char c = step_passes (every_by is_char) (found (goal.at.returns-then-is_char c).In-Character) (sym c.is_char.ensures ∙ c.if-is_char.true)

pub returns-else-is_char : goal.returns-else-is_char
returns-else-is_char c = step_fails (every_by is_char) (found (goal.at.returns-else-is_char c).In-Character) (sym c.is_char.ensures ∙ c.if-is_char.false)

pub returns-in-End : goal.returns-in-End
returns-in-End c = absurd (omega (arith, rw c.in-End.is at c.decode.ensures))

pub returns-in-Malformed : goal.returns-in-Malformed
returns-in-Malformed c = step_stuck (every_by is_char) (rw c.in-Malformed.is at c.decode.ensures)
