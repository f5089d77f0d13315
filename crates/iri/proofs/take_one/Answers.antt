-- `iri::take_one` meets its contract. By what the first character is, or that there is none.
use mathlib.Core.Path.{sym, ◌∙◌}
use native.Mathlib.Omega.{arith}
use Rattle.utils.proofs.Front.{front_some}
use Rattle.spec.proofs.Booleans.{and_left, and_right}
use Rattle.iri.specs.Parts.{class_of, escapes, escaped}
use Rattle.iri.proofs.Rows.{taken-plain, taken_escape, taken_none, taken_stuck, taken_end}
use Rattle.iri.proofs.take_one.Goals as goal

pub returns-then-allows : goal.returns-then-allows
returns-then-allows c = (front_some c.in-Character.ensures, taken-plain _ _ c.in-Character.ensures (sym c.allows.ensures ∙ c.if-allows.true))

pub returns-then-is_escaped : goal.returns-then-is_escaped
returns-then-is_escaped c = (omega arith, taken_escape _ _ (and_left (escapes (class_of c.args.part)) (escaped c.args.s.now) (sym c.is_escaped.ensures ∙ c.if-is_escaped.true)) (and_right (escapes (class_of c.args.part)) (escaped c.args.s.now) (sym c.is_escaped.ensures ∙ c.if-is_escaped.true)))

pub returns-else-is_escaped : goal.returns-else-is_escaped
returns-else-is_escaped c = taken_none _ _ c.in-Character.ensures (sym c.allows.ensures ∙ c.if-allows.false) (sym c.is_escaped.ensures ∙ c.if-is_escaped.false)

pub returns-in-End : goal.returns-in-End
returns-in-End c = taken_end _ _ c.in-End.ensures

pub returns-in-Malformed : goal.returns-in-Malformed
returns-in-Malformed c = taken_stuck _ _ c.in-Malformed.ensures
