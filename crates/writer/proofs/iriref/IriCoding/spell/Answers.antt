-- `Iri::spell` meets its contract: the byte itself, or its two hex digits.
use mathlib.Core.Path.{sym, ◌∙◌}
use Rattle.writer.specs.Words.{iri_same, iri_digits}
use native.Mathlib.Omega.{arith}
use Rattle.writer.proofs.iriref.IriCoding.spell.Goals as goal

pub returns-then-not-is_forbidden : goal.returns-then-not-is_forbidden
returns-then-not-is_forbidden c = record { within = omega arith; is = sym (iri_same (sym c.is_forbidden.ensures ∙ c.if-not-is_forbidden.true)) }

pub returns : goal.returns
returns c = record { within = omega arith; is = rw (c.hex.ensures, c.hex-2.ensures) (iri_digits c.args.b (sym c.is_forbidden.ensures ∙ c.if-not-is_forbidden.false)) }
