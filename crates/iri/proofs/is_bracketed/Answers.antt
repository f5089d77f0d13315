-- `iri::is_bracketed` meets its contract. The text is cut at its first "]".
use mathlib.Core.Path.{refl}
use Rattle.spec.specs.Bytes.{between}
use Rattle.iri.specs.Forms.{is_mark}
use Rattle.iri.proofs.Checks.{bracketed_none, bracketed_law, and-first, and-second}
use Rattle.iri.proofs.is_bracketed.Goals as goal

pub is_optional-requires : goal.is_optional-requires
unfolding is_mark between
is_optional-requires c = refl

pub returns-then-is_literal : goal.returns-then-is_literal
returns-then-is_literal c = and-second _ (bracketed_law _ c.in-Some.ensures) c.is_literal.ensures c.if-is_literal.true c.is_optional.ensures

pub returns-else-is_literal : goal.returns-else-is_literal
returns-else-is_literal c = and-first _ (bracketed_law _ c.in-Some.ensures) c.is_literal.ensures c.if-is_literal.false

pub returns-in-None : goal.returns-in-None
returns-in-None c = bracketed_none _ c.in-None.ensures
