-- `iri::skip_common` meets its contract.
use mathlib.Core.Path.{refl, sym, ◌∙◌}
use native.Mathlib.Omega.{arith}
use Rattle.iri.proofs.Walks.{walked_common}
use Rattle.iri.proofs.skip_common.Goals as goal

pub loop-i-preserved : goal.loop-i-preserved
loop-i-preserved c = λ p l e. walked_common (c.loop-i.invariant p l e) (omega arith) l refl (rw (← e) (sym c.is_common.ensures ∙ c.if-not-is_common.false))
