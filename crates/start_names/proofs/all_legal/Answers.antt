-- `start_names::all_legal` meets its contract.
use mathlib.Core.Path.{sym, ◌∙◌}
use Rattle.start_names.specs.Declarations.{legal-begins, legal_stop, legal_more, legal_done}
use native.Mathlib.Omega.{arith}
use Rattle.start_names.proofs.all_legal.Goals as goal

pub loop-j-init : goal.loop-j-init
loop-j-init c = legal-begins

pub returns-then-not-legal_at : goal.returns-then-not-legal_at
returns-then-not-legal_at c = legal_stop c.loop-j.invariant (omega arith) (sym c.legal_at.ensures ∙ c.if-not-legal_at.true)

pub loop-j-preserved : goal.loop-j-preserved
loop-j-preserved c = legal_more c.loop-j.invariant (omega arith) (sym c.legal_at.ensures ∙ c.if-not-legal_at.false)

pub returns : goal.returns
returns c = legal_done c.loop-j.invariant (omega arith)
