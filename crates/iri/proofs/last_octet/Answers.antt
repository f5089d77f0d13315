-- `iri::last_octet` meets its contract. Each step takes one octet and its full stop.
use mathlib.Core.Path.{◌∙◌}
use Rattle.iri.proofs.Octets.{four_dotted, last_dotted}
use Rattle.iri.proofs.last_octet.Goals as goal

pub returns-in_err-second : goal.returns-in_err-second
returns-in_err-second c = rw c.from_residual.ensures (four_dotted _ ∙ c.in_err-second.ensures 2)

pub returns-in_err-third : goal.returns-in_err-third
returns-in_err-third c = rw c.from_residual-in_err-third.ensures (four_dotted _ ∙ c.in_ok-second.ensures 2 ∙ c.in_err-third.ensures 1)

pub returns : goal.returns
returns c = last_dotted _ _ c.behind_octet-3.result (four_dotted _ ∙ c.in_ok-second.ensures 2 ∙ c.in_ok-third.ensures 1) c.behind_octet-3.ensures
