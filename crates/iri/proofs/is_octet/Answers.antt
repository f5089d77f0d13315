-- `iri::is_octet` meets its contract.
use mathlib.Core.Path.{sym, ◌∙◌}
use native.Mathlib.Omega.{arith}
use Rattle.iri.proofs.Octets.{octet-one, octet-two, octet_three, octet-other}
use Rattle.iri.proofs.is_octet.Goals as goal

pub returns-in-len1 : goal.returns-in-len1
returns-in-len1 c = (cc) ∙ sym (octet-one _ (omega arith))

pub returns-in-len2 : goal.returns-in-len2
returns-in-len2 c = (cc) ∙ sym (octet-two _ (omega arith))

pub returns-in-len3 : goal.returns-in-len3
returns-in-len3 c = (cc) ∙ sym (octet_three _ (omega arith))

pub returns-in_default : goal.returns-in_default
returns-in_default c = sym (octet-other _ (λ e. omega arith) (λ e. omega arith) (λ e. omega arith))

pub returns-in_default-2 : goal.returns-in_default-2
returns-in_default-2 c = sym (octet-other _ (λ e. omega arith) (λ e. omega arith) (λ e. omega arith))
