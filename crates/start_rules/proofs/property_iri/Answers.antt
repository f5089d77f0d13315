-- `start_rules::property_iri` meets its contract: the namespace, `_`, the digits.
use Rattle.start_rules.specs.Made.{iri_made}
use Rattle.spec.specs.Limits.{most_labels}
use Rattle.spec.specs.Bytes.{ascii}
use native.Mathlib.Omega.{arith}
use Rattle.start_rules.proofs.property_iri.Goals as goal

pub overflow_add-count : goal.overflow_add-count
unfolding most_labels
overflow_add-count c = omega (arith, c.requires.0)

pub returns : goal.returns
unfolding ascii
returns c = iri_made c.args.count c.requires.1 c.of-number.ensures c.put.ensures c.put-2.ensures c.put-3.ensures
