-- `judging::numbered` meets its contract.
use Rattle.spec.specs.Limits.{most_held_bytes}
use Rattle.start_tag.specs.Properties.{not_numbered, is_numbered}
use native.Mathlib.Omega.{arith}
use Rattle.start_tag.proofs.judging.numbered.Goals as goal

pub returns-then-not-li : goal.returns-then-not-li
returns-then-not-li c = not_numbered _ c.if-not-li.true c.made.ensures

pub property_iri-n-requires : goal.property_iri-n-requires
unfolding most_held_bytes
property_iri-n-requires c = (c.requires.1 c.if-not-li.false, omega (arith, c.requires.0))

pub returns : goal.returns
returns c = is_numbered _ c.if-not-li.false c.property_iri-n.ensures
