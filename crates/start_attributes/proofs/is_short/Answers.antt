-- `start_attributes::is_short` meets its contract, by the kind of the class.
use Rattle.spec.specs.Bytes.{ascii}
use Rattle.spec.specs.Namespaces.{xml_name}
use Rattle.start_attributes.specs.Short.{short_written, short_expanded}
use Rattle.start_attributes.proofs.is_short.Goals as goal

pub returns-then-kind-ne-EXPANDED : goal.returns-then-kind-ne-EXPANDED
returns-then-kind-ne-EXPANDED c = short_written _ _ c.kind.ensures c.if-kind-ne-EXPANDED.true

pub returns : goal.returns
unfolding xml_name ascii
returns c = short_expanded _ _ _ _ _ c.kind.ensures c.if-kind-ne-EXPANDED.false c.space_of-space.ensures c.tail_of.ensures c.fits.ensures
