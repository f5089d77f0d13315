-- `judging::draft` meets its contract.
use mathlib.Core.Path.{refl}
use Rattle.start_tag.specs.Places.{as_rdf, as_node, as_property}
use Rattle.start_tag.proofs.judging.draft.Goals as goal

pub judge_root-requires : goal.judge_root-requires
judge_root-requires c = (c.given-g.ensures, c.keeps-kept.ensures)

pub judge_node-requires : goal.judge_node-requires
judge_node-requires c = (c.requires, c.given-g.ensures, c.keeps-kept.ensures)

pub judge_property-requires : goal.judge_property-requires
judge_property-requires c = (c.requires, c.given-g.ensures, c.keeps-kept.ensures)

pub shape_of-area-in-Rdf : goal.shape_of-area-in-Rdf
shape_of-area-in-Rdf c = refl

pub returns-in-Rdf : goal.returns-in-Rdf
returns-in-Rdf c = as_rdf c.place_at-place.ensures c.iri_text.ensures c.opened_at.ensures c.in-Rdf.is c.requires (rw c.is_wrapped-wrapped.ensures at c.judge_root.ensures)

pub shape_of-area-in-Node : goal.shape_of-area-in-Node
shape_of-area-in-Node c = c.area-1.given

pub returns-in-Node : goal.returns-in-Node
returns-in-Node c = as_node c.place_at-place.ensures c.iri_text.ensures c.opened_at.ensures c.in-Node.is (rw c.is_wrapped-wrapped.ensures at c.judge_node.ensures)

pub shape_of-area-in-Property : goal.shape_of-area-in-Property
shape_of-area-in-Property c = c.area-in-Property-1.given

pub returns-in-Property : goal.returns-in-Property
returns-in-Property c = as_property c.place_at-place.ensures c.iri_text.ensures c.opened_at.ensures c.in-Property.is c.judge_property.ensures
