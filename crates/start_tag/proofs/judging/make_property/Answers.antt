-- `judging::make_property` meets its contract.
use mathlib.Core.Path.{◌∙◌}
use Rattle.start_tag.specs.Properties.{labels_asks, numbers_asks, property-made}
use Rattle.start_tag.proofs.judging.make_property.Goals as goal

pub label_if-behind-requires : goal.label_if-behind-requires
label_if-behind-requires c = labels_asks c.requires.0 c.requires.2

pub numbered-property-requires : goal.numbered-property-requires
numbered-property-requires c = numbers_asks c.requires.0 c.requires.2 c.label_if-behind.ensures

pub shape_of-area : goal.shape_of-area
shape_of-area c = c.area-2-1.given ∙ c.area-1.given

pub returns : goal.returns
returns c = property-made c.requires.0 c.label_if-behind.ensures c.numbered-property.ensures c.requires.1 c.property_plan-p.ensures c.start_by.ensures
