-- `start_tag::reading::tag_of` meets its contract: the parts of the tag, each from the call that made it.
use mathlib.Core.Path.{◌∙◌}
use Rattle.spec.specs.Limits.{most_held_bytes}
use Rattle.start_tag.specs.Made.{finished}
use borrow.Author.Rules.{rules}
use Rattle.start_tag.proofs.reading.tag_of.Goals as goal

pub make_iri-iri-requires : goal.make_iri-iri-requires
unfolding most_held_bytes
make_iri-iri-requires c = search rules

pub shape_of-area : goal.shape_of-area
shape_of-area c = c.area-2-1.given ∙ c.area-1.given

pub returns : goal.returns
returns c = finished c.make_iri-iri.ensures c.make_language-language.ensures c.first_in-base.ensures c.first_in-place.ensures c.first_in.ensures c.first_in-2.ensures c.first_in-property.ensures c.is_short.ensures
