-- `end_tag::end_state` meets its contract. One match, one call an arm.
use mathlib.Core.Path.{sym, ap, ◌∙◌, refl}
use Rattle.state_words.specs.declared.Kind.TheVariants.{Rdf, ParseTypeOtherPropertyElt}
use Rattle.state_words.specs.declared.Frame.{Frame}
use Rattle.end_tag.specs.Ends.{ends_as}
use Rattle.end_tag.specs.Kinds.{rdf_silent, other_silent}
use Rattle.end_tag.proofs.end_state.Goals as goal

pub end_collection-requires : goal.end_collection-requires
end_collection-requires c = (c.requires, ap (λ (f : Frame). f.kind) (sym c.top-f.ensures) ∙ c.in-ParseTypeCollectionPropertyElt.is)

pub returns-in-Rdf : goal.returns-in-Rdf
returns-in-Rdf c = ends_as c.top-f.ensures c.in-Rdf.is (c.end_silent.ensures Rdf _ _ (rdf_silent _))

pub shape_of-frames-in-NodeElt : goal.shape_of-frames-in-NodeElt
shape_of-frames-in-NodeElt c = c.frames-1.given

pub shape_of-work-in-NodeElt : goal.shape_of-work-in-NodeElt
shape_of-work-in-NodeElt c = c.work-1.given

pub returns-in-NodeElt : goal.returns-in-NodeElt
returns-in-NodeElt c = ends_as c.top-f.ensures c.in-NodeElt.is (c.end_node.ensures _)

pub shape_of-frames-in-PropertyElt : goal.shape_of-frames-in-PropertyElt
shape_of-frames-in-PropertyElt c = refl

pub shape_of-work-in-PropertyElt : goal.shape_of-work-in-PropertyElt
shape_of-work-in-PropertyElt c = refl

pub shape_of-out-in-PropertyElt : goal.shape_of-out-in-PropertyElt
shape_of-out-in-PropertyElt c = c.out-1.given

pub returns-in-PropertyElt : goal.returns-in-PropertyElt
returns-in-PropertyElt c = ends_as c.top-f.ensures c.in-PropertyElt.is c.end_property.ensures

pub shape_of-frames-in-ParseTypeCollectionPropertyElt : goal.shape_of-frames-in-ParseTypeCollectionPropertyElt
shape_of-frames-in-ParseTypeCollectionPropertyElt c = refl

pub shape_of-work-in-ParseTypeCollectionPropertyElt : goal.shape_of-work-in-ParseTypeCollectionPropertyElt
shape_of-work-in-ParseTypeCollectionPropertyElt c = refl

pub shape_of-out-in-ParseTypeCollectionPropertyElt : goal.shape_of-out-in-ParseTypeCollectionPropertyElt
shape_of-out-in-ParseTypeCollectionPropertyElt c = c.out-in-ParseTypeCollectionPropertyElt-1.given

pub returns-in-ParseTypeCollectionPropertyElt : goal.returns-in-ParseTypeCollectionPropertyElt
returns-in-ParseTypeCollectionPropertyElt c = ends_as c.top-f.ensures c.in-ParseTypeCollectionPropertyElt.is c.end_collection.ensures

pub shape_of-frames-in-ParseTypeLiteralPropertyElt : goal.shape_of-frames-in-ParseTypeLiteralPropertyElt
shape_of-frames-in-ParseTypeLiteralPropertyElt c = refl

pub shape_of-work-in-ParseTypeLiteralPropertyElt : goal.shape_of-work-in-ParseTypeLiteralPropertyElt
shape_of-work-in-ParseTypeLiteralPropertyElt c = refl

pub shape_of-out-in-ParseTypeLiteralPropertyElt : goal.shape_of-out-in-ParseTypeLiteralPropertyElt
shape_of-out-in-ParseTypeLiteralPropertyElt c = c.out-in-ParseTypeLiteralPropertyElt-1.given

pub returns-in-ParseTypeLiteralPropertyElt : goal.returns-in-ParseTypeLiteralPropertyElt
returns-in-ParseTypeLiteralPropertyElt c = ends_as c.top-f.ensures c.in-ParseTypeLiteralPropertyElt.is c.end_literal.ensures

pub returns-in-ParseTypeOtherPropertyElt : goal.returns-in-ParseTypeOtherPropertyElt
returns-in-ParseTypeOtherPropertyElt c = ends_as c.top-f.ensures c.in-ParseTypeOtherPropertyElt.is (c.end_silent-in-ParseTypeOtherPropertyElt.ensures ParseTypeOtherPropertyElt _ _ (other_silent _))

pub returns-in-Wrapper : goal.returns-in-Wrapper
returns-in-Wrapper c = ends_as c.top-f.ensures c.in-Wrapper.is (c.end_wrapper.ensures _ _)
