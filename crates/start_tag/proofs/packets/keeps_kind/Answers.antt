-- `packets::keeps_kind` meets its contract.
use Rattle.start_tag.specs.Packets.{by_rdf, by_node, by_property, by_collection, by_literal, by_other, by_wrapper, is_taken}
use Rattle.start_tag.proofs.packets.keeps_kind.Goals as goal

pub returns-in-Rdf : goal.returns-in-Rdf
returns-in-Rdf c = by_rdf _ _ _ _ _ _ c.in-Rdf.is c.is_top_level.ensures

pub returns-in-NodeElt : goal.returns-in-NodeElt
returns-in-NodeElt c = by_node _ _ _ _ _ _ c.in-NodeElt.is c.carries_too.ensures

pub returns-in-PropertyElt : goal.returns-in-PropertyElt
returns-in-PropertyElt c = by_property _ _ _ _ _ _ c.in-PropertyElt.is

pub returns-in-ParseTypeCollectionPropertyElt : goal.returns-in-ParseTypeCollectionPropertyElt
returns-in-ParseTypeCollectionPropertyElt c = by_collection _ _ _ _ _ _ c.in-ParseTypeCollectionPropertyElt.is

pub returns-in-ParseTypeLiteralPropertyElt : goal.returns-in-ParseTypeLiteralPropertyElt
returns-in-ParseTypeLiteralPropertyElt c = by_literal _ _ _ _ _ _ c.in-ParseTypeLiteralPropertyElt.is

pub returns-in-ParseTypeOtherPropertyElt : goal.returns-in-ParseTypeOtherPropertyElt
returns-in-ParseTypeOtherPropertyElt c = by_other _ _ _ _ _ _ c.in-ParseTypeOtherPropertyElt.is

pub returns-in-Wrapper : goal.returns-in-Wrapper
returns-in-Wrapper c = by_wrapper _ _ _ _ _ _ c.in-Wrapper.is (is_taken _ c.requires)
