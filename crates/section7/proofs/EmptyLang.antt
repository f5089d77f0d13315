-- Document 02, request 2: section 7 accepts an empty xml:lang inside another, its literal is plain, and the document
-- shows no difference.
use Rattle.std.specs.Prelude.{refl, List, [], ◌∷◌}
use Rattle.std.proofs.Math.Option.{none, some}
use Rattle.spec.specs.Bytes.{ascii}
use Rattle.spec.specs.Pyx.{Attribute, attribute}
use Rattle.spec.specs.Rdf.{rdf}
use Rattle.spec.specs.NTriples.{named, node, plain, tagged, Triple, triple}
use Rattle.spec.specs.Modes.{base_mode}
use Rattle.spec.specs.Document.{fresh}
use Rattle.section7.specs.Events.{Content, end, characters, element, events, Context, inside}
use Rattle.section7.specs.Grammar.{StartElement, Used, no_node, no_property, node_element, literal_property_elt, outermost, Accepts, alone}
use Rattle.section7.specs.Differences.{NoDifferenceInTag, NoDifferenceInProperty, NoDifferences}
use Rattle.section7.specs.Reading.{Runs, doc}
use Rattle.section7.proofs.Documents.{document-reads}
use Rattle.section7.proofs.Deriving.{start}
use Rattle.section7.proofs.Deriving as D

-- ---- the document: <e:P .. xml:lang="en" rdf:about="http://e/p" e:a="v"><e:q xml:lang="">x</e:q></e:P>

abbrev root_attributes : List Attribute
root_attributes =
    attribute (ascii "xmlns:rdf") (rdf "") ∷ attribute (ascii "xmlns:e") (ascii "http://e/") ∷
    attribute (ascii "xml:lang") (ascii "en") ∷ attribute (ascii "rdf:about") (ascii "http://e/p") ∷
    attribute (ascii "e:a") (ascii "v") ∷ []

abbrev caption_attributes : List Attribute
caption_attributes = attribute (ascii "xml:lang") [] ∷ []

abbrev pub document : Content
document =
    element (ascii "e:P") root_attributes
    (element (ascii "e:q") caption_attributes (characters (ascii "x") end) end)
    end

abbrev pub lines : List Triple
lines =
    triple (named (ascii "http://e/p")) (ascii "http://e/a") (tagged (ascii "v") (ascii "en")) ∷
    triple (named (ascii "http://e/p")) (rdf "type") (node (named (ascii "http://e/P"))) ∷
    triple (named (ascii "http://e/p")) (ascii "http://e/q") (plain (ascii "x")) ∷ []

abbrev pub used : Used
used = record { labels = 1; ids = [] }

-- ---- section 7 accepts it

abbrev root_context : Context
root_context = outermost none

abbrev caption_context : Context
caption_context = inside root_attributes root_context

root : StartElement root_context (ascii "e:P") root_attributes []
unfolding D.all
root = start _ _ _ _ (ascii "http://e/P") none none (some (ascii "http://e/p")) none none [] refl

caption : StartElement caption_context (ascii "e:q") caption_attributes []
unfolding D.all
caption = start _ _ _ _ (ascii "http://e/q") none none none none none [] refl

pub accepted : Accepts none document used lines
unfolding D.all root caption
accepted =
    alone
    (node_element root refl (refl, (refl, tt)) (refl, refl, refl) refl
    (literal_property_elt caption refl tt refl refl no_property)
    no_node)
    tt

-- ---- and it shows no difference

root-same : NoDifferenceInTag root_context root_attributes
unfolding D.all
root-same = record {
  names-without_prefix = (refl, (refl, (refl, (refl, (refl, tt)))));
  names_in_capitals = (refl, (refl, (refl, (refl, (refl, tt)))));
  joined-names = refl;
  other-language = (refl, (refl, (refl, (refl, (refl, tt)))));
  relative_base = (refl, (refl, (refl, (refl, (refl, tt)))));
  dots_in_base = refl;
  refused-label = (refl, (refl, tt));
}

caption_same : NoDifferenceInTag caption_context caption_attributes
unfolding D.all
caption_same = record {
  names-without_prefix = (refl, tt);
  names_in_capitals = (refl, tt);
  joined-names = refl;
  other-language = (refl, tt);
  relative_base = (refl, tt);
  dots_in_base = refl;
  refused-label = tt;
}

caption_content : NoDifferenceInProperty caption_context caption_attributes (characters (ascii "x") end)
unfolding D.all
caption_content = record {
  blank_text = refl;
  divided_text = refl;
  type_alone = refl;
  other-parse_type = refl;
  empty-literal = refl;
  xml_literal = refl;
}

pub same_as_here : NoDifferences none document used
unfolding D.all
same_as_here = record {
  in_elements = (root-same, ((caption_same, caption_content), tt, tt), tt);
  ids_of_one_iri = refl;
}

-- so the reader gives these lines
pub read : Runs (events document) (fresh base_mode none) lines (doc none [] used)
read = document-reads none accepted same_as_here
