-- Document 01, "From events to triples": end tags (refusals 6, 17, 18).
use Rattle.std.specs.Prelude.{not, List, [], ◌∷◌, ◌++◌, ℕ, suc, ◌+◌, leb, length}
use Rattle.std.proofs.Math.Option.{Option}
use Rattle.spec.specs.Bytes.{Bytes, same, is_empty, ◌>>◌, require◌or◌}
use Rattle.spec.specs.Numbers.{Answer, refuse, good}
use Rattle.spec.specs.declared.Refusal.TheVariants.{NotWellFormed, EmptyLiteral, LabelsSpent, ProfileBroken}
use Rattle.spec.specs.Limits.{most_labels}
use Rattle.spec.specs.Rdf.{rdf}
use Rattle.spec.specs.NTriples.{Subject, named, blank, Term, node, typed, Triple, triple, label}
use Rattle.spec.specs.XmlLang.{Language}
use Rattle.spec.specs.Document.{Object, no_object, node_object, text_object, Value, default, collection, literal, other, Property, Kind, rdf_rdf, wrapper, node_element, property_element, xml_element, Frame, Doc, with_frames, with_labels, language_in_force, change_value}
use Rattle.spec.specs.Productions.{literal_of, statement}
use Rattle.spec.specs.XmlLiteral.{end_tag_xml, add_xml}
use Rattle.spec.specs.Opening.{Step}
use Rattle.spec.specs.Opening as G

-- a node that closes replaces the object so far, or is the next child of the Collection
unfoldable pub takes_node : Subject → Value → Value
takes_node s (default d o) = default d (node_object s)
takes_node s (collection cs) = collection (s ∷ cs)
takes_node s (literal x) = literal x
takes_node s other = other

-- none means the empty literal
unfoldable pub object_term : Option Bytes → Language → Object → Term
object_term d l no_object = literal_of d l []
object_term d l (node_object s) = node s
object_term d l (text_object t) = literal_of d l t

-- the cells of a list: children last to first, each takes a label, then rdf:first, rdf:rest
unfoldable pub cells : ℕ → Subject → List Subject → List Triple
cells n rest [] = []
cells n rest (c ∷ cs) =
    triple (blank (label (suc n))) (rdf "first") (node c) ∷
    triple (blank (label (suc n))) (rdf "rest") (node rest) ∷ cells (suc n) (blank (label (suc n))) cs

-- the cell of the first child, or rdf:nil
unfoldable pub head_cell : ℕ → Subject → List Subject → Subject
head_cell n rest [] = rest
head_cell n rest (c ∷ cs) = head_cell (suc n) (blank (label (suc n))) cs

-- statements are written at the end tag; d is the document without the element, l the language in force in it
unfoldable pub end_value : Property → Value → Language → Doc → Answer Step
end_value p (default t o) l d = good (statement p (object_term t l o), d)
end_value p (collection cs) l d = do
  let n = d.labels
  let nil = named (rdf "nil")
  require leb (n + length cs) most_labels or LabelsSpent
  good (cells n nil cs ++ statement p (node (head_cell n nil cs)), with_labels (n + length cs) d)
end_value p (literal x) l d = do
  require not (is_empty x) or EmptyLiteral
  good (statement p (typed x (rdf "XMLLiteral")), d)
end_value p other l d = good ([], d)

-- by the kind of the element n that closes
unfoldable pub end_kind : Kind → Bytes → Language → Doc → Answer Step
end_kind rdf_rdf n l d = good ([], d)
end_kind (wrapper had) n l d = (require had or ProfileBroken) >> good ([], d)
end_kind (node_element s li) n l d = good ([], with_frames (change_value (takes_node s) d.frames) d)
end_kind (property_element p v) n l d = end_value p v l d
end_kind xml_element n l d = good ([], add_xml (end_tag_xml n) d)

-- 6: the end tag matches by the name as written
unfoldable pub close_element : Bytes → List Frame → Doc → Answer Step
close_element n [] d = refuse NotWellFormed
close_element n (f ∷ fs) d = do
  require same n f.name or NotWellFormed
  end_kind f.kind n (language_in_force (f ∷ fs)) (with_frames fs d)

unfoldable pub all : Unit {0}
unfolding G.all takes_node object_term cells head_cell end_value end_kind close_element
all = tt
