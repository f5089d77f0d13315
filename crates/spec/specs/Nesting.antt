-- How open elements stand in each other, behind each accepted event (theorem: Nesting of `theorems`).
use Rattle.std.specs.Prelude.{◌≡◌, Bool, true, false, List, [], ◌∷◌, ℕ}
use Rattle.spec.specs.declared.Mode.{Mode}
use Rattle.spec.specs.Document.{Kind, rdf_rdf, wrapper, node_element, property_element, xml_element, Frame, Place, outside, xml, properties, place_in}
use Rattle.spec.specs.Opening.{is_xml}

-- only the profile has a wrapper
abbrev pub Wraps : Bool → Place → Type 0
Wraps false p = ⊥
Wraps true p = p ≡ outside

-- rdf:RDF is the root, or in the wrapper, which is; a property stands in the node of its subject; in Literal content stand only elements of its own
abbrev pub Stands : Mode → Kind → Place → Type 0
Stands m rdf_rdf p = p ≡ outside
Stands m (wrapper b) p = Wraps m.xmp p
Stands m (node_element s li) p = is_xml p ≡ false
Stands m (property_element o v) p = (li : ℕ) × (p ≡ properties o.subject li)
Stands m xml_element p = p ≡ xml

-- each in those around it
abbrev pub Nested : Mode → List Frame → Type 0
Nested m [] = Unit {0}
Nested m (f ∷ fs) = Stands m f.kind (place_in fs) × Nested m fs
