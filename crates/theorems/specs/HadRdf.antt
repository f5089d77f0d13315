-- Document 02, request 1: a wrapper in which an element is open has had its rdf:RDF.
use Rattle.std.specs.Prelude.{◌≡◌, refl, Bool, true, false, List, [], ◌∷◌, ℕ}
use Rattle.std.proofs.Math.Option.{Option}
use Rattle.std.proofs.Common.{arith}
use Rattle.spec.specs.Bytes.{Bytes, when◌then◌else◌, All}
use Rattle.spec.specs.NTriples.{Triple}
use Rattle.spec.specs.declared.Mode.{Mode}
use Rattle.spec.specs.Document.{Value, Kind, rdf_rdf, wrapper, node_element, property_element, xml_element, Part, Frame, Doc, fresh, with_frames, with_labels, with_kind, with_part, xml, in_kind, place_in, change_value, on_value, is_xml_element}
use Rattle.spec.specs.Xmp.{wrapped}
use Rattle.spec.specs.Opening.{counted, count_li, opened}
use Rattle.spec.specs.Lists.{After}
use Rattle.theorems.specs.Changes.{Change, stays, takes_text_lem, takes_xml_lem, copies, opens, wraps, ends_root, ends_wrapper, ends_node, ends_property, ends_xml, all_changed, always_holds}

-- a wrapper that had it
abbrev pub HadRdf : Kind → Type 0
HadRdf rdf_rdf = Unit {0}
HadRdf (wrapper had) = had ≡ true
HadRdf (node_element s li) = Unit {0}
HadRdf (property_element p v) = Unit {0}
HadRdf xml_element = Unit {0}

-- of all open elements but the innermost
abbrev pub Had : List Frame → Type 0
Had [] = Unit {0}
Had (f ∷ fs) = All (λ g. HadRdf g.kind) fs

had_counted : (i : Bytes) (k : Kind) → HadRdf (counted i k)
unfolding counted
had_counted i rdf_rdf = tt
had_counted i (wrapper had) = refl
had_counted i (node_element s li) = tt
had_counted i (property_element p v) = tt
had_counted i xml_element = tt

had_count : (i : Bytes) (g : Part → Part) (fs : List Frame) → Had fs → All (λ f. HadRdf f.kind) (count_li i g fs)
unfolding count_li with_kind with_part
had_count i g [] h = tt
had_count i g (f ∷ fs) h = (had_counted i f.kind, h)

had_value : (g : Value → Value) (k : Kind) → HadRdf k → HadRdf (on_value g k)
unfolding on_value
had_value g rdf_rdf h = tt
had_value g (wrapper had) h = h
had_value g (node_element s li) h = tt
had_value g (property_element p v) h = tt
had_value g xml_element h = tt

had_changed : (g : Value → Value) (fs : List Frame) → All (λ f. HadRdf f.kind) fs
    → All (λ f. HadRdf f.kind) (change_value g fs)
unfolding with_kind
had_changed g fs h = all_changed (λ f. HadRdf f.kind) g (λ f k. had_value g f.kind k) fs h

had_behind : (g : Value → Value) (fs : List Frame) → Had fs → Had (change_value g fs)
unfolding change_value when◌then◌else◌
had_behind g [] h = tt
had_behind g (f ∷ fs) h = go (is_xml_element f.kind)
  where
    go : (b : Bool) → Had (when b then f ∷ change_value g fs else with_kind (on_value g f.kind) f ∷ fs)
    go true = had_changed g fs h
    go false = h

-- and of that too, where it is in Literal content
all_had : (fs : List Frame) → place_in fs ≡ xml → Had fs → All (λ f. HadRdf f.kind) fs
unfolding place_in in_kind
all_had [] e h = tt
all_had (f ∷ fs) e h = (go f.kind e, h)
  where
    go : (k : Kind) → in_kind k ≡ xml → HadRdf k
    go rdf_rdf e = tt
    go (wrapper had) e = let z : ◌≡◌ {A = ℕ} 0 1 = cc in absurd (omega arith)
    go (node_element s li) e = tt
    go (property_element p v) e = tt
    go xml_element e = tt

tail_had : (fs : List Frame) → All (λ f. HadRdf f.kind) fs → Had fs
tail_had [] h = tt
tail_had (f ∷ fs) h = h.1

closed_had : (f : Frame) (fs gs : List Frame) → gs ≡ f ∷ fs → Had gs → All (λ g. HadRdf g.kind) fs
closed_had f fs gs is h = let k : Had (f ∷ fs) = rw is at h in k

had : {d d' : Doc} {us : List Triple} → Change d us d' → Had d.frames → Had d'.frames
unfolding with_frames with_labels opened wrapped
had stays h = h
had {d} (takes_text_lem v e) h = had_behind _ d.frames h
had {d} (takes_xml_lem x e) h = had_behind _ d.frames h
had {d} (copies m as' x e c) h = had_changed _ d.frames (all_had d.frames e h)
had {d} (opens m as' t o z c r g q s) h = had_count t.iri _ d.frames h
had {d} (wraps m as' z p e c) h = rw e tt
had {d} (ends_root f fs is k) h = tail_had fs (closed_had f fs d.frames is h)
had {d} (ends_wrapper f fs b is k) h = tail_had fs (closed_had f fs d.frames is h)
had {d} (ends_node f fs s li is k) h = had_behind _ fs (tail_had fs (closed_had f fs d.frames is h))
had {d} (ends_property f fs p v l ws n is k q) h = tail_had fs (closed_had f fs d.frames is h)
had {d} (ends_xml f fs x is k) h = had_behind _ fs (tail_had fs (closed_had f fs d.frames is h))

-- Behind every accepted event.
pub always_had : (m : Mode) (b : Option Bytes) {d : Doc} {ts : List Triple} → After (fresh m b) d ts → Had d.frames
unfolding fresh
always_had m b a = always_holds (λ d. Had d.frames) (λ d d' us c f k. had c k) tt a
