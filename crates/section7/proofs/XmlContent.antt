-- 7.2.17: the events of XML content inside a parseType Literal.
use Rattle.std.specs.Prelude.{◌≡◌, true, false, ◌&&◌, not}
use Rattle.std.proofs.Math.Path.{refl, sym, ap}
use Rattle.std.proofs.Common.{◌∙◌}
use Rattle.std.proofs.Math.Option.{Option, none}
use mathlib.Core.List.{List, [], ◌∷◌, ◌++◌, map, append_assoc, append-nil}
use Rattle.spec.specs.Bytes.{Bytes, when◌then◌else◌, same, is_empty, member, repeats, each, All, ◌>>=◌, ◌>>◌, require◌or◌}
use Rattle.spec.specs.Numbers.{good}
use Rattle.spec.specs.declared.Refusal.TheVariants.{NotWellFormed, OverLimit, EmptyLiteral}
use Rattle.spec.specs.Pyx.{Attribute, attribute, Event, opening, closing, text}
use Rattle.spec.specs.Namespaces.{Binding, declared, name_of, all_legal, known_attribute, repeats_written}
use Rattle.spec.specs.Rdf.{rdf}
use Rattle.spec.specs.NTriples.{typed, coded}
use Rattle.spec.specs.XmlLang.{unsaid}
use Rattle.spec.specs.Document.{literal, Property, property_element, xml_element, ordinary, Frame, Doc, with_frames, with_kind, is_xml_element, on_value, change_value, in_scope, xml, place_in, in_kind, in_value}
use Rattle.spec.specs.Productions.{statement}
use Rattle.spec.specs.XmlLiteral.{start_tag_xml, end_tag_xml, text_byte, text_xml, takes_xml, add_xml}
use Rattle.spec.specs.Xmp.{starts_wrapper}
use Rattle.spec.specs.Opening.{is_second_root, copy_element, open_in, is_xml, repeated, on_opening}
use Rattle.spec.specs.EndTag.{end_value, end_kind, close_element}
use Rattle.spec.specs.RdfXml.{on_text, on_event, next}
use Rattle.spec.proofs.Bytes.{same_refl}
use Rattle.theorems.specs.AttributeNames.{known_each}
use Rattle.theorems.specs.Roles.{or_none}
use Rattle.section7.specs.Events.{Content, end, characters, instruction, comment, element, ended, events_after, same_name, stands_in, repeats_name}
use Rattle.section7.specs.Grammar.{WellFormedTag, XmlContent, Used}
use Rattle.section7.specs.Differences.{xml_text}
use Rattle.section7.specs.Reading.{Gives, Steps, Runs, doc}
use Rattle.section7.proofs.Giving.{◌first◌, ◌before◌, no_event, gives-limit, gives_pass, gives-within, instruction-gives}

-- ---- names as written

not_written : (bs : List Binding) (n : Bytes) (as' : List Attribute) → stands_in bs n as' ≡ false → member n (map name_of as') ≡ false
unfolding stands_in same_name member name_of
not_written bs n [] h = refl
not_written bs n (attribute m v ∷ as') h =
    let k : (same_name bs n m ≡ false) × (stands_in bs n as' ≡ false) = or_none (same_name bs n m) (stands_in bs n as') h in
    rw (or_none (same n m) _ k.0).0 (not_written bs n as' k.1)

-- attributes that are unique are so as written
written_once : (bs : List Binding) (as' : List Attribute) → repeats_name bs as' ≡ false → repeats_written as' ≡ false
unfolding repeats_name repeats_written repeats name_of
written_once bs [] h = refl
written_once bs (attribute n v ∷ as') h =
    let k : (stands_in bs n as' ≡ false) × (repeats_name bs as' ≡ false) = or_none (stands_in bs n as') (repeats_name bs as') h in
    rw (not_written bs n as' k.0) (written_once bs as' k.1)

-- ---- XML text

text-append : (p s : Bytes) → text_xml (p ++ s) ≡ text_xml p ++ text_xml s
unfolding text_xml coded
text-append [] s = refl
text-append (a ∷ p) s = rw (text-append p s) (sym (append_assoc (text_byte a) (text_xml p) (text_xml s)))

-- elements inside Literal content
abbrev AllXml : List Frame → Type 0
AllXml xs = All (λ f. f.kind ≡ xml_element) xs

-- the element in Literal content that a start tag opens
abbrev copy : Bytes → List Attribute → Frame
copy n as' = record { name = n; bindings = declared as'; own_base = none; own_tag = unsaid; kind = xml_element; part = ordinary }

-- g is the Literal property, with the XML text y so far
module _ (b : Option Bytes) (p : Property) (g : Frame) (fs : List Frame) (u : Used) where
  abbrev around : Bytes → List Frame
  around y = with_kind (property_element p (literal y)) g ∷ fs

  -- XML text goes to it
  takes_xml_lem : (x y : Bytes) (xs : List Frame) → AllXml xs → change_value (takes_xml x) (xs ++ around y) ≡ xs ++ around (y ++ x)
  unfolding change_value with_kind on_value takes_xml is_xml_element when◌then◌else◌
  takes_xml_lem x y [] a = refl
  takes_xml_lem x y (f ∷ xs) a = rw (a.0, takes_xml_lem x y xs a.1)

  xml_place : (y : Bytes) (xs : List Frame) → AllXml xs → place_in (xs ++ around y) ≡ xml
  unfolding place_in with_kind in_kind in_value
  xml_place y [] a = refl
  xml_place y (f ∷ xs) a = rw a.0

  -- and its namespaces are in scope
  xml_scope : (y z : Bytes) (xs : List Frame) → in_scope (xs ++ around y) ≡ in_scope (xs ++ around z)
  unfolding in_scope with_kind
  xml_scope y z [] = refl
  xml_scope y z (f ∷ xs) = ap (λ (x : List Binding). f.bindings ++ x) (xml_scope y z xs)

  text-copied : (s y : Bytes) (xs : List Frame) → AllXml xs → Steps (text s) (doc b (xs ++ around y) u) [] (doc b (xs ++ around (y ++ text_xml s)) u)
  unfolding next on_event doc on_text add_xml with_frames
  text-copied s y xs a = record {
    unwrapped = tt;
    gives = gives-within (on_text (place_in (xs ++ around y)) s (doc b (xs ++ around y) u)) _ _ (rw (xml_place y xs a, on_text, takes_xml_lem (text_xml s) y xs a) refl);
  }

  -- 6 is not given
  copy-legal : (n : Bytes) (as' : List Attribute) (y : Bytes) (xs : List Frame) (bs : List Binding) → WellFormedTag bs n as'
      → (not (is_second_root (doc b (xs ++ around y) u)) && (all_legal (declared as') && not (repeated xml as' (doc b (xs ++ around y) u)))) ≡ true
  unfolding is_second_root doc is_empty repeated is_xml when◌then◌else◌
  copy-legal n as' y [] bs t = rw (t.legal, written_once (declared as' ++ bs) as' t.once)
  copy-legal n as' y (f ∷ xs) bs t = rw (t.legal, written_once (declared as' ++ bs) as' t.once)

  copied : (n : Bytes) (as' : List Attribute) (y : Bytes) (xs : List Frame) → AllXml xs → WellFormedTag (in_scope (xs ++ around y)) n as'
      → Gives (copy_element n as' (doc b (xs ++ around y) u)) [] (doc b ((copy n as' ∷ xs) ++ around (y ++ start_tag_xml n as')) u)
  unfolding copy_element doc add_xml with_frames ◌>>=◌ ◌>>◌ require◌or◌
  copied n as' y xs a t =
      let k : (us : List (Unit {0})) × (each (known_attribute (declared as' ++ in_scope (xs ++ around y))) as' ≡ good us) = known_each _ as' t.all_known in
      rw (t.known, k.1, takes_xml_lem (start_tag_xml n as') y xs a) refl

  tag-copied : (n : Bytes) (as' : List Attribute) (y : Bytes) (xs : List Frame) → AllXml xs → WellFormedTag (in_scope (xs ++ around y)) n as'
      → Steps (opening n as') (doc b (xs ++ around y) u) [] (doc b ((copy n as' ∷ xs) ++ around (y ++ start_tag_xml n as')) u)
  unfolding next on_event on_opening open_in starts_wrapper doc
  tag-copied n as' y xs a t = record {
    unwrapped = refl;
    gives =
        gives-within (on_opening n as' (doc b (xs ++ around y) u)) _ _
        (rw (xml_place y xs a)
        (gives_pass _ NotWellFormed _ _ _ (copy-legal n as' y xs (in_scope (xs ++ around y)) t)
        (gives-limit _ OverLimit _ _ _ refl (copied n as' y xs a t))));
  }

  end_copied : (n : Bytes) (as' : List Attribute) (y : Bytes) (xs : List Frame) → AllXml xs
      → Steps (closing n) (doc b ((copy n as' ∷ xs) ++ around y) u) [] (doc b (xs ++ around (y ++ end_tag_xml n)) u)
  unfolding next on_event doc close_element end_kind add_xml with_frames
  end_copied n as' y xs a = record {
    unwrapped = tt;
    gives =
        gives-within (close_element n ((copy n as' ∷ xs) ++ around y) (doc b ((copy n as' ∷ xs) ++ around y) u)) _ _
        (gives_pass _ NotWellFormed _ _ _ (same_refl n) (rw (takes_xml_lem (end_tag_xml n) y xs a) refl));
  }

  -- characters that have no event yet
  ended-copied : (p y : Bytes) (xs : List Frame) {es : List Event} {d : Doc} → AllXml xs
      → Runs es (doc b (xs ++ around (y ++ text_xml p)) u) [] d → Runs (ended p es) (doc b (xs ++ around y) u) [] d
  unfolding ended text_xml coded
  ended-copied [] y xs a r = rw (append-nil y) at r
  ended-copied (c ∷ s) y xs a r = text-copied (c ∷ s) y xs a first r

  -- any content
  pub copy_runs : (x : Content) (p y : Bytes) (xs : List Frame) → AllXml xs → XmlContent (in_scope (xs ++ around [])) x
      → Runs (events_after p x) (doc b (xs ++ around y) u) [] (doc b (xs ++ around (y ++ (text_xml p ++ xml_text x))) u)
  unfolding events_after xml_text in_scope text_xml coded
  copy_runs end p y xs a t = rw (append-nil (text_xml p)) (ended-copied p y xs a no_event)
  copy_runs (characters s f) p y xs a t = rw (← append_assoc (text_xml p) (text_xml s) (xml_text f), ← text-append p s) (copy_runs f (p ++ s) y xs a t)
  copy_runs (instruction s f) p y xs a t = rw (← append_assoc y (text_xml p) (xml_text f)) (ended-copied p y xs a (instruction-gives first copy_runs f [] (y ++ text_xml p) xs a t))
  copy_runs (comment s f) p y xs a t = copy_runs f p y xs a t
  copy_runs (element n as' children f) p y xs a t =
      let y₀ : Bytes = y ++ text_xml p in
      let y₁ : Bytes = y₀ ++ start_tag_xml n as' in
      let y₂ : Bytes = y₁ ++ xml_text children in
      let z : y₀ ++ (start_tag_xml n as' ++ (xml_text children ++ (end_tag_xml n ++ xml_text f))) ≡ (y₂ ++ end_tag_xml n) ++ xml_text f
      = sym (append_assoc y₂ (end_tag_xml n) (xml_text f) ∙ (append_assoc y₁ (xml_text children) (end_tag_xml n ++ xml_text f) ∙ append_assoc y₀ (start_tag_xml n as') (xml_text children ++ (end_tag_xml n ++ xml_text f)))) in
      rw (← append_assoc y (text_xml p) (start_tag_xml n as' ++ (xml_text children ++ (end_tag_xml n ++ xml_text f))), z)
      (ended-copied p y xs a
      (tag-copied n as' y₀ xs a (rw (xml_scope [] y₀ xs) at t.0)
      first copy_runs children [] y₁ (copy n as' ∷ xs) (refl, a) t.1
      before end_copied n as' y₂ xs a
      first copy_runs f [] (y₂ ++ end_tag_xml n) xs a t.2))

-- 17 is not given: the statement, at the end tag
pub xml_closes : (b : Option Bytes) (p : Property) (g : Frame) (fs : List Frame) (u : Used) (x : Bytes) → is_empty x ≡ false
    → Steps (closing g.name) (doc b (with_kind (property_element p (literal x)) g ∷ fs) u) (statement p (typed x (rdf "XMLLiteral"))) (doc b fs u)
unfolding next on_event doc close_element end_kind end_value with_frames with_kind
xml_closes b p g fs u x h = record {
  unwrapped = tt;
  gives =
      gives-within (close_element g.name (with_kind (property_element p (literal x)) g ∷ fs) (doc b (with_kind (property_element p (literal x)) g ∷ fs) u)) _ _
      (gives_pass _ NotWellFormed _ _ _ (same_refl g.name) (gives_pass _ EmptyLiteral _ _ _ (ap not h) refl));
}
