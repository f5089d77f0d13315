-- A plan gives the kind of element and the number of labels that the production of the definitions gives.
use Rattle.std.specs.Prelude.{ℕ, suc, Bool, not, List, [], take}
use Rattle.std.proofs.Math.Path.{◌≡◌, refl, sym, ap}
use Rattle.std.proofs.Common.{◌∙◌, arith}
use Rattle.std.proofs.Math.Bool.{true, false}
use Rattle.std.proofs.Math.Option.{Option, none, some}
use Rattle.spec.specs.Bytes.{Bytes, when◌then◌else◌, is_some, is_empty}
use Rattle.spec.specs.NTriples.{Subject, named, blank, label}
use Rattle.spec.specs.XmlLang.{unsaid}
use Rattle.spec.specs.Document.{Object, no_object, node_object, default, collection, literal, other, Property}
use Rattle.spec.specs.Document.{rdf_rdf, wrapper, node_element, property_element, Part, ordinary, Frame as Element}
use Rattle.spec.specs.Pyx.{Attribute}
use Rattle.spec.specs.Namespaces.{declared}
use Rattle.spec.specs.StartTag.{Tag}
use Rattle.spec.specs.Productions.{Opened, subject_of, no_parse_type, as_collection, as_resource, as_literal, as_other, has_node}
use Rattle.copy.specs.Copy.{part}
use Rattle.state_words.specs.declared.Kind.{Kind}
use Rattle.state_words.specs.declared.Kind.TheVariants.{Rdf, NodeElt, PropertyElt, ParseTypeCollectionPropertyElt, ParseTypeLiteralPropertyElt, ParseTypeOtherPropertyElt}
use Rattle.state_words.specs.Words.{pick}
use Rattle.state.specs.Meaning.{object_of}
use Rattle.start_names.specs.Tag.{attributes_of}
use Rattle.state.specs.declared.language.Own.TheVariants.{Unsaid}
use Rattle.state.specs.Language.{own_in}
use Rattle.start_element.specs.declared.Pending.{Pending}
use Rattle.start_element.specs.declared.Pending.TheVariants.{Absent}
use Rattle.start_element.specs.declared.Source.{Source}
use Rattle.start_element.specs.declared.Source.TheVariants.{Missing, Own, Made}
use Rattle.start_element.specs.Element.{word_of, text_of, maybe, node_is, property_is, kind_is, part_is, new_element, Fitting}
use Rattle.start_rules.specs.Judged.{node_subject, node_opened, property_in, labels_behind, takes_label, property_opened}
use Rattle.start_rules.specs.Judged as J
use Rattle.start_plan.specs.declared.Given.{Given}
use Rattle.start_plan.specs.declared.Plan.{Plan}
use Rattle.start_plan.specs.Plan.{object_in, root_plan, wrapper_plan, node_plan, default_plan, held_plan, resource_plan}
use Rattle.start_plan.specs.Says.{Says, node-subject, object_by, object_means}

-- no object, no part of one
lacking : (r n : Source) (u : Bool) → word_of (object_in (record { base = Missing; tag = Unsaid; node = n; id = Missing; about = Missing; resource = r; datatype = Missing }) u).what ≡ 0
    → (object_in (record { base = Missing; tag = Unsaid; node = n; id = Missing; about = Missing; resource = r; datatype = Missing }) u).source ≡ Missing
unfolding object_in
lacking (Own x z) n u h = absurd (omega arith)
lacking (Made x z) n u h = absurd (omega arith)
lacking Missing (Own x z) u h = absurd (omega arith)
lacking Missing (Made x z) u h = absurd (omega arith)
lacking Missing Missing true h = absurd (omega arith)
lacking Missing Missing false h = refl

pub lacking_object : (g : Given) (u : Bool) → word_of (object_in g u).what ≡ 0 → (object_in g u).source ≡ Missing
unfolding object_in
lacking_object g u = lacking g.resource g.node u

-- ---- the wrapper of a packet: n is its name

unfoldable pub wrapper_element : Bytes → List Attribute → Element
wrapper_element n as' = record { name = n; bindings = declared as'; own_base = none; own_tag = unsaid; kind = wrapper false; part = ordinary }

pub wrapper_element_lem : (e v : List ℕ) (m k : ℕ) (a : List ℕ) (n : ℕ) (s : Subject)
    → new_element e v m k a (wrapper_plan n).parts s ≡ wrapper_element (take m e) (attributes_of e v k)
unfolding wrapper_element new_element maybe own_in kind_is part_is
wrapper_element_lem e v m k a n s = refl

pub wrapper-fitting : (n : ℕ) → Fitting (wrapper_plan n).parts
wrapper-fitting n = record { lacks = (refl, refl, refl, refl) }

-- ---- by production

-- s: the subject of the node around; q: what the element is in a packet
pub record Does (p : Plan) (e a : List ℕ) (s : Subject) (o : Opened) (q : Part) : Type 0 where
  pub kind : kind_is p.parts.kind p.parts e a s ≡ o.kind
  pub part : part_is p.parts.kind p.parts e a ≡ q
  pub labels : p.labels ≡ o.labels
  pub fitting : Fitting p.parts

module _ (g : Given) (e a : List ℕ) (s : Subject) where
  pub does_root : (k : Pending) (n : ℕ) {q : Part} → part_is Rdf (root_plan g k n).parts e a ≡ q → Does (root_plan g k n) e a s (record { lines = []; kind = rdf_rdf; labels = n }) q
  unfolding kind_is
  does_root k n h = record { kind = refl; part = h; labels = refl; fitting = record { lacks = (refl, refl, refl, refl) } }

  -- the label that was made is the next
  module _ {t : Tag} (y : Says g e a t) (n : ℕ) where
    pub does_node : part a 6144 12 ≡ label (suc n) → (k : Pending) {q : Part} → part_is NodeElt (node_plan g k (suc n)).parts e a ≡ q → Does (node_plan g k (suc n)) e a s (node_opened t n) q
    unfolding kind_is node_opened node_subject
    does_node m k h =
        record {
          kind = ap (λ (x : Subject). node_element x 0) (node-subject e a (label (suc n)) m g y);
          part = h;
          labels = refl;
          fitting = record { lacks = (refl, refl, refl) };
        }

    -- ---- properties: `main` has the property's IRI

    module _ (main : Source) (p : Property) (about : p.subject ≡ s) (written : text_of main e a ≡ p.iri) (stated : p.id ≡ t.id) where
      property : (k : Kind) (d o : Source) (w : Pending) (b : Bool)
          → property_is (record { kind = k; blank = b; base = g.base; tag = g.tag; main = main; id = g.id; datatype = d; what = w; object = o }) e a s ≡ p
      unfolding property_is
      property k d o w b = made (sym about) written (y.id ∙ sym stated)
        where
          made : {u : Subject} {i : Bytes} {x : Option Bytes} → u ≡ p.subject → i ≡ p.iri → x ≡ p.id
              → ◌≡◌ {A = Property} (record { subject = u; iri = i; id = x }) p
          made f h q = rw (f, h, q)

      pub does_collection : Does (held_plan ParseTypeCollectionPropertyElt g main n) e a s (property_opened as_collection t p n) ordinary
      unfolding kind_is part_is property_opened
      does_collection =
          record { kind = ap (λ (x : Property). property_element x (collection [])) (property ParseTypeCollectionPropertyElt Missing Missing Absent false); part = refl; labels = refl; fitting = record { lacks = (refl, refl) } }

      pub does_literal : Does (held_plan ParseTypeLiteralPropertyElt g main n) e a s (property_opened as_literal t p n) ordinary
      unfolding kind_is part_is property_opened
      does_literal =
          record { kind = ap (λ (x : Property). property_element x (literal [])) (property ParseTypeLiteralPropertyElt Missing Missing Absent false); part = refl; labels = refl; fitting = record { lacks = (refl, refl) } }

      pub does_other : Does (held_plan ParseTypeOtherPropertyElt g main n) e a s (property_opened as_other t p n) ordinary
      unfolding kind_is part_is property_opened
      does_other =
          record { kind = ap (λ (x : Property). property_element x other) (property ParseTypeOtherPropertyElt Missing Missing Absent false); part = refl; labels = refl; fitting = record { lacks = (refl, refl) } }

      pub does_resource : part a 6144 12 ≡ label (suc n) → Does (resource_plan g (suc n)) e a s (property_opened as_resource t p n) ordinary
      unfolding kind_is part_is property_opened node_is text_of
      does_resource m = record { kind = ap (λ (x : Bytes). node_element (blank x) 0) m; part = refl; labels = refl; fitting = record { lacks = (refl, refl, refl) } }

      -- a default property: u says whether it has property attributes; where it takes a label, that was made
      module _ (u : Bool) (q : u ≡ not (is_empty t.attributes)) (m : takes_label no_parse_type (is_some t.resource) (is_some t.node_id) u ≡ true → part a 6144 12 ≡ label (suc n)) where
        -- with this object
        with_object : {o : Object} {labels : ℕ} → object_of (word_of (object_in g u).what) (text_of (object_in g u).source e a) ≡ o
            → (property_opened no_parse_type t p n).kind ≡ property_element p (default t.datatype o) → labels ≡ (property_opened no_parse_type t p n).labels
            → Does (default_plan g main u labels) e a s (property_opened no_parse_type t p n) ordinary
        unfolding kind_is part_is object_in
        with_object {o} {labels} f h l =
            record {
              kind =
                  rw (y.datatype, f, property PropertyElt g.datatype (object_in g u).source (object_in g u).what false) (sym h);
              part = refl;
              labels = l;
              fitting = record { lacks = lacking g.resource g.node u };
            }

        pub does_default : Does (default_plan g main u (pick (takes_label no_parse_type (is_some t.resource) (is_some t.node_id) u) (suc n) n)) e a s (property_opened no_parse_type t p n) ordinary
        unfolding property_opened has_node J.object_in labels_behind subject_of is_some when◌then◌else◌ object_by
        does_default = go t.resource t.node_id u refl refl refl
          where
            go : (r l : Option Bytes) (v : Bool) → t.resource ≡ r → t.node_id ≡ l → u ≡ v
                → Does (default_plan g main u (pick (takes_label no_parse_type (is_some t.resource) (is_some t.node_id) u) (suc n) n)) e a s (property_opened no_parse_type t p n) ordinary
            go (some i) l v f h k = with_object {o = node_object (named i)} (object_means e a (part a 6144 12) refl g y u ∙ rw f) (rw f) (rw f)
            go none (some i) v f h k = with_object {o = node_object (blank i)} (object_means e a (part a 6144 12) refl g y u ∙ rw (f, h)) (rw (f, h)) (rw (f, h))
            go none none true f h k = with_object {o = node_object (blank (label (suc n)))} (object_means e a (label (suc n)) (m (rw (f, h, k))) g y u ∙ rw (f, h, k)) (rw (f, h, ← q, k)) (rw (f, h, ← q, k))
            go none none false f h k = with_object {o = no_object} (object_means e a (part a 6144 12) refl g y u ∙ rw (f, h, k)) (rw (f, h, ← q, k)) (rw (f, h, ← q, k))
