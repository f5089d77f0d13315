-- A start tag that section 7 accepts, read by document 01.
use Rattle.std.specs.Prelude.{◌≡◌, Bool, true, false, ◌&&◌, ◌||◌, ℕ}
use Rattle.std.proofs.Math.Path.{refl, ap}
use Rattle.std.proofs.Common.{sym, ◌∙◌}
use Rattle.std.proofs.Math.Bool.{not}
use Rattle.std.proofs.lemmas.Bool.{false≢true}
use Rattle.std.proofs.Math.Option.{Option, none, some}
use mathlib.Core.List.{List, [], ◌∷◌, ◌++◌, map, append-nil}
use Rattle.spec.specs.Bytes.{Bytes, ascii, byte, when◌then◌else◌, same, begins, is_empty, is_some, member, repeats, those, All, or_else, each, ◌>>=◌, ◌>>◌, require◌or◌}
use Rattle.spec.specs.Numbers.{Answer, refuse, good}
use Rattle.spec.specs.declared.Refusal.TheVariants.{NotWellFormed, OverLimit, BadIri}
use Rattle.spec.specs.XmlNames.{prefix_of}
use Rattle.spec.specs.Rfc3986.{resolve, resolves}
use Rattle.spec.specs.Rfc3987.{is_iri, is_iri_reference}
use Rattle.spec.specs.Rfc5646.{is_language_tag}
use Rattle.spec.specs.declared.Verdict.TheVariants.{Good, Clears, Bad}
use Rattle.spec.specs.XmlLang.{verdict, tag_of, said_by, own_of, Language, no_language, language, in_force}
use Rattle.spec.specs.Pyx.{Attribute, attribute, opening}
use Rattle.spec.specs.Namespaces.{Binding, declared, is_declaration, name_of, all_legal, expanded_names, unknown_names, repeats_expanded}
use Rattle.spec.specs.Rdf.{rdf}
use Rattle.spec.specs.NTriples.{Subject}
use Rattle.spec.proofs.Booleans.{no_true}
use Rattle.spec.proofs.Bytes.{same_true, same_refl}
use Rattle.spec.specs.Rdf as F
use Rattle.spec.specs.Modes.{base_mode}
use Rattle.spec.specs.Document.{Kind, ordinary, Frame, Doc, with_kind, with_part, in_scope, language_in_force, base_in_force, place_in, in_kind}
use Rattle.spec.specs.StartTag.{rdf_ID, rdf_node_id, rdf_about, rdf_resource, rdf_datatype, rdf_parse_type, rdf_type, role_number, same_role, rdf_roles, role_among, resolved, with_hash, is_unused, Tag, read_tag, is_short}
use Rattle.spec.specs.Productions.{Opened}
use Rattle.spec.specs.Xmp.{starts_wrapper, new_part, noted}
use Rattle.spec.specs.Opening.{enter, counted, count_li, opened, open_element, open_in, is_xml, is_second_root, repeated, on_opening}
use Rattle.spec.specs.RdfXml.{next, on_event}
use Rattle.theorems.specs.Always.{always_bind, always_any, always_after, always_self, always_good}
use Rattle.theorems.specs.Rules.{no_rules}
use Rattle.theorems.specs.Roles.{or_none, name_in}
use Rattle.section7.specs.Events.{Context, written, target, language_under, inside, AttributeEvent, uri_of, is_reserved_term, is_named}
use Rattle.section7.specs.Grammar.{value, values, is_rdf_id, all_resolved, type_triple, type_triples, Identifier, under, identifier, entered, fragment, iri_of_identifier, StartElement, Used, attrs, node_id}
use Rattle.section7.specs.Differences.{says, is_free_label, NoDifferenceInTag, OneIriEach}
use Rattle.section7.specs.Reading.{Gives, Steps, doc, context}
use Rattle.section7.proofs.Giving.{gives-limit, gives_pass, gives-within, Produces}
use Rattle.section7.proofs.Attributes.{Fine, Accepted, AcceptedEvent, no_attributes, says_then, fine_all, fine_meanings, RdfRole, once_among, first_value, is_property, property-events, first_lang, first_base}

-- ---- the roles

id_role : RdfRole rdf_ID
unfolding same_role role_number role_among rdf_roles name_in when◌then◌else◌ F.all
id_role = record { has_name_lem = refl; not_nothing = refl; not_lang = refl; not_base = refl; in_rdf_context = refl }

node_id_role : RdfRole rdf_node_id
unfolding same_role role_number role_among rdf_roles name_in when◌then◌else◌ F.all
node_id_role = record { has_name_lem = refl; not_nothing = refl; not_lang = refl; not_base = refl; in_rdf_context = refl }

about_role : RdfRole rdf_about
unfolding same_role role_number role_among rdf_roles name_in when◌then◌else◌ F.all
about_role = record { has_name_lem = refl; not_nothing = refl; not_lang = refl; not_base = refl; in_rdf_context = refl }

resource_role : RdfRole rdf_resource
unfolding same_role role_number role_among rdf_roles name_in when◌then◌else◌ F.all
resource_role = record { has_name_lem = refl; not_nothing = refl; not_lang = refl; not_base = refl; in_rdf_context = refl }

datatype_role : RdfRole rdf_datatype
unfolding same_role role_number role_among rdf_roles name_in when◌then◌else◌ F.all
datatype_role = record { has_name_lem = refl; not_nothing = refl; not_lang = refl; not_base = refl; in_rdf_context = refl }

parse_type_role : RdfRole rdf_parse_type
unfolding same_role role_number role_among rdf_roles name_in when◌then◌else◌ F.all
parse_type_role = record { has_name_lem = refl; not_nothing = refl; not_lang = refl; not_base = refl; in_rdf_context = refl }

type_role : RdfRole rdf_type
unfolding same_role role_number role_among rdf_roles name_in when◌then◌else◌ F.all
type_role = record { has_name_lem = refl; not_nothing = refl; not_lang = refl; not_base = refl; in_rdf_context = refl }

-- ---- rdf:IDs

-- a reference that is there is good as some IRI, and one that is not as none
resolved-some : (b : Option Bytes) (r : Bytes) (i : Option Bytes) → resolved b (some r) ≡ good i → is_some i ≡ true
unfolding resolved is_some
resolved-some none r i h = always_good (λ j. is_some j ≡ true) (always_after (λ j. is_some j ≡ true) (require is_iri r or BadIri) (good (some r)) refl) h
resolved-some (some b) r i h =
    always_good (λ j. is_some j ≡ true) (always_after (λ j. is_some j ≡ true) (require is_iri_reference r && resolves b r or BadIri) (good (some (resolve b r))) refl) h

none_resolved : (b i : Option Bytes) → resolved b none ≡ good i → i ≡ none
unfolding resolved
none_resolved b i h = let z : good none ≡ good i = h in cc

hash_same : (o : Option Bytes) → with_hash o ≡ fragment o
unfolding with_hash fragment
hash_same none = refl
hash_same (some v) = refl

module _ (ids : List Identifier) where
  -- entered as an IRI and as a pair
  entered_iri : (b v i : Option Bytes) → resolved b (fragment v) ≡ good i → enter i (map iri_of_identifier ids) ≡ map iri_of_identifier (entered (under b v) ids)
  unfolding fragment entered under enter iri_of_identifier uri_of target
  entered_iri b none i h = let g : i ≡ none = none_resolved b i h in rw g
  entered_iri b (some v) none h = absurd (false≢true (unfold is_some in resolved-some b (byte "#" ∷ v) none h))
  entered_iri b (some v) (some i) h = rw h

  unused_iri : (i : Option Bytes) → repeats (enter i (map iri_of_identifier ids)) ≡ false → is_unused i (map iri_of_identifier ids) ≡ true
  unfolding enter is_unused repeats
  unused_iri none h = refl
  unused_iri (some i) h = ap not (or_none (member i (map iri_of_identifier ids)) (repeats (map iri_of_identifier ids)) h).0

-- ---- what is inside

-- 6.1.2 as document 01 has it
pub same-language : (as' : List Attribute) (l : Language)
    → All (λ a. says "xml:lang" (λ v. is_empty v || is_language_tag v) a ≡ true) as'
    → language_under (written (ascii "xml:lang") as') l ≡ in_force (own_of (written (ascii "xml:lang") as')) l
unfolding language_under written own_of said_by verdict tag_of in_force when◌then◌else◌
same-language [] l h = refl
same-language (attribute n v ∷ as') l h = go (same n (ascii "xml:lang")) refl (same-language as' l h.1)
  where
    said : (a b : Bool) → (a || b) ≡ true
        → (when a then no_language else language (tag_of v))
        ≡ in_force (said_by (when a then Clears else when b then Good else Bad) v) l
    said true b k = refl
    said false true k = refl
    said false false k = absurd (false≢true k)

    go : (t : Bool) → same n (ascii "xml:lang") ≡ t
        → language_under (written (ascii "xml:lang") as') l ≡ in_force (own_of (written (ascii "xml:lang") as')) l
        → language_under (when t then some v else written (ascii "xml:lang") as') l
        ≡ in_force (own_of (when t then some v else written (ascii "xml:lang") as')) l
    go true e k = said (is_empty v) (is_language_tag v) (says_then "xml:lang" _ n v h.0 e)
    go false e k = k

pub same-base_uri : (as' : List Attribute) (b : Option Bytes) → resolved b (written (ascii "xml:base") as') ≡ good (written (ascii "xml:base") as')
    → or_else (target (resolved b (written (ascii "xml:base") as'))) b ≡ or_else (written (ascii "xml:base") as') b
unfolding target
same-base_uri as' b h = rw h

same-context : (x : Context) {bs : List Binding} {b : Option Bytes} {l : Language} → x.bindings ≡ bs → x.base_uri ≡ b → x.language ≡ l → x ≡ record { bindings = bs; base_uri = b; language = l }
same-context x p q r = rw (← p, ← q, ← r)

-- ---- rdf:type

-- the first, as it is the only one
unfoldable pub first_type : List (Option Bytes) → Option Bytes
first_type [] = none
first_type (t ∷ ts) = t

-- one or none
unfoldable pub few : {A : Type 0} → List A → Bool
few [] = true
few (a ∷ []) = true
few (a ∷ b ∷ l) = false

abbrev uris : List AttributeEvent → List Bytes
uris es = map (λ (a : AttributeEvent). a.0) es

no_values : (u : Bytes) (es : List AttributeEvent) → member u (uris es) ≡ false → values u es ≡ []
unfolding values member when◌then◌else◌
no_values u [] h = refl
no_values u (a ∷ es) h = let k : (same u a.0 ≡ false) × (member u (uris es) ≡ false) = or_none _ _ h in rw (unlike a.0 u k.0) (no_values u es k.1)
  where
    unlike : (i u : Bytes) → same u i ≡ false → same i u ≡ false
    unlike i u h = no_true _ λ s. false≢true (sym h ∙ (ap (same u) (same_true i u s) ∙ same_refl u))

few-values : (u : Bytes) (es : List AttributeEvent) → repeats (uris es) ≡ false → few (values u es) ≡ true
unfolding values repeats few when◌then◌else◌
few-values u [] h = refl
few-values u (a ∷ es) h = go (same a.0 u) refl (few-values u es (or_none (member a.0 (uris es)) (repeats (uris es)) h).1)
  where
    go : (b : Bool) → same a.0 u ≡ b → few (values u es) ≡ true → few (when b then a.1 ∷ values u es else values u es) ≡ true
    go true e k = let z : values u es ≡ [] = no_values u es (rw (same_true a.0 u e) at (or_none (member a.0 (uris es)) (repeats (uris es)) h).0) in rw z
    go false e k = k

few_types : (b : Option Bytes) (vs : List Bytes) (ts : List (Option Bytes)) → few vs ≡ true → all_resolved b vs ≡ good ts → few ts ≡ true
unfolding few all_resolved each ◌>>=◌
few_types b [] ts f h = let z : good [] ≡ good ts = h in let g : ts ≡ [] = cc in rw g
few_types b (v ∷ []) ts f h = always_good (λ ts. few ts ≡ true) (always_any (λ ts. few ts ≡ true) (resolved b (some v)) (λ i. good (i ∷ [])) λ i. refl) h
few_types b (v ∷ w ∷ vs) ts f h = absurd (false≢true f)

-- its triples are those of the first
pub one-triple : (s : Subject) (ts : List (Option Bytes)) → few ts ≡ true → type_triple s (first_type ts) ≡ type_triples s ts
unfolding few first_type type_triple type_triples
one-triple s [] h = refl
one-triple s (t ∷ []) h = sym (append-nil (type_triple s t))
one-triple s (t ∷ r ∷ ts) h = absurd (false≢true h)

-- and the reader resolves the first
resolves_first : (b : Option Bytes) (v : Bytes) (vs : List Bytes) (ts : List (Option Bytes)) → all_resolved b (v ∷ vs) ≡ good ts → resolved b (some v) ≡ good (first_type ts)
unfolding all_resolved each first_type
resolves_first b v vs ts h =
    always_good (λ ts. resolved b (some v) ≡ good (first_type ts))
    (always_bind (λ i. resolved b (some v) ≡ good i) (λ ts. resolved b (some v) ≡ good (first_type ts)) (resolved b (some v)) _ (always_self (resolved b (some v)))
    λ i q. always_any (λ ts. resolved b (some v) ≡ good (first_type ts)) (all_resolved b vs) _ λ is. q) h

type_first : (b : Option Bytes) (es : List AttributeEvent) (ts : List (Option Bytes)) → all_resolved b (values (rdf "type") es) ≡ good ts → resolved b (value (rdf "type") es) ≡ good (first_type ts)
unfolding values value when◌then◌else◌
type_first b [] ts h = unfold all_resolved each first_type resolved in let z : good [] ≡ good ts = h in let g : ts ≡ [] = cc in rw g
type_first b (a ∷ es) ts h = go (same a.0 (rdf "type")) h (type_first b es ts)
  where
    go : (t : Bool) → all_resolved b (when t then a.1 ∷ values (rdf "type") es else values (rdf "type") es) ≡ good ts
        → (all_resolved b (values (rdf "type") es) ≡ good ts → resolved b (value (rdf "type") es) ≡ good (first_type ts))
        → resolved b (when t then some a.1 else value (rdf "type") es) ≡ good (first_type ts)
    go true h k = resolves_first b a.1 (values (rdf "type") es) ts h
    go false h k = k h

-- ---- the tag

-- what the grammar and the clauses give of a start tag
pub record Readable (c : Context) (n : Bytes) (as' : List Attribute) (u : Used) (e : StartElement c n as' u.ids) : Type 0 where
  pub fine : All (Fine (declared as' ++ c.bindings)) as'
  pub joined : repeats_expanded (declared as' ++ c.bindings) as' ≡ false
  pub base_same : (inside as' c).base_uri ≡ or_else (written (ascii "xml:base") as') c.base_uri
  pub language_same : (inside as' c).language ≡ in_force (own_of (written (ascii "xml:lang") as')) c.language
  pub unused : is_unused e.id (map iri_of_identifier u.ids) ≡ true
  pub one_type : few e.types ≡ true

all_accepted : (bs : List Binding) (as' : List Attribute) → All (λ a. is_named bs a ≡ true) as'
    → All (λ a. (is_reserved_term (name_of a) || not (is_empty (prefix_of (name_of a)))) ≡ true) as' → All (λ a. (not (is_reserved_term (name_of a)) || begins (ascii "xml") (name_of a)) ≡ true) as'
    → All (λ a. says "xml:lang" (λ v. is_empty v || is_language_tag v) a ≡ true) as' → All (λ a. says "xml:base" is_iri a ≡ true) as'
    → All (Accepted bs) as'
all_accepted bs [] g h i k l = tt
all_accepted bs (y ∷ as') g h i k l =
    (record { named = g.0; prefixed = h.0; small = i.0; tag = k.0; base = l.0 }, all_accepted bs as' g.1 h.1 i.1 k.1 l.1)

all_events : (es : List AttributeEvent) → All (λ a. is_rdf_id a ≡ true) es → All (λ a. is_free_label a ≡ true) es → All (λ a. member a.0 no_attributes ≡ false) es → All AcceptedEvent es
all_events [] g h i = tt
all_events (a ∷ es) g h i = ((g.0, h.0, i.0), all_events es g.1 h.1 i.1)

names_once : (bs : List Binding) (as' : List Attribute) → repeats_expanded bs as' ≡ false → repeats (expanded_names bs as') ≡ false
unfolding repeats_expanded
names_once bs as' h =
    (or_none (repeats (unknown_names bs as')) (repeats (expanded_names bs as'))
    (or_none (repeats (map name_of (those is_declaration as'))) (repeats (unknown_names bs as') || repeats (expanded_names bs as')) h).1).1

pub readable : (c : Context) (n : Bytes) (as' : List Attribute) (u : Used) (e : StartElement c n as' u.ids) → NoDifferenceInTag c as'
    → All (λ a. member a.0 no_attributes ≡ false) (attrs c as') → OneIriEach (entered (identifier c as') u.ids) → Readable c n as' u e
unfolding inside
readable c n as' u e d a o =
    let bs : List Binding = declared as' ++ c.bindings in
    let fine : All (Fine bs) as'
    = fine_all bs as' (all_accepted bs as' e.all_named d.names-without_prefix d.names_in_capitals d.other-language d.relative_base)
    (all_events (attrs c as') e.all_ids d.refused-label a) in
    record {
      fine = fine;
      joined = d.joined-names;
      base_same = same-base_uri as' c.base_uri d.dots_in_base;
      language_same = same-language as' c.language d.other-language;
      unused = unused_iri u.ids e.id (rw (entered_iri u.ids (inside as' c).base_uri (value (rdf "ID") (attrs c as')) e.id e.id_resolved) o);
      one_type = few_types _ _ e.types (few-values (rdf "type") (attrs c as') (once_among bs as' fine (names_once bs as' d.joined-names))) e.types_resolved;
    }

module _ (c : Context) (n : Bytes) (as' : List Attribute) (u : Used) (e : StartElement c n as' u.ids) where
  -- the same, as document 01 reads it
  unfoldable pub tag : Tag
  tag = record {
    name = n;
    iri = e.uri;
    bindings = declared as';
    names = expanded_names (declared as' ++ c.bindings) as';
    own_base = written (ascii "xml:base") as';
    own_tag = own_of (written (ascii "xml:lang") as');
    language = (inside as' c).language;
    node_id = node_id c as';
    parse_type = value (rdf "parseType") (attrs c as');
    attributes = those is_property (attrs c as');
    id = e.id;
    about = e.about;
    resource = e.resource;
    datatype = e.datatype;
    type = first_type e.types;
  }

  -- the new element, of kind k
  unfoldable pub frame : Kind → Frame
  frame k = record { name = n; bindings = declared as'; own_base = written (ascii "xml:base") as'; own_tag = own_of (written (ascii "xml:lang") as'); kind = k; part = ordinary }

  -- its rdf:ID, entered
  pub ids_entered : enter e.id (map iri_of_identifier u.ids) ≡ map iri_of_identifier (entered (identifier c as') u.ids)
  ids_entered = entered_iri u.ids (inside as' c).base_uri (value (rdf "ID") (attrs c as')) e.id e.id_resolved

  pub produced : (d : Doc) (m : Answer Opened) (o : Opened) → Produces m o → Gives (m >>= λ x. (require is_short tag or OverLimit) >> good (opened tag d x)) o.lines (opened tag d o).1
  unfolding ◌>>=◌ opened
  produced d (refuse r) o h = h
  produced d (good x) o h = rw h (gives-limit (is_short tag) OverLimit (good (opened tag d o)) o.lines (opened tag d o).1 refl refl)

  inside_bindings : (inside as' c).bindings ≡ declared as' ++ c.bindings
  unfolding inside
  inside_bindings = refl

  module _ (r : Readable c n as' u e) where
    pub tag_read : (b : Option Bytes) (fs : List Frame) → c ≡ context b fs → read_tag n as' (doc b fs u) ≡ good tag
    unfolding read_tag doc context tag name_in ◌>>=◌ ◌>>◌ require◌or◌
    tag_read b fs q =
        let bs : List Binding = declared as' ++ c.bindings in
        let qb : in_scope fs ≡ c.bindings = ap (λ (x : Context). x.bindings) (sym q) in
        let qu : base_in_force b fs ≡ c.base_uri = ap (λ (x : Context). x.base_uri) (sym q) in
        let ql : language_in_force fs ≡ c.language = ap (λ (x : Context). x.language) (sym q) in
        rw (
          qb,
          qu,
          ql,
          e.expanded,
          fine_meanings bs as' r.fine,
          first_base bs as' r.fine,
          first_lang bs as' r.fine,
          ← r.base_same,
          ← r.language_same,
          first_value bs rdf_ID id_role as' r.fine,
          hash_same (value (rdf "ID") (attrs c as')),
          e.id_resolved,
          r.unused,
          first_value bs rdf_about about_role as' r.fine,
          e.about_resolved,
          first_value bs rdf_resource resource_role as' r.fine,
          e.resource_resolved,
          first_value bs rdf_datatype datatype_role as' r.fine,
          e.datatype_resolved,
          first_value bs rdf_type type_role as' r.fine,
          type_first (inside as' c).base_uri (attrs c as') e.types e.types_resolved,
          first_value bs rdf_node_id node_id_role as' r.fine,
          first_value bs rdf_parse_type parse_type_role as' r.fine,
          property-events bs as' r.fine,
        )

    -- 6 is not given
    well_formed_lem : (b : Option Bytes) (f : Frame) (k : Kind) (fs : List Frame) → c ≡ context b (f ∷ fs) → is_xml (in_kind k) ≡ false
        → (not (is_second_root (doc b (with_kind k f ∷ fs) u)) && (all_legal (declared as') && not (repeated (in_kind k) as' (doc b (with_kind k f ∷ fs) u)))) ≡ true
    unfolding is_second_root is_empty repeated doc context with_kind in_scope when◌then◌else◌
    well_formed_lem b f k fs q x = let qb : f.bindings ++ in_scope fs ≡ c.bindings = ap (λ (y : Context). y.bindings) (sym q) in rw (x, qb, e.legal, r.joined)

    pub opening-gives : (b : Option Bytes) (f : Frame) (k : Kind) (fs : List Frame) (production : Tag → ℕ → Answer Opened) (o : Opened)
        → c ≡ context b (f ∷ fs) → is_xml (in_kind k) ≡ false → ((d : Doc) → open_in (in_kind k) n as' d ≡ open_element production n as' d) → Produces (production tag u.labels) o
        → Steps (opening n as') (doc b (with_kind k f ∷ fs) u) o.lines
        (doc b (frame o.kind ∷ with_kind (counted e.uri k) f ∷ fs) (record { labels = o.labels; ids = entered (identifier c as') u.ids }))
    unfolding next on_event on_opening place_in with_kind with_part starts_wrapper open_element new_part noted opened count_li frame doc tag context in_scope language_in_force base_in_force ◌>>=◌ ◌>>◌
    opening-gives b f k fs production o q x by p =
        let d : Doc = doc b (with_kind k f ∷ fs) u in
        rw (← ids_entered)
        (record {
          unwrapped = refl;
          gives =
              gives-within (on_opening n as' d) _ _
              (gives_pass _ NotWellFormed _ _ _ (well_formed_lem b f k fs q x)
              (gives-limit _ OverLimit _ _ _ refl
              (rw (by d, tag_read b (with_kind k f ∷ fs) q, no_rules base_mode (with_kind k f ∷ fs) tag (production tag u.labels) refl) (produced d (production tag u.labels) o p))));
        })

    -- the context inside it
    pub inner : (b : Option Bytes) (k : Kind) (fs : List Frame) → c ≡ context b fs → inside as' c ≡ context b (frame k ∷ fs)
    unfolding context frame in_scope base_in_force language_in_force
    inner b k fs q =
        let qb : c.bindings ≡ in_scope fs = ap (λ (x : Context). x.bindings) q in
        let qu : c.base_uri ≡ base_in_force b fs = ap (λ (x : Context). x.base_uri) q in
        let ql : c.language ≡ language_in_force fs = ap (λ (x : Context). x.language) q in
        same-context (inside as' c) (inside_bindings ∙ ap (λ (x : List Binding). declared as' ++ x) qb)
        (r.base_same ∙ ap (or_else (written (ascii "xml:base") as')) qu) (r.language_same ∙ ap (in_force (own_of (written (ascii "xml:lang") as'))) ql)
