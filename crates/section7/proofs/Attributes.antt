-- The attribute events of section 6 and the attributes' meanings in document 01.
use Rattle.std.specs.Prelude.{◌≡◌, Bool, ◌&&◌, ◌||◌, eqb}
use Rattle.std.proofs.Math.Path.{refl, sym, ap, subst}
use Rattle.std.proofs.Common.{◌∙◌}
use Rattle.std.proofs.Math.Bool.{true, false, not}
use Rattle.std.proofs.lemmas.Bool.{false≢true}
use Rattle.std.proofs.Math.Option.{Option, none, some}
use mathlib.Core.List.{List, [], ◌∷◌, ◌++◌, map}
use Prim.Native.String.{String}
use borrow.Author.Tests.{eqb-true, eq-eqb, not-true}
use Rattle.spec.specs.Bytes.{Bytes, ascii, when◌then◌else◌, same, begins, is_empty, is_some, present, repeats, member, those, each, All, ◌>>=◌, ◌>>◌, require◌or◌}
use Rattle.spec.specs.Numbers.{good}
use Rattle.spec.specs.Abnf.{lower}
use Rattle.spec.specs.Abnf as A
use Rattle.spec.specs.XmlNames.{is_nc_name, prefix_of, local_of}
use Rattle.spec.specs.Rfc3987.{is_iri}
use Rattle.spec.specs.Rfc5646.{is_language_tag}
use Rattle.spec.specs.declared.Verdict.TheVariants.{Good, Clears, Bad}
use Rattle.spec.specs.XmlLang.{verdict, is_allowed}
use Rattle.spec.specs.Pyx.{Attribute, attribute}
use Rattle.spec.specs.Namespaces.{Binding, is_declaration, name_of, is_known, namespace, joined, expand_attribute, expanded_names}
use Rattle.spec.specs.Rdf.{rdf}
use Rattle.spec.specs.Rdf as F
use Rattle.spec.specs.StartTag.{Role, nothing, xml_lang, xml_base, rdf_ID, rdf_bag_id, rdf_node_id, rdf_about, rdf_resource, rdf_datatype, rdf_parse_type, rdf_type, forbidden, property, role_number, same_role, rdf_roles, role_among, role_of, is_generated, ends_in_stop, judge, known, Meaning, means, meaning, first, property_attributes}
use Rattle.spec.proofs.Booleans.{and_left, and_right, no_true}
use Rattle.spec.proofs.Bytes.{same_true, same_refl}
use Rattle.theorems.specs.AttributeNames.{declaration_xml, declaration_not, named_xml}
use Rattle.theorems.specs.Roles.{or_none, name_in, has_name, same_role_lem, table_fits, among-name}
use Rattle.section7.specs.Events.{written, AttributeEvent, uri_of, attribute_uri, is_reserved_term, is_named, attributes}
use Rattle.section7.specs.Grammar.{old_terms, value, is_rdf_id}
use Rattle.section7.specs.Differences.{says, is_free_label}

-- ---- an attribute that the reader accepts

unfoldable pub good_value : Bytes → Bytes → Bool
good_value u v =
    when same u (rdf "ID") then is_nc_name v else
    when same u (rdf "nodeID") then is_nc_name v && (not (ends_in_stop v) && not (is_generated v)) else true

pub data Fine (bs : List Binding) : Attribute → Type 0 where
  declaration : {n v : Bytes} → is_declaration (attribute n v) ≡ true → Fine bs (attribute n v)
  -- a name that begins `xml`
  reserved : {n v : Bytes} → is_declaration (attribute n v) ≡ false → begins (ascii "xml") n ≡ true → is_known bs n ≡ true
      → (same n (ascii "xml:lang") ≡ true → is_allowed (verdict v) ≡ true) → (same n (ascii "xml:base") ≡ true → is_iri v ≡ true) → Fine bs (attribute n v)
  -- any other, with a prefix, and none of the terms that no production has
  event : {n v ns : Bytes} → begins (ascii "xml") (map lower n) ≡ false → is_empty (prefix_of n) ≡ false → namespace bs (prefix_of n) ≡ some ns
      → member (ns ++ local_of n) (rdf "RDF" ∷ rdf "li" ∷ old_terms) ≡ false → good_value (ns ++ local_of n) v ≡ true → Fine bs (attribute n v)

-- ---- roles and names

itself : (r : Role) → same_role r r ≡ true
unfolding same_role
itself r = eq-eqb (role_number r) (role_number r) refl

-- an attribute has a role of the table exactly when it has its name
role_named : (r : Role) (i : Bytes) → has_name r ≡ true → role_among rdf_roles (name_in r) ≡ r → same_role r (role_among rdf_roles i) ≡ same i (name_in r)
role_named r i h t = go (same i (name_in r)) refl
  where
    go : (b : Bool) → same i (name_in r) ≡ b → same_role r (role_among rdf_roles i) ≡ b
    go true e = ap (λ (x : Bytes). same_role r (role_among rdf_roles x)) (same_true i (name_in r) e) ∙ (ap (same_role r) t ∙ itself r)
    go false e = no_true _ λ s.
        let z : r ≡ role_among rdf_roles i = same_role_lem r (role_among rdf_roles i) s in
        let n : i ≡ name_in r = among-name rdf_roles i table_fits (ap has_name (sym z) ∙ h) ∙ ap name_in (sym z) in
        false≢true (sym e ∙ (ap (λ (x : Bytes). same x (name_in r)) n ∙ same_refl (name_in r)))

-- what holds of every row of the table, and of a property, holds of an attribute's role
checked : (Bytes → Role → Bool) → List (String × Role) → Bool
checked P [] = true
checked P (e ∷ rs) = P (rdf e.0) e.1 && checked P rs

table-check : (P : Bytes → Role → Bool) (u : Bytes) (rs : List (String × Role)) → checked P rs ≡ true → P u property ≡ true → P u (role_among rs u) ≡ true
unfolding checked role_among when◌then◌else◌
table-check P u [] c h = h
table-check P u (e ∷ rs) c h = go (same u (rdf e.0)) refl (table-check P u rs (and_right (P (rdf e.0) e.1) (checked P rs) c) h)
  where
    go : (b : Bool) → same u (rdf e.0) ≡ b → P u (role_among rs u) ≡ true → P u (when b then e.1 else role_among rs u) ≡ true
    go true q ih = ap (λ (x : Bytes). P x e.1) (same_true u (rdf e.0) q) ∙ and_left (P (rdf e.0) e.1) (checked P rs) c
    go false q ih = ih

-- the terms that no production has as attributes
abbrev pub no_attributes : List Bytes
no_attributes = rdf "RDF" ∷ rdf "li" ∷ old_terms

-- a role that an attribute can have
in_table : Bytes → Role → Bool
in_table u nothing = false
in_table u xml_lang = false
in_table u xml_base = false
in_table u rdf_ID = true
in_table u rdf_bag_id = member u no_attributes
in_table u rdf_node_id = true
in_table u rdf_about = true
in_table u rdf_resource = true
in_table u rdf_datatype = true
in_table u rdf_parse_type = true
in_table u rdf_type = true
in_table u forbidden = member u no_attributes
in_table u property = true

in_table_lem : (u : Bytes) → in_table u (role_among rdf_roles u) ≡ true
unfolding in_table checked rdf_roles old_terms F.all
in_table_lem u = table-check in_table u rdf_roles refl refl

id_value : (u v : Bytes) → u ≡ rdf "ID" → good_value u v ≡ true → is_nc_name v ≡ true
unfolding good_value when◌then◌else◌ F.all
id_value u v e g = let h : good_value (rdf "ID") v ≡ true = rw e at g in h

label-value : (u v : Bytes) → u ≡ rdf "nodeID" → good_value u v ≡ true → (is_nc_name v && (not (ends_in_stop v) && not (is_generated v))) ≡ true
unfolding good_value when◌then◌else◌ F.all
label-value u v e g = let h : good_value (rdf "nodeID") v ≡ true = rw e at g in h

-- 9 and 13 are not given for a good value
judge_good : (r : Role) (u v : Bytes) → in_table u r ≡ true → (has_name r ≡ true → u ≡ name_in r) → member u no_attributes ≡ false → good_value u v ≡ true → judge r v ≡ good tt
unfolding judge in_table name_in good_value when◌then◌else◌ F.all require◌or◌ ◌>>◌
judge_good nothing u v t n m g = absurd (false≢true t)
judge_good xml_lang u v t n m g = absurd (false≢true t)
judge_good xml_base u v t n m g = absurd (false≢true t)
judge_good rdf_ID u v t n m g = rw (id_value u v (n refl) g)
judge_good rdf_bag_id u v t n m g = absurd (false≢true (sym m ∙ t))
judge_good rdf_node_id u v t n m g =
    let h : (is_nc_name v && (not (ends_in_stop v) && not (is_generated v))) ≡ true = label-value u v (n refl) g in
    rw (and_left (is_nc_name v) _ h, and_right (is_nc_name v) _ h)
judge_good rdf_about u v t n m g = refl
judge_good rdf_resource u v t n m g = refl
judge_good rdf_datatype u v t n m g = refl
judge_good rdf_parse_type u v t n m g = refl
judge_good rdf_type u v t n m g = refl
judge_good forbidden u v t n m g = absurd (false≢true (sym m ∙ t))
judge_good property u v t n m g = refl

-- ---- an attribute's meaning

unfoldable pub meaning_of_attribute : List Binding → Attribute → Meaning
meaning_of_attribute bs (attribute n v) =
    when is_declaration (attribute n v) then means nothing n v else means (role_of n (uri_of (expand_attribute bs n))) (uri_of (expand_attribute bs n)) v

-- a name that begins `xml` does so in lower case
lower_xml : (n : Bytes) → begins (ascii "xml") n ≡ true → begins (ascii "xml") (map lower n) ≡ true
unfolding begins ascii
lower_xml [] h = absurd (false≢true h)
lower_xml (a ∷ []) h = absurd (false≢true (and_right (eqb 120 a) false h))
lower_xml (a ∷ b ∷ []) h = absurd (false≢true (and_right (eqb 109 b) false (and_right (eqb 120 a) (eqb 109 b && false) h)))
lower_xml (a ∷ b ∷ c ∷ n) h =
    let ea : 120 ≡ a = eqb-true 120 a (and_left (eqb 120 a) _ h) in
    let hb : (eqb 109 b && (eqb 108 c && true)) ≡ true = and_right (eqb 120 a) _ h in
    let eb : 109 ≡ b = eqb-true 109 b (and_left (eqb 109 b) _ hb) in
    let ec : 108 ≡ c = eqb-true 108 c (and_left (eqb 108 c) true (and_right (eqb 109 b) (eqb 108 c && true) hb)) in
    rw (← ea, ← eb, ← ec) (unfold lower A.all in refl)

not_lower_xml : (n : Bytes) → begins (ascii "xml") (map lower n) ≡ false → begins (ascii "xml") n ≡ false
not_lower_xml n h = no_true _ λ e. false≢true (sym h ∙ lower_xml n e)

-- a name that begins `xml` has one of three roles
xml_role : (n i : Bytes) → begins (ascii "xml") n ≡ true → role_of n i ≡ (when same n (ascii "xml:lang") then xml_lang else when same n (ascii "xml:base") then xml_base else nothing)
unfolding role_of when◌then◌else◌
xml_role n i h = rw h

other_role : (n i : Bytes) → begins (ascii "xml") n ≡ false → role_of n i ≡ role_among rdf_roles i
unfolding role_of when◌then◌else◌ begins ascii
other_role n i h = rw (not_this (ascii "xml:lang") refl, not_this (ascii "xml:base") refl, h)
  where
    not_this : (m : Bytes) → begins (ascii "xml") m ≡ true → same n m ≡ false
    not_this m k = no_true (same n m) λ e. false≢true (sym h ∙ named_xml n m k e)

undeclared : (n v : Bytes) → begins (ascii "xml") n ≡ false → is_declaration (attribute n v) ≡ false
undeclared n v h = no_true _ λ e. false≢true (sym h ∙ declaration_xml n v e)

-- the expanded name of an attribute with a prefix
expand_event : (bs : List Binding) (n ns : Bytes) → is_empty (prefix_of n) ≡ false → namespace bs (prefix_of n) ≡ some ns → expand_attribute bs n ≡ some (ns ++ local_of n)
unfolding expand_attribute joined when◌then◌else◌
expand_event bs n ns p e = rw (p, e)

-- 8 is not given
known_event : (n i : Bytes) → is_empty (prefix_of n) ≡ false → known n (some i) ≡ good i
unfolding known ◌>>◌ require◌or◌
known_event n i p = rw p

known_xml : (bs : List Binding) (n : Bytes) → begins (ascii "xml") n ≡ true → is_known bs n ≡ true → known n (expand_attribute bs n) ≡ good (uri_of (expand_attribute bs n))
unfolding known expand_attribute is_known joined is_some when◌then◌else◌ ◌>>◌ require◌or◌ uri_of
known_xml bs n x k = go (is_empty (prefix_of n)) (namespace bs (prefix_of n)) refl k
  where
    go : (b : Bool) (o : Option Bytes) → is_empty (prefix_of n) ≡ b → (b || is_some o) ≡ true → known n (when b then some n else joined o (local_of n)) ≡ good (uri_of (when b then some n else joined o (local_of n)))
    go true o p h = rw (known, p, x)
    go false none p h = absurd (false≢true h)
    go false (some ns) p h = rw (known, p)

judge_xml : (n v : Bytes) → (same n (ascii "xml:lang") ≡ true → is_allowed (verdict v) ≡ true) → (same n (ascii "xml:base") ≡ true → is_iri v ≡ true)
    → judge (when same n (ascii "xml:lang") then xml_lang else when same n (ascii "xml:base") then xml_base else nothing) v ≡ good tt
unfolding judge when◌then◌else◌ require◌or◌
judge_xml n v l b = go (same n (ascii "xml:lang")) (same n (ascii "xml:base")) l b
  where
    go : (x y : Bool) → (x ≡ true → is_allowed (verdict v) ≡ true) → (y ≡ true → is_iri v ≡ true) → judge (when x then xml_lang else when y then xml_base else nothing) v ≡ good tt
    go true y l b = rw (l refl)
    go false true l b = rw (b refl)
    go false false l b = refl

fine_meaning : (bs : List Binding) (y : Attribute) → Fine bs y → meaning bs y ≡ good (meaning_of_attribute bs y)
unfolding meaning meaning_of_attribute when◌then◌else◌ ◌>>=◌ ◌>>◌ uri_of
fine_meaning bs (attribute n v) (declaration h) = rw h
fine_meaning bs (attribute n v) (reserved d x k l b) =
    rw (d, known_xml bs n x k, xml_role n (uri_of (expand_attribute bs n)) x, judge_xml n v l b)
fine_meaning bs (attribute n v) (event {ns = ns} x p e m g) =
    let z : begins (ascii "xml") n ≡ false = not_lower_xml n x in
    let j : judge (role_among rdf_roles (ns ++ local_of n)) v ≡ good tt = judge_good (role_among rdf_roles (ns ++ local_of n)) (ns ++ local_of n) v (in_table_lem (ns ++ local_of n)) (among-name rdf_roles (ns ++ local_of n) table_fits) m g in
    rw (undeclared n v z, expand_event bs n ns p e, known_event n (ns ++ local_of n) p, other_role n (ns ++ local_of n) z, j)

-- it is one, by the grammar and without a difference
good_value_lem : (u v : Bytes) → is_rdf_id (u, v) ≡ true → is_free_label (u, v) ≡ true → good_value u v ≡ true
unfolding good_value is_rdf_id is_free_label member when◌then◌else◌
good_value_lem u v h k = go (same u (rdf "ID")) (same u (rdf "nodeID")) (is_nc_name v) (not (ends_in_stop v) && not (is_generated v)) h k
  where
    go : (a b x y : Bool) → (when a || (b || false) then x else true) ≡ true → (when b then y else true) ≡ true → (when a then x else when b then x && y else true) ≡ true
    go true b x y h k = h
    go false true x y h k = rw (h, k)
    go false false x y h k = refl

pub says_then : (m : String) (test : Bytes → Bool) (n v : Bytes) → says m test (attribute n v) ≡ true → same n (ascii m) ≡ true → test v ≡ true
unfolding says when◌then◌else◌
says_then m test n v h e = let g : (when true then test v else true) ≡ true = rw e at h in g

language_good : (v : Bytes) → (is_empty v || is_language_tag v) ≡ true → is_allowed (verdict v) ≡ true
unfolding verdict is_allowed when◌then◌else◌
language_good v k = go (is_empty v) (is_language_tag v) k
  where
    go : (a b : Bool) → (a || b) ≡ true → is_allowed (when a then Clears else when b then Good else Bad) ≡ true
    go true b k = refl
    go false true k = refl
    go false false k = absurd (false≢true k)

-- what the grammar and the clauses say of one attribute
pub record Accepted (bs : List Binding) (y : Attribute) : Type 0 where
  pub named : is_named bs y ≡ true
  pub prefixed : (is_reserved_term (name_of y) || not (is_empty (prefix_of (name_of y)))) ≡ true
  pub small : (not (is_reserved_term (name_of y)) || begins (ascii "xml") (name_of y)) ≡ true
  pub tag : says "xml:lang" (λ v. is_empty v || is_language_tag v) y ≡ true
  pub base : says "xml:base" is_iri y ≡ true

-- and of its event
abbrev pub AcceptedEvent : AttributeEvent → Type 0
AcceptedEvent a = (is_rdf_id a ≡ true) × (is_free_label a ≡ true) × (member a.0 no_attributes ≡ false)

module _ (bs : List Binding) (n v : Bytes) (k : Accepted bs (attribute n v)) where
  fine_reserved : is_declaration (attribute n v) ≡ false → is_reserved_term n ≡ true → Fine bs (attribute n v)
  unfolding is_named name_of
  fine_reserved d r =
      let z : (is_known bs n && (true || is_some (attribute_uri bs n))) ≡ true = rw (d, r) at k.named in
      let x : begins (ascii "xml") n ≡ true = rw r at k.small in
      reserved d x (and_left (is_known bs n) _ z)
      (λ e. language_good v (says_then "xml:lang" _ n v k.tag e))
      (λ e. says_then "xml:base" is_iri n v k.base e)

  has-namespace : (o : Option Bytes) → is_some (joined o (local_of n)) ≡ true → (ns : Bytes) × (o ≡ some ns)
  unfolding joined is_some
  has-namespace none h = absurd (false≢true h)
  has-namespace (some ns) h = (ns, refl)

  named_so : (ns : Bytes) → is_empty (prefix_of n) ≡ false → namespace bs (prefix_of n) ≡ some ns → uri_of (attribute_uri bs n) ≡ ns ++ local_of n
  unfolding attribute_uri when◌then◌else◌ joined uri_of
  named_so ns p e = rw (p, e)

  fine_event : is_reserved_term n ≡ false → AcceptedEvent (uri_of (attribute_uri bs n), v) → Fine bs (attribute n v)
  unfolding is_named name_of attribute_uri when◌then◌else◌ is_reserved_term
  fine_event r h =
      let d : is_declaration (attribute n v) ≡ false = undeclared n v (not_lower_xml n r) in
      let p : is_empty (prefix_of n) ≡ false = not-true _ (rw r at k.prefixed) in
      let z : (is_known bs n && (false || is_some (joined (namespace bs (prefix_of n)) (local_of n)))) ≡ true = rw (d, r, p) at k.named in
      let o : (ns : Bytes) × (namespace bs (prefix_of n) ≡ some ns) = has-namespace _ (and_right (is_known bs n) _ z) in
      let g : AcceptedEvent (o.0 ++ local_of n, v) = subst (λ (x : Bytes). AcceptedEvent (x, v)) (named_so o.0 p o.1) h in
      event r p o.1 g.2 (good_value_lem (o.0 ++ local_of n) v g.0 g.1)

pub fine_all : (bs : List Binding) (as' : List Attribute) → All (Accepted bs) as' → All AcceptedEvent (attributes bs as') → All (Fine bs) as'
unfolding attributes when◌then◌else◌
fine_all bs [] h k = tt
fine_all bs (attribute n v ∷ as') h k = go (is_declaration (attribute n v)) (is_reserved_term n) refl refl (fine_all bs as' h.1) k
  where
    go : (d r : Bool) → is_declaration (attribute n v) ≡ d → is_reserved_term n ≡ r → (All AcceptedEvent (attributes bs as') → All (Fine bs) as')
        → All AcceptedEvent (when r then attributes bs as' else ((uri_of (attribute_uri bs n), v) ∷ attributes bs as')) → All (Fine bs) (attribute n v ∷ as')
    go true true p q rest k = (declaration p, rest k)
    go false true p q rest k = (fine_reserved bs n v h.0 p q, rest k)
    go true false p q rest k = absurd (false≢true (sym q ∙ unfold is_reserved_term in lower_xml n (declaration_xml n v p)))
    go false false p q rest k = (fine_event bs n v h.0 q k.0, rest k.1)

pub fine_meanings : (bs : List Binding) (as' : List Attribute) → All (Fine bs) as' → each (meaning bs) as' ≡ good (map (meaning_of_attribute bs) as')
unfolding each ◌>>=◌
fine_meanings bs [] h = refl
fine_meanings bs (y ∷ as') h = rw (fine_meaning bs y h.0, fine_meanings bs as' h.1)

-- ---- the meanings and the events

module _ (bs : List Binding) (n v : Bytes) (as' : List Attribute) where
  means_declaration : is_declaration (attribute n v) ≡ true → meaning_of_attribute bs (attribute n v) ≡ means nothing n v
  unfolding meaning_of_attribute when◌then◌else◌
  means_declaration h = rw h

  means_reserved : is_declaration (attribute n v) ≡ false → begins (ascii "xml") n ≡ true
      → meaning_of_attribute bs (attribute n v) ≡ means (when same n (ascii "xml:lang") then xml_lang else when same n (ascii "xml:base") then xml_base else nothing) (uri_of (expand_attribute bs n)) v
  unfolding meaning_of_attribute when◌then◌else◌
  means_reserved h x = rw (h, xml_role n (uri_of (expand_attribute bs n)) x)

  means_event : (ns : Bytes) → begins (ascii "xml") (map lower n) ≡ false → is_empty (prefix_of n) ≡ false → namespace bs (prefix_of n) ≡ some ns
      → meaning_of_attribute bs (attribute n v) ≡ means (role_among rdf_roles (ns ++ local_of n)) (ns ++ local_of n) v
  unfolding meaning_of_attribute when◌then◌else◌ uri_of
  means_event ns x p e =
      let z : begins (ascii "xml") n ≡ false = not_lower_xml n x in
      rw (undeclared n v z, expand_event bs n ns p e, other_role n (ns ++ local_of n) z)

  events_skip : begins (ascii "xml") n ≡ true → attributes bs (attribute n v ∷ as') ≡ attributes bs as'
  unfolding attributes is_reserved_term when◌then◌else◌
  events_skip x = rw (lower_xml n x)

  events_event : (ns : Bytes) → begins (ascii "xml") (map lower n) ≡ false → is_empty (prefix_of n) ≡ false → namespace bs (prefix_of n) ≡ some ns
      → attributes bs (attribute n v ∷ as') ≡ (ns ++ local_of n, v) ∷ attributes bs as'
  unfolding attributes is_reserved_term attribute_uri when◌then◌else◌ joined uri_of
  events_event ns x p e = rw (x, p, e)

-- a role of the rdf namespace that has a name
pub record RdfRole (r : Role) : Type 0 where
  pub has_name_lem : has_name r ≡ true
  pub not_nothing : same_role r nothing ≡ false
  pub not_lang : same_role r xml_lang ≡ false
  pub not_base : same_role r xml_base ≡ false
  pub in_rdf_context : role_among rdf_roles (name_in r) ≡ r

module _ (bs : List Binding) (r : Role) (k : RdfRole r) where
  not_reserved : (x y : Bool) → same_role r (when x then xml_lang else when y then xml_base else nothing) ≡ false
  unfolding when◌then◌else◌
  not_reserved true y = k.not_lang
  not_reserved false true = k.not_base
  not_reserved false false = k.not_nothing

  pub first_value : (as' : List Attribute) → All (Fine bs) as' → first r (map (meaning_of_attribute bs) as') ≡ value (name_in r) (attributes bs as')
  unfolding first value attributes when◌then◌else◌
  first_value [] h = refl
  first_value (attribute n v ∷ as') (declaration d, h) =
      rw (means_declaration bs n v as' d, events_skip bs n v as' (declaration_xml n v d), k.not_nothing) (first_value as' h)
  first_value (attribute n v ∷ as') (reserved d x q l b, h) =
      rw (means_reserved bs n v as' d x, events_skip bs n v as' x, not_reserved (same n (ascii "xml:lang")) (same n (ascii "xml:base"))) (first_value as' h)
  first_value (attribute n v ∷ as') (event {ns = ns} x p e m g, h) =
      rw (means_event bs n v as' ns x p e, events_event bs n v as' ns x p e, role_named r (ns ++ local_of n) k.has_name_lem k.in_rdf_context, first_value as' h)

-- ---- no name twice

module _ (bs : List Binding) where
  abbrev uris : List Attribute → List Bytes
  uris as' = map (λ (a : AttributeEvent). a.0) (attributes bs as')

  -- the names of the events are among those that document 01 compares
  names_skip : (n v : Bytes) (as' : List Attribute) → is_declaration (attribute n v) ≡ true → expanded_names bs (attribute n v ∷ as') ≡ expanded_names bs as'
  unfolding expanded_names those when◌then◌else◌
  names_skip n v as' h = rw h

  names_add : (n v : Bytes) (as' : List Attribute) → is_declaration (attribute n v) ≡ false
      → expanded_names bs (attribute n v ∷ as') ≡ present (expand_attribute bs n ∷ []) ++ expanded_names bs as'
  unfolding expanded_names those when◌then◌else◌ present name_of
  names_add n v as' h = rw h (go (expand_attribute bs n))
    where
      go : (o : Option Bytes) → present (o ∷ map (λ (a : Attribute). expand_attribute bs (name_of a)) (those (λ (a : Attribute). not (is_declaration a)) as'))
          ≡ present (o ∷ []) ++ present (map (λ (a : Attribute). expand_attribute bs (name_of a)) (those (λ (a : Attribute). not (is_declaration a)) as'))
      go none = refl
      go (some i) = refl

  behind_one : (u : Bytes) (o : Option Bytes) (l : List Bytes) → member u (present (o ∷ []) ++ l) ≡ false → member u l ≡ false
  unfolding present member
  behind_one u none l h = h
  behind_one u (some i) l h = (or_none (same u i) (member u l) h).1

  once_behind : (o : Option Bytes) (l : List Bytes) → repeats (present (o ∷ []) ++ l) ≡ false → repeats l ≡ false
  unfolding present repeats
  once_behind none l h = h
  once_behind (some i) l h = (or_none (member i l) (repeats l) h).1

  not_among : (u : Bytes) (as' : List Attribute) → All (Fine bs) as' → member u (expanded_names bs as') ≡ false → member u (uris as') ≡ false
  unfolding attributes member
  not_among u [] f h = refl
  not_among u (attribute n v ∷ as') (declaration d, f) h = rw (events_skip bs n v as' (declaration_xml n v d)) (not_among u as' f (rw (names_skip n v as' d) at h))
  not_among u (attribute n v ∷ as') (reserved d x q l b, f) h = rw (events_skip bs n v as' x) (not_among u as' f (behind_one u (expand_attribute bs n) _ (rw (names_add n v as' d) at h)))
  not_among u (attribute n v ∷ as') (event {ns = ns} x p e m g, f) h =
      let k : member u (present (some (ns ++ local_of n) ∷ []) ++ expanded_names bs as') ≡ false = rw (names_add n v as' (undeclared n v (not_lower_xml n x)), expand_event bs n ns p e) at h in
      rw (events_event bs n v as' ns x p e) (joint u (ns ++ local_of n) as' k (not_among u as' f (behind_one u (some (ns ++ local_of n)) _ k)))
    where
      joint : (u i : Bytes) (as' : List Attribute) → member u (present (some i ∷ []) ++ expanded_names bs as') ≡ false → member u (uris as') ≡ false → member u (i ∷ uris as') ≡ false
      joint u i as' h k = unfold present member in rw (or_none (same u i) (member u (expanded_names bs as')) h).0 k

  pub once_among : (as' : List Attribute) → All (Fine bs) as' → repeats (expanded_names bs as') ≡ false → repeats (uris as') ≡ false
  unfolding attributes repeats
  once_among [] f h = refl
  once_among (attribute n v ∷ as') (declaration d, f) h = rw (events_skip bs n v as' (declaration_xml n v d)) (once_among as' f (rw (names_skip n v as' d) at h))
  once_among (attribute n v ∷ as') (reserved d x q l b, f) h = rw (events_skip bs n v as' x) (once_among as' f (once_behind (expand_attribute bs n) _ (rw (names_add n v as' d) at h)))
  once_among (attribute n v ∷ as') (event {ns = ns} x p e m g, f) h =
      let k : repeats (present (some (ns ++ local_of n) ∷ []) ++ expanded_names bs as') ≡ false = rw (names_add n v as' (undeclared n v (not_lower_xml n x)), expand_event bs n ns p e) at h in
      rw (events_event bs n v as' ns x p e, not_among (ns ++ local_of n) as' f (first_new (ns ++ local_of n) as' k)) (once_among as' f (once_behind (some (ns ++ local_of n)) _ k))
    where
      first_new : (i : Bytes) (as' : List Attribute) → repeats (present (some i ∷ []) ++ expanded_names bs as') ≡ false → member i (expanded_names bs as') ≡ false
      first_new i as' h = unfold present repeats in (or_none (member i (expanded_names bs as')) (repeats (expanded_names bs as')) h).0

-- is it a property of document 01?
unfoldable pub is_property : AttributeEvent → Bool
is_property a = same_role property (role_among rdf_roles a.0)

module _ (bs : List Binding) where
  reserved_property : (x y : Bool) → same_role property (when x then xml_lang else when y then xml_base else nothing) ≡ false
  unfolding when◌then◌else◌ same_role role_number
  reserved_property true y = refl
  reserved_property false true = refl
  reserved_property false false = refl

  nothing-property : same_role property nothing ≡ false
  unfolding same_role role_number
  nothing-property = refl

  pub property-events : (as' : List Attribute) → All (Fine bs) as' → property_attributes (map (meaning_of_attribute bs) as') ≡ those is_property (attributes bs as')
  unfolding property_attributes those attributes when◌then◌else◌ is_property
  property-events [] h = refl
  property-events (attribute n v ∷ as') (declaration d, h) =
      rw (means_declaration bs n v as' d, events_skip bs n v as' (declaration_xml n v d), nothing-property) (property-events as' h)
  property-events (attribute n v ∷ as') (reserved d x q l b, h) =
      rw (means_reserved bs n v as' d x, events_skip bs n v as' x, reserved_property (same n (ascii "xml:lang")) (same n (ascii "xml:base"))) (property-events as' h)
  property-events (attribute n v ∷ as') (event {ns = ns} x p e m g, h) =
      rw (means_event bs n v as' ns x p e, events_event bs n v as' ns x p e, property-events as' h)

  -- xml:lang and xml:base, as written
  lang_role : (x y : Bool) → same_role xml_lang (when x then xml_lang else when y then xml_base else nothing) ≡ x
  unfolding when◌then◌else◌ same_role role_number
  lang_role true y = refl
  lang_role false true = refl
  lang_role false false = refl

  base_role : (x y : Bool) → (y ≡ true → x ≡ false) → same_role xml_base (when x then xml_lang else when y then xml_base else nothing) ≡ y
  unfolding when◌then◌else◌ same_role role_number
  base_role true true h = sym (h refl)
  base_role true false h = refl
  base_role false true h = refl
  base_role false false h = refl

  not_both : (n : Bytes) → same n (ascii "xml:base") ≡ true → same n (ascii "xml:lang") ≡ false
  unfolding same ascii
  not_both n h = ap (λ (x : Bytes). same x (ascii "xml:lang")) (same_true n (ascii "xml:base") h)

  -- no name of the table is one of the two
  among_not : (q : Role) (u : Bytes) → in_table u q ≡ false → same_role q (role_among rdf_roles u) ≡ false
  among_not q u h = no_true _ λ e. false≢true (sym h ∙ (ap (in_table u) (same_role_lem q (role_among rdf_roles u) e) ∙ in_table_lem u))

  not_xml : (n m : Bytes) → begins (ascii "xml") m ≡ true → begins (ascii "xml") (map lower n) ≡ false → same n m ≡ false
  not_xml n m k x = no_true (same n m) λ e. false≢true (sym (not_lower_xml n x) ∙ named_xml n m k e)

  pub first_lang : (as' : List Attribute) → All (Fine bs) as' → first xml_lang (map (meaning_of_attribute bs) as') ≡ written (ascii "xml:lang") as'
  unfolding first written when◌then◌else◌ same_role role_number is_declaration begins ascii same in_table
  first_lang [] h = refl
  first_lang (attribute n v ∷ as') (declaration d, h) = rw (means_declaration bs n v as' d, declaration_not n v (ascii "xml:lang") d refl) (first_lang as' h)
  first_lang (attribute n v ∷ as') (reserved d x q l b, h) =
      rw (means_reserved bs n v as' d x, lang_role (same n (ascii "xml:lang")) (same n (ascii "xml:base")), first_lang as' h)
  first_lang (attribute n v ∷ as') (event {ns = ns} x p e m g, h) =
      rw (means_event bs n v as' ns x p e, among_not xml_lang (ns ++ local_of n) refl, not_xml n (ascii "xml:lang") refl x) (first_lang as' h)

  pub first_base : (as' : List Attribute) → All (Fine bs) as' → first xml_base (map (meaning_of_attribute bs) as') ≡ written (ascii "xml:base") as'
  unfolding first written when◌then◌else◌ same_role role_number is_declaration begins ascii same in_table
  first_base [] h = refl
  first_base (attribute n v ∷ as') (declaration d, h) = rw (means_declaration bs n v as' d, declaration_not n v (ascii "xml:base") d refl) (first_base as' h)
  first_base (attribute n v ∷ as') (reserved d x q l b, h) =
      rw (means_reserved bs n v as' d x, base_role (same n (ascii "xml:lang")) (same n (ascii "xml:base")) (not_both n), first_base as' h)
  first_base (attribute n v ∷ as') (event {ns = ns} x p e m g, h) =
      rw (means_event bs n v as' ns x p e, among_not xml_base (ns ++ local_of n) refl, not_xml n (ascii "xml:base") refl x) (first_base as' h)
