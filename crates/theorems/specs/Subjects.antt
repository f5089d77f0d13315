-- What an event does to subjects and objects: a rule that holds of every name, of every label that 9 and 13 let past, of every
-- good tag, and of what the open elements hold, holds of the lines that an event writes and of the elements open behind it, if it
-- holds of the labels that the event generates.
use Rattle.std.specs.Prelude.{◌≡◌, Bool, not, ℕ, suc, ◌+◌, ◌≤◌, ◌<◌}
use Rattle.std.proofs.Math.Path.{refl}
use Rattle.std.proofs.Common.{sym, ◌∙◌}
use Rattle.std.proofs.Math.Bool.{true, false}
use Rattle.std.proofs.lemmas.Bool.{false≢true}
use Rattle.std.proofs.Math.Option.{Option, none, some}
use mathlib.Core.List.{List, [], ◌∷◌, ◌++◌, map}
use native.Mathlib.Omega.{arith}
use Rattle.std.proofs.Math.ListN.{length}
use borrow.Author.Tests.{ltb-true, leb-true, not-true}
use Rattle.spec.specs.Bytes.{Bytes, when◌then◌else◌, is_empty, each, or_else}
use Rattle.spec.specs.Numbers.{Answer}
use Rattle.spec.specs.Limits.{most_labels}
use Rattle.spec.proofs.Booleans.{and_left, and_right}
use Rattle.spec.specs.XmlNames.{is_nc_name}
use Rattle.spec.specs.Pyx.{Attribute, attribute, Event, opening, closing, text, instruction}
use Rattle.spec.specs.Namespaces.{Binding}
use Rattle.spec.specs.NTriples.{Subject, named, blank, Term, node, plain, tagged, typed, Triple, triple, label}
use Rattle.spec.specs.Abnf.{lower}
use Rattle.spec.specs.Rfc5646.{is_language_tag}
use Rattle.spec.specs.declared.Verdict.TheVariants.{Good, Clears, Bad}
use Rattle.spec.specs.XmlLang.{tag_of, written, Language, no_language, language, verdict, is_allowed, Own, unsaid, cleared, given, said_by, own_of, in_force}
use Rattle.spec.specs.Document.{Object, no_object, node_object, text_object, Value, default, collection, literal, other, Property, Kind, rdf_rdf, wrapper, node_element, property_element, xml_element, Part, Frame, Doc, with_frames, with_labels, with_kind, with_part, language_in_force, Place, outside, nodes, nodes_or_text, xml, properties, in_value, in_kind, place_in, change_value, on_value, is_xml_element}
use Rattle.spec.specs.StartTag as S
use Rattle.spec.specs.StartTag.{Role, Meaning, means, same_role, role_number, judge, is_generated, ends_in_stop, Tag, read_tag, nothing, xml_lang, xml_base, rdf_ID, rdf_bag_id, rdf_node_id, rdf_about, rdf_resource, rdf_datatype, rdf_parse_type, rdf_type, forbidden, property}
use Rattle.spec.specs.Productions as O
use Rattle.spec.specs.Productions.{Opened, open_node, open_property, open_root, statement, type_line, attribute_lines, tag_lines, ParseType, no_parse_type, as_collection, as_resource, as_literal, as_other}
use Rattle.spec.specs.RdfXml as X
use Rattle.spec.specs.XmlLiteral.{takes_xml, add_xml}
use Rattle.spec.specs.Xmp.{open_wrapper, wrapped}
use Rattle.spec.specs.Opening.{Step}
use Rattle.spec.specs.Opening as G
use Rattle.spec.specs.EndTag.{cells, head_cell}
use Rattle.spec.specs.EndTag as C
use Rattle.spec.specs.RdfXml.{next}
use Rattle.theorems.specs.Always.{Always, always_bind, always_any, always_then, always_after, always_test, always_require, always_if}
use Rattle.theorems.specs.Rules.{always_rules}

-- ---- rules for subjects and objects

pub record Rule : Type 1 where
  pub subj : Subject → Type 0
  pub obj : Term → Type 0
  pub lang : Bytes → Type 0
  pub name : (i : Bytes) → subj (named i)
  pub other_label : (l : Bytes) → is_nc_name l ≡ true → is_generated l ≡ false → ends_in_stop l ≡ false → subj (blank l)
  pub node_of : (s : Subject) → subj s → obj (node s)
  pub plain_of : (v : Bytes) → obj (plain v)
  pub typed_of : (v d : Bytes) → obj (typed v d)
  pub tagged_of : (v l : Bytes) → lang l → obj (tagged v l)
  pub tag_of_lem : (v : Bytes) → is_language_tag v ≡ true → lang (map lower v)

abbrev pub Of? : {A : Type 0} → (A → Type 0) → Option A → Type 0
Of? P none = Unit {0}
Of? P (some a) = P a

abbrev pub OfOwn : (Bytes → Type 0) → Own → Type 0
OfOwn P unsaid = Unit {0}
OfOwn P cleared = Unit {0}
OfOwn P (given t) = P (written t)

abbrev pub OfLanguage : (Bytes → Type 0) → Language → Type 0
OfLanguage P no_language = Unit {0}
OfLanguage P (language t) = P (written t)

module _ (R : Rule) where
  abbrev pub OfChildren : List Subject → Type 0
  OfChildren [] = Unit {0}
  OfChildren (c ∷ cs) = R.obj (node c) × OfChildren cs

  abbrev pub OfObject : Object → Type 0
  OfObject no_object = Unit {0}
  OfObject (node_object s) = R.obj (node s)
  OfObject (text_object t) = Unit {0}

  abbrev pub OfValue : Value → Type 0
  OfValue (default d o) = OfObject o
  OfValue (collection cs) = OfChildren cs
  OfValue (literal x) = Unit {0}
  OfValue other = Unit {0}

  abbrev pub OfKind : Kind → Type 0
  OfKind rdf_rdf = Unit {0}
  OfKind (wrapper b) = Unit {0}
  OfKind (node_element s li) = R.subj s
  OfKind (property_element p v) = R.subj p.subject × OfValue v
  OfKind xml_element = Unit {0}

  abbrev pub OfFrames : List Frame → Type 0
  OfFrames [] = Unit {0}
  OfFrames (f ∷ fs) = OfKind f.kind × OfOwn R.lang f.own_tag × OfFrames fs

  pub data OfLines : List Triple → Type 0 where
    no_line : OfLines []
    with_line : {s : Subject} {p : Bytes} {o : Term} {ts : List Triple} → R.subj s → R.obj o → OfLines ts → OfLines (triple s p o ∷ ts)

  pub lines-append : {ts us : List Triple} → OfLines ts → OfLines us → OfLines (ts ++ us)
  lines-append no_line k = k
  lines-append (with_line h g t) k = with_line h g (lines-append t k)

  -- the labels n + 1 to n'
  abbrev pub New : ℕ → ℕ → Type 0
  New n n' = (k : ℕ) → n < k → k ≤ n' → R.subj (blank (label k))

  abbrev pub Outcome : ℕ → Step → Type 0
  Outcome n s = (n ≤ s.1.labels) × (s.1.labels < 100_000_000) × (New n s.1.labels → OfFrames s.1.frames × OfLines s.0)

  abbrev pub Produced : ℕ → Opened → Type 0
  Produced n o = (n ≤ o.labels) × (o.labels < 100_000_000) × (New n o.labels → OfKind o.kind × OfLines o.lines)

-- ---- attributes: every rdf:nodeID that is let past is a good label, every xml:lang a good tag or empty

abbrev pub GoodLabel : Bytes → Type 0
GoodLabel l = (is_nc_name l ≡ true) × (is_generated l ≡ false) × (ends_in_stop l ≡ false)

abbrev pub GoodTag : Bytes → Type 0
GoodTag v = is_allowed (verdict v) ≡ true

abbrev pub Fair : Meaning → Type 0
Fair (means q i v) = (same_role rdf_node_id q ≡ true → GoodLabel v) × (same_role xml_lang q ≡ true → GoodTag v)

abbrev pub AllFair : List Meaning → Type 0
AllFair [] = Unit {0}
AllFair (m ∷ ms) = Fair m × AllFair ms

first_of : (P : Bytes → Type 0) (r : Role) (ms : List Meaning) → ((q : Role) (i v : Bytes) → Fair (means q i v) → same_role r q ≡ true → P v)
    → AllFair ms → Of? P (S.first r ms)
unfolding S.first when◌then◌else◌
first_of P r [] g h = tt
first_of P r (means q i v ∷ ms) g h = go (same_role r q) refl (first_of P r ms g h.1)
  where
    go : (b : Bool) → same_role r q ≡ b → Of? P (S.first r ms) → Of? P (when b then some v else S.first r ms)
    go true e k = g q i v h.0 e
    go false e k = k

first_label : (ms : List Meaning) → AllFair ms → Of? GoodLabel (S.first rdf_node_id ms)
first_label ms = first_of GoodLabel rdf_node_id ms λ q i v h. h.0

pub first_tag : (ms : List Meaning) → AllFair ms → Of? GoodTag (S.first xml_lang ms)
first_tag ms = first_of GoodTag xml_lang ms λ q i v h. h.1

neither : (q : Role) (i v : Bytes) → same_role rdf_node_id q ≡ false → same_role xml_lang q ≡ false → Fair (means q i v)
neither q i v h k = ((λ e. absurd (false≢true (sym h ∙ e))), (λ e. absurd (false≢true (sym k ∙ e))))

pub judge_fair : (q : Role) (i v : Bytes) → Always (λ u. Fair (means q i v)) (judge q v)
unfolding judge same_role role_number
judge_fair nothing i v = neither nothing i v refl refl
judge_fair xml_lang i v = always_test _ _ _ λ h. ((λ e. absurd (false≢true e)), (λ e. h))
judge_fair xml_base i v = always_test _ _ _ λ h. neither xml_base i v refl refl
judge_fair rdf_ID i v = always_test _ _ _ λ h. neither rdf_ID i v refl refl
judge_fair rdf_bag_id i v = always_test _ _ _ λ h. neither rdf_bag_id i v refl refl
judge_fair rdf_node_id i v =
    always_require _ _ _ _ λ h. always_test _ _ _ λ k.
    (let stop : ends_in_stop v ≡ false = not-true (ends_in_stop v) (and_left (not (ends_in_stop v)) (not (is_generated v)) k) in
    ((λ e. (h, not-true (is_generated v) (and_right (not (ends_in_stop v)) (not (is_generated v)) k), stop)), (λ e. absurd (false≢true e))))
judge_fair rdf_about i v = neither rdf_about i v refl refl
judge_fair rdf_resource i v = neither rdf_resource i v refl refl
judge_fair rdf_datatype i v = neither rdf_datatype i v refl refl
judge_fair rdf_parse_type i v = neither rdf_parse_type i v refl refl
judge_fair rdf_type i v = neither rdf_type i v refl refl
judge_fair forbidden i v = tt
judge_fair property i v = neither property i v refl refl

meaning_fair : (bs : List Binding) (a : Attribute) → Always Fair (S.meaning bs a)
unfolding S.meaning same_role role_number
meaning_fair bs (attribute n v) =
    always_if Fair _ _ _ (λ e. neither nothing n v refl refl) λ e.
    always_any Fair _ _ λ i. always_then (λ u. Fair (means (S.role_of n i) i v)) Fair _ _ (judge_fair (S.role_of n i) i v) λ u h. h

pub each_fair : (bs : List Binding) (as' : List Attribute) → Always AllFair (each (S.meaning bs) as')
unfolding each
each_fair bs [] = tt
each_fair bs (a ∷ as') =
    always_bind Fair AllFair _ _ (meaning_fair bs a) λ m h. always_bind AllFair AllFair _ _ (each_fair bs as') λ ms k. (h, k)

module _ (R : Rule) where
  abbrev pub FairTag : Tag → Type 0
  FairTag t = Of? GoodLabel t.node_id × OfOwn R.lang t.own_tag × OfLanguage R.lang t.language

  own_tag_lem : (o : Option Bytes) → Of? GoodTag o → OfOwn R.lang (own_of o)
  unfolding own_of said_by verdict is_allowed tag_of written when◌then◌else◌
  own_tag_lem none h = tt
  own_tag_lem (some v) h = go (is_empty v) (is_language_tag v) refl h
    where
      go : (e t : Bool) → is_language_tag v ≡ t → is_allowed (when e then Clears else when t then Good else Bad) ≡ true
          → OfOwn R.lang (said_by (when e then Clears else when t then Good else Bad) v)
      go true t q k = tt
      go false true q k = R.tag_of_lem v q
      go false false q k = absurd (false≢true k)

  in_force_lem : (a : Own) (b : Language) → OfOwn R.lang a → OfLanguage R.lang b → OfLanguage R.lang (in_force a b)
  unfolding in_force
  in_force_lem unsaid b h k = k
  in_force_lem cleared b h k = tt
  in_force_lem (given t) b h k = h

  language_of_lem : (fs : List Frame) → OfFrames R fs → OfLanguage R.lang (language_in_force fs)
  unfolding language_in_force
  language_of_lem [] h = tt
  language_of_lem (f ∷ fs) h = in_force_lem f.own_tag (language_in_force fs) h.1 (language_of_lem fs h.2)

  tag_fair : (n : Bytes) (as' : List Attribute) (d : Doc) → OfFrames R d.frames → Always FairTag (read_tag n as' d)
  unfolding read_tag
  tag_fair n as' d h =
      always_any FairTag _ _ λ i.
      always_bind AllFair FairTag _ _ (each_fair _ as') λ ms fair.
      always_any FairTag _ _ λ id'.
      always_require FairTag _ _ _ λ e.
      always_any FairTag _ _ λ about'.
      always_any FairTag _ _ λ resource'.
      always_any FairTag _ _ λ datatype'.
      always_any FairTag _ _ λ type'.
      (let g : OfOwn R.lang (own_of (S.first xml_lang ms)) = own_tag_lem _ (first_tag ms fair) in
      (first_label ms fair, g, in_force_lem _ _ g (language_of_lem d.frames h)))

  -- ---- lines

  names : (i : Bytes) → R.obj (node (named i))
  names i = R.node_of (named i) (R.name i)

  literal_of_lem : (d : Option Bytes) (l : Language) (v : Bytes) → OfLanguage R.lang l → R.obj (O.literal_of d l v)
  unfolding O.literal_of
  literal_of_lem (some d) l v h = R.typed_of v d
  literal_of_lem none (language t) v h = R.tagged_of v (written t) h
  literal_of_lem none no_language v h = R.plain_of v

  type_lines : (s : Subject) (o : Option Bytes) → R.subj s → OfLines R (type_line s o)
  unfolding type_line
  type_lines s none h = no_line
  type_lines s (some i) h = with_line h (names i) no_line

  attribute_lines_lem : (s : Subject) (l : Language) (as' : List (Bytes × Bytes)) → R.subj s → OfLanguage R.lang l → OfLines R (attribute_lines s l as')
  unfolding attribute_lines
  attribute_lines_lem s l [] h g = no_line
  attribute_lines_lem s l (a ∷ as') h g = with_line h (literal_of_lem none l a.1 g) (attribute_lines_lem s l as' h g)

  tag-lines : (s : Subject) (t : Tag) → R.subj s → FairTag t → OfLines R (tag_lines s t)
  unfolding tag_lines
  tag-lines s t h fair = lines-append R (attribute_lines_lem s t.language t.attributes h fair.2) (type_lines s t.type h)

  reification-lines : (i : Option Bytes) (s : Subject) (p : Bytes) (o : Term) → R.subj s → R.obj o → OfLines R (O.reification i s p o)
  unfolding O.reification
  reification-lines none s p o h g = no_line
  reification-lines (some i) s p o h g =
      with_line (R.name i) (names _) (with_line (R.name i) (R.node_of s h) (with_line (R.name i) (names p) (with_line (R.name i) g no_line)))

  pub statement-lines : (p : Property) (o : Term) → R.subj p.subject → R.obj o → OfLines R (statement p o)
  unfolding statement
  statement-lines p o h g = lines-append R (reification-lines p.id p.subject p.iri o h g) (with_line h g no_line)

  pub cell-lines : (n : ℕ) (rest : Subject) (cs : List Subject) → New R n (n + length cs) → R.obj (node rest) → OfChildren R cs → OfLines R (cells n rest cs)
  unfolding cells
  cell-lines n rest [] new g h = no_line
  cell-lines n rest (c ∷ cs) new g h =
      let x : R.subj (blank (label (suc n))) = new (suc n) (omega arith) (omega arith) in
      with_line x h.0 (with_line x g (cell-lines (suc n) (blank (label (suc n))) cs (λ k p q. new k (omega arith) (omega arith)) (R.node_of _ x) h.1))

  head-cell : (n : ℕ) (rest : Subject) (cs : List Subject) → New R n (n + length cs) → R.obj (node rest) → R.obj (node (head_cell n rest cs))
  unfolding head_cell
  head-cell n rest [] new g = g
  head-cell n rest (c ∷ cs) new g =
      head-cell (suc n) (blank (label (suc n))) cs (λ k p q. new k (omega arith) (omega arith)) (R.node_of _ (new (suc n) (omega arith) (omega arith)))

  -- ---- the productions

  subject_of_lem : (i l : Option Bytes) (g : Bytes) → Of? GoodLabel l → R.subj (blank g) → R.subj (O.subject_of i l g)
  unfolding O.subject_of
  subject_of_lem (some i) l g h k = R.name i
  subject_of_lem none (some l) g h k = R.other_label l h.0 h.1 h.2
  subject_of_lem none none g h k = k

  open_node_lem : (t : Tag) (n : ℕ) → FairTag t → Always (Produced R n) (open_node t n)
  unfolding open_node O.one_more most_labels
  open_node_lem t n fair =
      always_require (Produced R n) _ _ _ λ e₁.
      always_require (Produced R n) _ _ _ λ e₂.
      always_require (Produced R n) _ _ _ λ e₃.
      (let le : n < 99_999_999 = ltb-true n 99_999_999 e₃ in (
        omega arith,
        omega arith,
        λ new.
            (let s = subject_of_lem (or_else t.id t.about) t.node_id (label (suc n)) fair.0 (new (suc n) (omega arith) (omega arith)) in
            (s, lines-append R (tag-lines _ t s fair) (type_lines _ _ s))),
      ))

  abbrev Chosen : ℕ → Subject × ℕ → Type 0
  Chosen n o = (n ≤ o.1) × (o.1 < 100_000_000) × (New R n o.1 → R.subj o.0)

  object_of_lem : (r l : Option Bytes) (n : ℕ) → n < 100_000_000 → Of? GoodLabel l → Always (Chosen n) (O.object_of r l n)
  unfolding O.object_of O.one_more most_labels
  object_of_lem (some r) l n le h = (omega arith, le, λ new. R.name r)
  object_of_lem none (some l) n le h = (omega arith, le, λ new. R.other_label l h.0 h.1 h.2)
  object_of_lem none none n le h =
      always_require (Chosen n) _ _ _ λ e.
      (let le' : n < 99_999_999 = ltb-true n 99_999_999 e in
      (omega arith, omega arith, λ new. new (suc n) (omega arith) (omega arith)))

  open_default_lem : (t : Tag) (p : Property) (n : ℕ) → R.subj p.subject → n < 100_000_000 → FairTag t → Always (Produced R n) (O.open_default t p n)
  unfolding O.open_default O.open_with_node
  open_default_lem t p n k le fair =
      always_if (Produced R n) _ _ _
      (λ e. always_bind (Chosen n) (Produced R n) _ _ (object_of_lem t.resource t.node_id n le fair.0) λ o h.
      (h.0, h.1, λ new. ((k, R.node_of _ (h.2 new)), tag-lines _ t (h.2 new) fair)))
      (λ e. (omega arith, le, λ new. ((k, tt), no_line)))

  open_resource_lem : (p : Property) (n : ℕ) → R.subj p.subject → Always (Produced R n) (O.open_resource p n)
  unfolding O.open_resource O.one_more most_labels
  open_resource_lem p n k =
      always_require (Produced R n) _ _ _ λ e.
      (let le : n < 99_999_999 = ltb-true n 99_999_999 e in (
        omega arith,
        omega arith,
        λ new.
            (let x : R.subj (blank (label (suc n))) = new (suc n) (omega arith) (omega arith) in (x, statement-lines p _ k (R.node_of _ x))),
      ))

  open_as_lem : (a : ParseType) (t : Tag) (p : Property) (n : ℕ) → R.subj p.subject → n < 100_000_000 → FairTag t → Always (Produced R n) (O.open_as a t p n)
  unfolding O.open_as O.open_with
  open_as_lem no_parse_type t p n k le fair = open_default_lem t p n k le fair
  open_as_lem as_collection t p n k le fair = (omega arith, le, λ new. ((k, tt), no_line))
  open_as_lem as_resource t p n k le fair = open_resource_lem p n k
  open_as_lem as_literal t p n k le fair = (omega arith, le, λ new. ((k, tt), no_line))
  open_as_lem as_other t p n k le fair = (omega arith, le, λ new. ((k, tt), no_line))

  open_property_lem : (t : Tag) (s : Subject) (li n : ℕ) → R.subj s → n < 100_000_000 → FairTag t → Always (Produced R n) (open_property t s li n)
  unfolding open_property
  open_property_lem t s li n k le fair =
      always_require (Produced R n) _ _ _ λ e₁.
      always_require (Produced R n) _ _ _ λ e₂.
      always_after (Produced R n) _ _ (open_as_lem _ t _ n k le fair)

  open_root_lem : (t : Tag) (n : ℕ) → n < 100_000_000 → FairTag t → Always (Produced R n) (open_root t n)
  unfolding open_root
  open_root_lem t n le fair = always_if (Produced R n) _ _ _ (λ e. (omega arith, le, λ new. (tt, no_line))) (λ e. open_node_lem t n fair)

  -- ---- start tags

  counted-kind : (i : Bytes) (k : Kind) → OfKind R k → OfKind R (G.counted i k)
  unfolding G.counted
  counted-kind i rdf_rdf h = h
  counted-kind i (wrapper b) h = h
  counted-kind i (node_element s li) h = h
  counted-kind i (property_element p v) h = h
  counted-kind i xml_element h = h

  counted_frames : (i : Bytes) (n : Part → Part) (fs : List Frame) → OfFrames R fs → OfFrames R (G.count_li i n fs)
  unfolding G.count_li with_kind with_part
  counted_frames i n [] h = tt
  counted_frames i n (f ∷ fs) h = (counted-kind i f.kind h.0, h.1, h.2)

  open_element_lem : (production : Tag → ℕ → Answer Opened) (m : Bytes) (as' : List Attribute) (d : Doc) → OfFrames R d.frames
      → ((t : Tag) → FairTag t → Always (Produced R d.labels) (production t d.labels)) → Always (Outcome R d.labels) (G.open_element production m as' d)
  unfolding G.open_element G.opened
  open_element_lem production m as' d h k =
      always_bind FairTag (Outcome R d.labels) _ _ (tag_fair m as' d h) λ t fair.
      always_bind (Produced R d.labels) (Outcome R d.labels) _ _ (always_rules (Produced R d.labels) _ _ (k t fair)) λ o g.
      always_require (Outcome R d.labels) _ _ _ λ e.
      (g.0, g.1, λ new. (let r = g.2 new in ((r.0, fair.1, counted_frames t.iri _ d.frames h), r.1)))

  on_value_lem : (g : Value → Value) (k : Kind) → ((v : Value) → OfValue R v → OfValue R (g v)) → OfKind R k → OfKind R (on_value g k)
  unfolding on_value
  on_value_lem g rdf_rdf f h = h
  on_value_lem g (wrapper b) f h = h
  on_value_lem g (node_element s li) f h = h
  on_value_lem g (property_element p v) f h = (h.0, f v h.1)
  on_value_lem g xml_element f h = h

  change_value_lem : (g : Value → Value) (fs : List Frame) → ((v : Value) → OfValue R v → OfValue R (g v)) → OfFrames R fs → OfFrames R (change_value g fs)
  unfolding change_value with_kind when◌then◌else◌
  change_value_lem g [] f h = tt
  change_value_lem g (x ∷ fs) f h = go (is_xml_element x.kind) (change_value_lem g fs f h.2)
    where
      go : (b : Bool) → OfFrames R (change_value g fs) → OfFrames R (when b then x ∷ change_value g fs else with_kind (on_value g x.kind) x ∷ fs)
      go true k = (h.0, h.1, k)
      go false k = (on_value_lem g x.kind f h.0, h.1, h.2)

  takes_xml_lem : (x : Bytes) (v : Value) → OfValue R v → OfValue R (takes_xml x v)
  unfolding takes_xml
  takes_xml_lem x (default d o) h = h
  takes_xml_lem x (collection cs) h = h
  takes_xml_lem x (literal y) h = h
  takes_xml_lem x other h = h

  copy_element_lem : (m : Bytes) (as' : List Attribute) (d : Doc) → OfFrames R d.frames → d.labels < 100_000_000 → Always (Outcome R d.labels) (G.copy_element m as' d)
  unfolding G.copy_element with_frames add_xml
  copy_element_lem m as' d h le =
      always_require (Outcome R d.labels) _ _ _ λ e.
      always_after (Outcome R d.labels) _ _ (omega arith, le, λ new. ((tt, tt, change_value_lem _ d.frames (takes_xml_lem _) h), no_line))

  -- what stands inside an element knows its subject
  abbrev OfPlace : Place → Type 0
  OfPlace outside = Unit {0}
  OfPlace nodes = Unit {0}
  OfPlace nodes_or_text = Unit {0}
  OfPlace xml = Unit {0}
  OfPlace (properties s li) = R.subj s

  in_value_lem : (v : Value) → OfPlace (in_value v)
  unfolding in_value
  in_value_lem (default d o) = tt
  in_value_lem (collection cs) = tt
  in_value_lem (literal x) = tt
  in_value_lem other = tt

  in_kind_lem : (k : Kind) → OfKind R k → OfPlace (in_kind k)
  unfolding in_kind
  in_kind_lem rdf_rdf h = tt
  in_kind_lem (wrapper b) h = tt
  in_kind_lem (node_element s li) h = h
  in_kind_lem (property_element p v) h = in_value_lem v
  in_kind_lem xml_element h = tt

  place_in_lem : (fs : List Frame) → OfFrames R fs → OfPlace (place_in fs)
  unfolding place_in
  place_in_lem [] h = tt
  place_in_lem (f ∷ fs) h = in_kind_lem f.kind h.0

  open_in_lem : (p : Place) (m : Bytes) (as' : List Attribute) (d : Doc) → OfPlace p → OfFrames R d.frames → d.labels < 100_000_000
      → Always (Outcome R d.labels) (G.open_in p m as' d)
  unfolding G.open_in open_wrapper wrapped
  open_in_lem outside m as' d k h le =
      always_if (Outcome R d.labels) _ _ _
      (λ w. always_after (Outcome R d.labels) _ _ (always_after (Outcome R d.labels) _ _ (omega arith, le, λ new. ((tt, tt, h), no_line))))
      λ w. open_element_lem open_root m as' d h λ t. open_root_lem t d.labels le
  open_in_lem nodes m as' d k h le = open_element_lem open_node m as' d h λ t. open_node_lem t d.labels
  open_in_lem nodes_or_text m as' d k h le = open_element_lem open_node m as' d h λ t. open_node_lem t d.labels
  open_in_lem xml m as' d k h le = copy_element_lem m as' d h le
  open_in_lem (properties s li) m as' d k h le = open_element_lem (λ t. open_property t s li) m as' d h λ t. open_property_lem t s li d.labels k le

  on_opening_lem : (m : Bytes) (as' : List Attribute) (d : Doc) → OfFrames R d.frames → d.labels < 100_000_000 → Always (Outcome R d.labels) (G.on_opening m as' d)
  unfolding G.on_opening
  on_opening_lem m as' d h le =
      always_require (Outcome R d.labels) _ _ _ λ e₁.
      always_require (Outcome R d.labels) _ _ _ λ e₂.
      open_in_lem (place_in d.frames) m as' d (place_in_lem d.frames h) h le

  -- ---- end tags

  takes_node_lem : (s : Subject) → R.subj s → (v : Value) → OfValue R v → OfValue R (C.takes_node s v)
  unfolding C.takes_node
  takes_node_lem s g (default d o) h = R.node_of s g
  takes_node_lem s g (collection cs) h = (R.node_of s g, h)
  takes_node_lem s g (literal x) h = h
  takes_node_lem s g other h = h

  object_term_lem : (d : Option Bytes) (l : Language) (o : Object) → OfLanguage R.lang l → OfObject R o → R.obj (C.object_term d l o)
  unfolding C.object_term
  object_term_lem d l no_object h g = literal_of_lem d l [] h
  object_term_lem d l (node_object s) h g = g
  object_term_lem d l (text_object t) h g = literal_of_lem d l t h

  end_value_lem : (p : Property) (v : Value) (l : Language) (d : Doc) → R.subj p.subject → OfValue R v → OfLanguage R.lang l → OfFrames R d.frames → d.labels < 100_000_000
      → Always (Outcome R d.labels) (C.end_value p v l d)
  unfolding C.end_value with_labels most_labels
  end_value_lem p (default t o) l d k g f h le = (omega arith, le, λ new. (h, statement-lines p _ k (object_term_lem t l o f g)))
  end_value_lem p (collection cs) l d k g f h le =
      always_require (Outcome R d.labels) _ _ _ λ e.
      (let le' : d.labels + length cs ≤ 99_999_999 = leb-true (d.labels + length cs) 99_999_999 e in (
        omega arith,
        omega arith,
        λ new.
            (h, lines-append R (cell-lines d.labels _ cs new (names _) g) (statement-lines p _ k (head-cell d.labels _ cs new (names _)))),
      ))
  end_value_lem p (literal x) l d k g f h le =
      always_require (Outcome R d.labels) _ _ _ λ e. (omega arith, le, λ new. (h, statement-lines p _ k (R.typed_of x _)))
  end_value_lem p other l d k g f h le = (omega arith, le, λ new. (h, no_line))

  end_kind_lem : (k : Kind) (m : Bytes) (l : Language) (d : Doc) → OfKind R k → OfLanguage R.lang l → OfFrames R d.frames → d.labels < 100_000_000
      → Always (Outcome R d.labels) (C.end_kind k m l d)
  unfolding C.end_kind with_frames add_xml
  end_kind_lem rdf_rdf m l d g f h le = (omega arith, le, λ new. (h, no_line))
  end_kind_lem (wrapper b) m l d g f h le = always_after (Outcome R d.labels) _ _ (omega arith, le, λ new. (h, no_line))
  end_kind_lem (node_element s li) m l d g f h le = (omega arith, le, λ new. (change_value_lem _ d.frames (takes_node_lem s g) h, no_line))
  end_kind_lem (property_element p v) m l d g f h le = end_value_lem p v l d g.0 g.1 f h le
  end_kind_lem xml_element m l d g f h le = (omega arith, le, λ new. (change_value_lem _ d.frames (takes_xml_lem _) h, no_line))

  close_element_lem : (m : Bytes) (fs : List Frame) (d : Doc) → OfFrames R fs → d.labels < 100_000_000 → Always (Outcome R d.labels) (C.close_element m fs d)
  unfolding C.close_element with_frames
  close_element_lem m [] d h le = tt
  close_element_lem m (f ∷ fs) d h le =
      always_require (Outcome R d.labels) _ _ _ λ e.
      end_kind_lem f.kind m _ (with_frames fs d) h.0 (language_of_lem (f ∷ fs) h) h.2 le

  -- ---- text

  takes_text_lem : (s : Bytes) (v : Value) → OfValue R v → OfValue R (X.takes_text s v)
  unfolding X.takes_text
  takes_text_lem s (default d o) h = tt
  takes_text_lem s (collection cs) h = h
  takes_text_lem s (literal x) h = h
  takes_text_lem s other h = h

  on_text_lem : (p : Place) (v : Bytes) (d : Doc) → OfFrames R d.frames → d.labels < 100_000_000 → Always (Outcome R d.labels) (X.on_text p v d)
  unfolding X.on_text with_frames when◌then◌else◌ add_xml
  on_text_lem outside v d h le = always_require (Outcome R d.labels) _ _ _ λ e. (omega arith, le, λ new. (h, no_line))
  on_text_lem nodes v d h le = always_require (Outcome R d.labels) _ _ _ λ e. (omega arith, le, λ new. (h, no_line))
  on_text_lem (properties s li) v d h le = always_require (Outcome R d.labels) _ _ _ λ e. (omega arith, le, λ new. (h, no_line))
  on_text_lem nodes_or_text v d h le = go (X.is_blank v)
    where
      go : (b : Bool) → Outcome R d.labels ([], (when b then d else with_frames (change_value (X.takes_text v) d.frames) d))
      go true = (omega arith, le, λ new. (h, no_line))
      go false = (omega arith, le, λ new. (change_value_lem _ d.frames (takes_text_lem v) h, no_line))
  on_text_lem xml v d h le = (omega arith, le, λ new. (change_value_lem _ d.frames (takes_xml_lem _) h, no_line))

  on_event_lem : (e : Event) (d : Doc) → OfFrames R d.frames → d.labels < 100_000_000 → Always (Outcome R d.labels) (X.on_event e d)
  unfolding X.on_event
  on_event_lem (opening m as') d h le = on_opening_lem m as' d h le
  on_event_lem (closing m) d h le = close_element_lem m d.frames d h le
  on_event_lem (text v) d h le = on_text_lem (place_in d.frames) v d h le
  on_event_lem instruction d h le = (omega arith, le, λ new. (h, no_line))

  pub step : (e : Event) (d : Doc) → OfFrames R d.frames → d.labels < 100_000_000 → Always (Outcome R d.labels) (next e d)
  unfolding next X.within
  step e d h le =
      always_bind (Outcome R d.labels) (Outcome R d.labels) _ _ (on_event_lem e d h le) λ s k. always_require (Outcome R d.labels) _ _ _ λ g. k
