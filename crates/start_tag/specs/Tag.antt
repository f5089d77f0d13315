-- A start tag as it is read: what `read_tag` asks and answers, and the answer in the definitions' words.
use Rattle.std.specs.Prelude.{ℕ, ◌+◌, ◌<◌, ◌≤◌, ◌≡◌, Bool, ◌&&◌, ◌||◌, not, List, [], ◌∷◌, ◌++◌, map, leb, length, take}
use Rattle.std.proofs.Math.Path.{refl, sym, ap}
use Rattle.std.proofs.Common.{◌∙◌, arith, ltb-true, ltb-false}
use Rattle.std.proofs.Math.Bool.{true, false}
use Rattle.std.proofs.Math.Option.{Option, none, some}
use Rattle.std.proofs.Math.Dec.{ltb}
use Rattle.spec.specs.Bytes.{Bytes, is_empty, each, present, or_else, ◌>>=◌, ◌>>◌, require◌or◌}
use Rattle.spec.specs.Numbers.{Answer, refuse, good}
use Rattle.spec.specs.declared.Refusal.{Refusal}
use Rattle.spec.specs.declared.Refusal.TheVariants.{NoNamespace, RepeatedId}
use Rattle.spec.specs.Limits.{most_name_bytes, most_held_bytes}
use Rattle.spec.specs.Abnf.{lower}
use Rattle.spec.specs.Pyx.{Attribute}
use Rattle.spec.specs.Namespaces.{declared, namespace, expand_element, expanded_names}
use Rattle.spec.specs.Document.{Doc, in_scope, language_in_force, base_in_force}
use Rattle.spec.specs.StartTag.{Meaning, meaning, first, xml_base, xml_lang, rdf_node_id, rdf_parse_type, property, property_attributes, resolved, with_hash, is_unused, read_tag, all_short, is_short}
use Rattle.spec.specs.StartTag as S
use Rattle.copy.specs.Copy.{part}
use Rattle.state_words.specs.Kept.{Kept}
use Rattle.spec.specs.XmlLang.{own_of}
use Rattle.spec.specs.XmlLang as X
use Rattle.theorems.specs.Always.{always_good}
use Rattle.theorems.specs.Subjects.{Of?, GoodTag, AllFair, first_tag, each_fair}
use Rattle.state.specs.Language.{said_as, said_if, said_kept}
use Rattle.state.specs.declared.Registers.{Registers}
use Rattle.state.specs.Meaning.{start_of, elements_of, doc_of}
use Rattle.state.specs.Valid.{Valid}
use Rattle.state.specs.Live.{in_scope_lem}
use Rattle.state_stack.specs.Laws.{by}
use Rattle.state_inner.specs.Calls.{base_in}
use Rattle.state_inner.specs.Laws.{base_read}
use Rattle.state_ids.specs.Ids.{ids_of, ValidIds}
use Rattle.start_names.specs.declared.Found.{Found}
use Rattle.start_names.specs.Tag.{value_at, attributes_of, Split, Splits, front_of, back_of}
use Rattle.start_names.specs.Found.{found_bytes, answered, scope, Names, element_means}
use Rattle.start_names.specs.Classes.{Classified}
use Rattle.start_references.specs.declared.reference.Reference.{Reference}
use Rattle.start_references.specs.Reference.{given, is_long, Refers, refers_as, refers_kept}
use Rattle.start_references.specs.declared.References.{References}
use Rattle.start_references.specs.Values.{value-most, value_if, first_value, in_force}
use Rattle.start_references.specs.References.{Five, references, others, five_of, five_at, five_means, fresh_by, fresh_means, references-fresh, Resolved, Resolving}
use Rattle.start_attributes.specs.Judgment.{said}
use Rattle.start_attributes.specs.Reads as R
use Rattle.start_attributes.specs.Reads.{meanings_of, Roles, reads_mean}
use Rattle.start_attributes.specs.First.{first_in, properties_some, properties_none}
use Rattle.start_attributes.specs.Short.{short_means}
use Rattle.start_tag.specs.declared.reading.Tag.{Tag}
use Rattle.start_tag.specs.declared.reading.Read.{Read}
use Rattle.start_tag.specs.declared.reading.Read.TheVariants.{Wrapper, Element}
use Rattle.start_tag.specs.Made.{tag_at_place, is_unknown, iri_of, Known, known_space, unknown_space, short_if, short_by, refers_short, Finished}
use Rattle.std.specs.Prelude.{Result, Ok, Err}

-- what is asked: e and w are the decoded event and its words, v the work store, bs the bindings, of which n are in scope
pub record Asks (e w : List ℕ) (m c k : ℕ) (v bs : List ℕ) (n : ℕ) (cs rs area : List ℕ) : Type 0 where
  pub event : length e ≤ 32_768
  pub store : length v ≤ 65_536
  pub places : k ≤ length rs
  pub room : most_held_bytes ≤ length area
  pub name : Split c (take m e)
  pub splits : Splits e w k
  pub classified : Classified e w k v bs n cs k

-- what a tag t says of a start tag of the definitions: rs and area are roles and area as they are left
pub record Tells (t : Tag) (e w : List ℕ) (m k : ℕ) (v cs rs area : List ℕ) (d : Doc) : Type 0 where
  pub is : S.Tag
  pub answer : read_tag (take m e) (attributes_of e w k) d ≡ good is
  pub roles : Roles e w v cs rs k
  pub name : is.name ≡ take m e
  pub iri : Refers t.iri area 5120 (good (some is.iri))
  pub bindings : is.bindings ≡ declared (attributes_of e w k)
  pub own_base : is.own_base ≡ value_if e w k t.base
  -- xml:lang is at this place, if there is one
  pub place : ℕ
  pub said : t.language ≡ tag_at_place e w place k
  pub own_tag : is.own_tag ≡ said_if (ltb place k) (part area 6224 (length (value_at e w place)))
  pub language : is.language ≡ X.in_force is.own_tag (language_in_force d.frames)
  pub node_id : is.node_id ≡ value_if e w k t.node
  pub parse_type : is.parse_type ≡ value_if e w k t.parse
  pub attributes : is.attributes ≡ property_attributes (meanings_of e w v cs k)
  pub properties : t.properties ≡ not (is_empty is.attributes)
  pub id : Refers t.id area 0 (good is.id)
  pub about : Refers t.about area 1024 (good is.about)
  pub resource : Refers t.resource area 2048 (good is.resource)
  pub datatype : Refers t.datatype area 3072 (good is.datatype)
  pub kind : Refers t.kind area 4096 (good is.type)
  pub short : t.short ≡ is_short is

abbrev pub Cases : Result Read Refusal → List ℕ → List ℕ → ℕ → ℕ → List ℕ → List ℕ → List ℕ → List ℕ → Doc → Type 0
Cases (Err n) e w m k v cs rs area d = read_tag (take m e) (attributes_of e w k) d ≡ refuse n
Cases (Ok Wrapper) e w m k v cs rs area d = Unit
Cases (Ok (Element t)) e w m k v cs rs area d = Tells t e w m k v cs rs area d

-- what `read_tag` does, in any valid state that the registers, frames, bindings and work store belong to, and beside a valid table of rdf:IDs
pub record Reads (r : Registers) (fs bs v : List ℕ) (count : ℕ) (at len store e w : List ℕ) (m k : ℕ) (cs rs₀ area rs after : List ℕ) (t : Result Read Refusal) : Type 0 where
  pub places : length rs ≡ length rs₀
  pub same : length after ≡ length area
  pub cases : (is : List ℕ) (used : ℕ) → Valid r fs bs is v → ValidIds count used at len store
      → Cases t e w m k v cs rs after (doc_of r fs bs is v (ids_of at len store count))

-- the same of an area in which a label and a numbered property were made since
abbrev pub tells_kept : {t : Tag} {e w : List ℕ} {m k : ℕ} {v cs rs area after : List ℕ} {d : Doc} → Tells t e w m k v cs rs area d → length e ≤ 32_768
    → Kept area after 0 6144 → Kept area after 6224 49_152 → length after ≡ length area → Tells t e w m k v cs rs after d
tells_kept {t} {e} {w} {m} {k} h l p q s =
    record {
      is = h.is;
      answer = h.answer;
      roles = h.roles;
      name = h.name;
      iri = refers_kept 5120 (good (some h.is.iri)) t.iri h.iri p (omega arith) s;
      bindings = h.bindings;
      own_base = h.own_base;
      place = h.place;
      said = h.said;
      own_tag =
          h.own_tag
          ∙ ap (said_if (ltb h.place k)) (sym (q.parts 6224 (length (value_at e w h.place)) (omega arith) (omega (arith, value-most e w h.place))));
      language = h.language;
      node_id = h.node_id;
      parse_type = h.parse_type;
      attributes = h.attributes;
      properties = h.properties;
      id = refers_kept 0 (good h.is.id) t.id h.id p (omega arith) s;
      about = refers_kept 1024 (good h.is.about) t.about h.about p (omega arith) s;
      resource = refers_kept 2048 (good h.is.resource) t.resource h.resource p (omega arith) s;
      datatype = refers_kept 3072 (good h.is.datatype) t.datatype h.datatype p (omega arith) s;
      kind = refers_kept 4096 (good h.is.type) t.kind h.kind p (omega arith) s;
      short = h.short;
    }

-- ---- `read_tag`, the references apart

unfoldable pub tag_from : Bytes → List Attribute → Doc → Bytes → List Meaning → Five → S.Tag
tag_from n as' d i ms x =
    record {
      name = n;
      iri = i;
      bindings = declared as';
      names = expanded_names (declared as' ++ in_scope d.frames) as';
      own_base = first xml_base ms;
      own_tag = own_of (first xml_lang ms);
      language = X.in_force (own_of (first xml_lang ms)) (language_in_force d.frames);
      node_id = first rdf_node_id ms;
      parse_type = first rdf_parse_type ms;
      attributes = property_attributes ms;
      id = x.id;
      about = x.about;
      resource = x.resource;
      datatype = x.datatype;
      type = x.type;
    }

-- one after the other, and what is made of them
abbrev each_of : {A : Type 0} → (Option Bytes → Bool) → (Five → A) → Answer (Option Bytes) → Answer (Option Bytes) → Answer (Option Bytes) → Answer (Option Bytes) → Answer (Option Bytes) → Answer A
each_of fresh f i a b c t = do
  i' ← i
  require fresh i' or RepeatedId
  a' ← a
  b' ← b
  c' ← c
  t' ← t
  good (f (record { id = i'; about = a'; resource = b'; datatype = c'; type = t' }))

made_of : {A : Type 0} (fresh : Option Bytes → Bool) (f : Five → A) (i a b c t : Answer (Option Bytes))
    → each_of fresh f i a b c t ≡ (each_of fresh (λ x. x) i a b c t >>= λ x. good (f x))
unfolding ◌>>=◌ ◌>>◌ require◌or◌
made_of fresh f (refuse n) a b c t = refl
made_of {A} fresh f (good i) a b c t = on (fresh i) a b c t
  where
    from : {B : Type 0} → (Five → B) → Bool → Answer (Option Bytes) → Answer (Option Bytes) → Answer (Option Bytes) → Answer (Option Bytes) → Answer B
    from g y a b c t = each_of (λ _. y) g (good i) a b c t

    on : (y : Bool) (a b c t : Answer (Option Bytes)) → from f y a b c t ≡ (from (λ x. x) y a b c t >>= λ x. good (f x))
    on false a b c t = refl
    on true (refuse n) b c t = refl
    on true (good a) (refuse n) c t = refl
    on true (good a) (good b) (refuse n) t = refl
    on true (good a) (good b) (good c) (refuse n) = refl
    on true (good a) (good b) (good c) (good t) = refl

module _ (n : Bytes) (as' : List Attribute) (d : Doc) where
  stop_name : {r : Refusal} → expand_element (declared as' ++ in_scope d.frames) n ≡ refuse r → read_tag n as' d ≡ refuse r
  unfolding read_tag ◌>>=◌
  stop_name h = rw h

  module _ {i : Bytes} (h : expand_element (declared as' ++ in_scope d.frames) n ≡ good i) where
    stop_attributes : {r : Refusal} → each (meaning (declared as' ++ in_scope d.frames)) as' ≡ refuse r → read_tag n as' d ≡ refuse r
    unfolding read_tag ◌>>=◌
    stop_attributes q = rw (h, q)

    module _ {ms : List Meaning} (q : each (meaning (declared as' ++ in_scope d.frames)) as' ≡ good ms) where
      apart : read_tag n as' d
          ≡ (references (or_else (first xml_base ms) (base_in_force d.start_base d.frames)) (λ o. is_unused o d.ids) (five_of ms) >>= λ x. good (tag_from n as' d i ms x))
      unfolding read_tag references others five_of tag_from ◌>>=◌
      apart =
          rw (h, q)
          (made_of (λ o. is_unused o d.ids) (tag_from n as' d i ms)
          (resolved (or_else (first xml_base ms) (base_in_force d.start_base d.frames)) (with_hash (first S.rdf_ID ms)))
          (resolved (or_else (first xml_base ms) (base_in_force d.start_base d.frames)) (first S.rdf_about ms))
          (resolved (or_else (first xml_base ms) (base_in_force d.start_base d.frames)) (first S.rdf_resource ms))
          (resolved (or_else (first xml_base ms) (base_in_force d.start_base d.frames)) (first S.rdf_datatype ms))
          (resolved (or_else (first xml_base ms) (base_in_force d.start_base d.frames)) (first S.rdf_type ms)))

-- ---- short: text by text

and_assoc : (a b c : Bool) → (a && (b && c)) ≡ ((a && b) && c)
and_assoc true b c = refl
and_assoc false b c = refl

append_short : (a b : List Bytes) → all_short (a ++ b) ≡ (all_short a && all_short b)
unfolding all_short
append_short [] b = refl
append_short (s ∷ a) b = rw (append_short a b) (and_assoc (leb (length s) most_name_bytes) (all_short a) (all_short b))

present_short : (o : Option Bytes) (l : List (Option Bytes)) → all_short (present (o ∷ l)) ≡ (short_if o && all_short (present l))
unfolding all_short present short_if
present_short none l = refl
present_short (some s) l = refl

present_none : all_short (present []) ≡ true
unfolding all_short present
present_none = refl

short_texts : (t : S.Tag)
    → is_short t
    ≡ (short_if (some t.iri)
    && (all_short t.names
    && (short_if t.own_base && (short_if t.id && (short_if t.about && (short_if t.resource && (short_if t.datatype && (short_if t.type && true))))))))
unfolding is_short all_short short_if
short_texts t =
    rw (
      append_short t.names (present (t.own_base ∷ t.id ∷ t.about ∷ t.resource ∷ t.datatype ∷ t.type ∷ [])),
      present_short t.own_base (t.id ∷ t.about ∷ t.resource ∷ t.datatype ∷ t.type ∷ []),
      present_short t.id (t.about ∷ t.resource ∷ t.datatype ∷ t.type ∷ []),
      present_short t.about (t.resource ∷ t.datatype ∷ t.type ∷ []),
      present_short t.resource (t.datatype ∷ t.type ∷ []),
      present_short t.datatype (t.type ∷ []),
      present_short t.type [],
      present_none,
    )

none_long : (a b c d : Bool) → (not a && (not b && (not c && (not d && true)))) ≡ not (a || (b || (c || d)))
none_long true b c d = refl
none_long false true c d = refl
none_long false false true d = refl
none_long false false false true = refl
none_long false false false false = refl

short_by_lem : (t : S.Tag) (iri : Reference) {n : Bool} {b : Option Bytes} (r : References)
    → short_if (some t.iri) ≡ not (is_long iri) → all_short t.names ≡ n → t.own_base ≡ b → short_if t.id ≡ not (is_long r.id)
    → short_if t.about ≡ not (is_long r.others.about) → short_if t.resource ≡ not (is_long r.others.resource)
    → short_if t.datatype ≡ not (is_long r.others.datatype) → short_if t.type ≡ not (is_long r.others.kind) → is_short t ≡ short_by iri n b r
unfolding short_by
short_by_lem t iri r h1 h2 h3 h4 h5 h6 h7 h8 =
    short_texts t
    ∙ rw (h1, h2, h3, h4, h5, h6, h7, h8, none_long (is_long r.others.about) (is_long r.others.resource) (is_long r.others.datatype) (is_long r.others.kind))

-- the expanded name where the namespace was found
iri_is : (c : ℕ) {o : Option Bytes} {s n l : Bytes} → o ≡ some s → n ≡ l → iri_of o (back_of c n) ≡ good (some (s ++ back_of c l))
unfolding iri_of
iri_is c p q = rw (p, q)

-- ---- what the roles tell

module _ {e w v cs rs : List ℕ} {k : ℕ} (h : Roles e w v cs rs k) where
  properties_are : ltb (first_in rs k property) k ≡ not (is_empty (property_attributes (meanings_of e w v cs k)))
  properties_are =
      by (ltb (first_in rs k property) k)
      (λ y. rw (y, properties_some h (ltb-true (first_in rs k property) k y)))
      (λ y. rw (y, properties_none h (ltb-false (first_in rs k property) k y)))

  -- l is the place of xml:lang
  language_is : {l : ℕ} (area : List ℕ) → l ≡ first_in rs k xml_lang → (l < k → part area 6224 (length (value_at e w l)) ≡ map lower (value_at e w l))
      → Of? GoodTag (first xml_lang (meanings_of e w v cs k)) → own_of (first xml_lang (meanings_of e w v cs k)) ≡ said_if (ltb l k) (part area 6224 (length (value_at e w l)))
  unfolding value_if given said_if own_of
  language_is {l} area q made allowed =
      let f : first xml_lang (meanings_of e w v cs k) ≡ given (ltb l k) (value_at e w l) = first_value h xml_lang ∙ rw q in
      ap own_of f ∙ go (ltb l k) refl (rw f at allowed)
    where
      go : (t : Bool) → ltb l k ≡ t → Of? GoodTag (given t (value_at e w l)) → own_of (given t (value_at e w l)) ≡ said_if t (part area 6224 (length (value_at e w l)))
      go true y g = said_kept (value_at e w l) g ∙ ap said_as (sym (made (ltb-true l k y)))
      go false y g = refl

  value_is : {l : ℕ} (r : S.Role) → l ≡ first_in rs k r → first r (meanings_of e w v cs k) ≡ value_if e w k l
  value_is r q = first_value h r ∙ rw q

-- ---- the answers of `read_tag`: f is where the element's namespace was found, j the judgment of the attributes, q the references

module _ (r : Registers) (fs bs v : List ℕ) (count : ℕ) (at len store : List ℕ) {e w : List ℕ} {m c k : ℕ} {cs rs₀ area : List ℕ}
    (a : Asks e w m c k v bs r.counts.bindings cs rs₀ area) {f : Found} {name : Bytes} (nm : name ≡ part e 0 m)
    (z : Names e v (namespace (scope e w k v bs r.counts.bindings) (front_of c name)) f) where
  whole : name ≡ take m e
  unfolding part
  whole = nm

  scope_is : {is : List ℕ} (ids : List Bytes) → Valid r fs bs is v → declared (attributes_of e w k) ++ in_scope (doc_of r fs bs is v ids).frames ≡ scope e w k v bs r.counts.bindings
  unfolding doc_of scope
  scope_is ids x = ap (declared (attributes_of e w k) ++◌) (in_scope_lem x)

  named : answered (found_bytes e v f) (back_of c (take m e)) ≡ expand_element (scope e w k v bs r.counts.bindings) (take m e)
  named = element_means e v (scope e w k v bs r.counts.bindings) a.name (rw whole at z)

  pub unknown_name : is_unknown f ≡ true → Reads r fs bs v count at len store e w m k cs rs₀ area rs₀ area (Err NoNamespace)
  unknown_name u =
      record {
        places = refl;
        same = refl;
        cases = λ is used x y.
            let ids = ids_of at len store count in
            stop_name (take m e) (attributes_of e w k) (doc_of r fs bs is v ids) (rw (scope_is ids x) (sym named ∙ unknown_space e v f (back_of c (take m e)) u));
      }

  module _ (u : is_unknown f ≡ false) where
    known : Known e v f
    known = known_space e v f u

    expanded : expand_element (scope e w k v bs r.counts.bindings) (take m e) ≡ good (known.space ++ back_of c (take m e))
    unfolding answered
    expanded = sym named ∙ ap (λ (o : Option Bytes). answered o (back_of c (take m e))) known.is

    pub wrong_attribute : {rs : List ℕ} {j : Result Unit Refusal} {n : Refusal} → R.Reads e w v cs k rs₀ rs j → j ≡ Err n → Reads r fs bs v count at len store e w m k cs rs₀ area rs area (Err n)
    wrong_attribute {n = n} o h =
        record {
          places = o.same;
          same = refl;
          cases = λ is used x y.
              let ids = ids_of at len store count in
              let s = scope_is ids x in
              stop_attributes (take m e) (attributes_of e w k) (doc_of r fs bs is v ids) {i = known.space ++ back_of c (take m e)} (rw s expanded)
              (rw s (reads_mean a.classified a.splits o ∙ ap (λ (q : Result Unit Refusal). said q (meanings_of e w v cs k)) h));
        }

    module _ {rs : List ℕ} {j : Result Unit Refusal} (o : R.Reads e w v cs k rs₀ rs j) (g : j ≡ Ok tt) where
      roles_are : Roles e w v cs rs k
      roles_are = o.roles g

      -- xml:lang was not refused
      allowed : Of? GoodTag (first xml_lang (meanings_of e w v cs k))
      allowed =
          first_tag (meanings_of e w v cs k)
          (always_good AllFair (each_fair (scope e w k v bs r.counts.bindings) (attributes_of e w k))
          (reads_mean a.classified a.splits o ∙ ap (λ (q : Result Unit Refusal). said q (meanings_of e w v cs k)) g))

      -- what the code resolves is what `read_tag` does
      same_references : {is : List ℕ} {used : ℕ} (x : Valid r fs bs is v) → ValidIds count used at len store
          → references (or_else (first xml_base (meanings_of e w v cs k)) (base_in_force (start_of r v) (elements_of r fs bs is v))) (λ i. is_unused i (ids_of at len store count)) (five_of (meanings_of e w v cs k))
          ≡ references (in_force e w v k rs (base_in r fs)) (fresh_by count at len store) (five_at e w k rs)
      unfolding in_force
      same_references x y =
          rw (first_value roles_are xml_base, ← base_read x, five_means roles_are)
          (references-fresh (in_force e w v k rs (base_in r fs)) (λ i. is_unused i (ids_of at len store count)) (fresh_by count at len store) (five_at e w k rs) (λ i. sym (fresh_means y i)))

      module _ {is : List ℕ} {used : ℕ} (x : Valid r fs bs is v) (y : ValidIds count used at len store) where
        resolved_apart : read_tag (take m e) (attributes_of e w k) (doc_of r fs bs is v (ids_of at len store count))
            ≡ (references (in_force e w v k rs (base_in r fs)) (fresh_by count at len store) (five_at e w k rs)
            >>= λ p. good (tag_from (take m e) (attributes_of e w k) (doc_of r fs bs is v (ids_of at len store count)) (known.space ++ back_of c (take m e)) (meanings_of e w v cs k) p))
        unfolding doc_of
        resolved_apart =
            let ids = ids_of at len store count in
            let s = scope_is ids x in
            apart (take m e) (attributes_of e w k) (doc_of r fs bs is v ids) {i = known.space ++ back_of c (take m e)} (rw s expanded)
            {ms = meanings_of e w v cs k} (rw s (reads_mean a.classified a.splits o ∙ ap (λ (q : Result Unit Refusal). said q (meanings_of e w v cs k)) g))
            ∙ ap (◌>>= λ p. good (tag_from (take m e) (attributes_of e w k) (doc_of r fs bs is v (ids_of at len store count)) (known.space ++ back_of c (take m e)) (meanings_of e w v cs k) p))
            (same_references x y)

        resolved-refused : {n : Refusal} → references (in_force e w v k rs (base_in r fs)) (fresh_by count at len store) (five_at e w k rs) ≡ refuse n
            → read_tag (take m e) (attributes_of e w k) (doc_of r fs bs is v (ids_of at len store count)) ≡ refuse n
        unfolding ◌>>=◌
        resolved-refused h = resolved_apart ∙ rw h

        resolved_good : {p : Five} → references (in_force e w v k rs (base_in r fs)) (fresh_by count at len store) (five_at e w k rs) ≡ good p
            → read_tag (take m e) (attributes_of e w k) (doc_of r fs bs is v (ids_of at len store count))
            ≡ good (tag_from (take m e) (attributes_of e w k) (doc_of r fs bs is v (ids_of at len store count)) (known.space ++ back_of c (take m e)) (meanings_of e w v cs k) p)
        unfolding ◌>>=◌
        resolved_good h = resolved_apart ∙ rw h

      module _ {b : List ℕ} {q : Result References Refusal} (res : Resolving (references (in_force e w v k rs (base_in r fs)) (fresh_by count at len store) (five_at e w k rs)) area b q) where
        pub wrong_reference : {n : Refusal} → q ≡ Err n → Reads r fs bs v count at len store e w m k cs rs₀ area rs b (Err n)
        wrong_reference h =
            record {
              places = o.same;
              same = res.same;
              cases = λ is used x y. resolved-refused x y (rw h at res.cases);
            }

        module _ {refs : References} {after : List ℕ} {t : Tag} (came : q ≡ Ok refs) (fin : Finished f name c e w k v cs rs refs b after t) where
          reached : Resolved refs b (references (in_force e w v k rs (base_in r fs)) (fresh_by count at len store) (five_at e w k rs))
          reached = rw came at res.cases

          element_iri : Refers t.iri after 5120 (good (some (known.space ++ back_of c (take m e))))
          element_iri = refers_as after 5120 t.iri fin.iri (iri_is c known.is whole)

          tells : {is : List ℕ} {used : ℕ} → Valid r fs bs is v → ValidIds count used at len store → Tells t e w m k v cs rs after (doc_of r fs bs is v (ids_of at len store count))
          unfolding tag_from
          tells {is} x y =
              let ids = ids_of at len store count in
              let five = reached.five in
              let tag = tag_from (take m e) (attributes_of e w k) (doc_of r fs bs is v ids) (known.space ++ back_of c (take m e)) (meanings_of e w v cs k) five in
              record {
                is = tag;
                answer = resolved_good x y reached.is;
                roles = roles_are;
                name = refl;
                iri = element_iri;
                bindings = refl;
                own_base = value_is roles_are xml_base fin.base;
                place = first_in rs k xml_lang;
                said = fin.language;
                own_tag = language_is roles_are after refl fin.lowered allowed;
                language = refl;
                node_id = value_is roles_are rdf_node_id fin.node;
                parse_type = value_is roles_are rdf_parse_type fin.parse;
                attributes = refl;
                properties = fin.properties ∙ properties_are roles_are;
                id = moved 0 five.id fin.id reached.id (omega arith);
                about = moved 1024 five.about fin.about reached.about (omega arith);
                resource = moved 2048 five.resource fin.resource reached.resource (omega arith);
                datatype = moved 3072 five.datatype fin.datatype reached.datatype (omega arith);
                kind = moved 4096 five.type fin.kind reached.kind (omega arith);
                short =
                    fin.short
                    ∙ sym
                    (short_by_lem tag t.iri refs
                    (refers_short after 5120 (some (known.space ++ back_of c (take m e))) t.iri element_iri)
                    (rw (scope_is ids x) (sym (short_means a.classified a.splits)))
                    (value_is roles_are xml_base fin.base)
                    (refers_short b 0 five.id refs.id reached.id)
                    (refers_short b 1024 five.about refs.others.about reached.about)
                    (refers_short b 2048 five.resource refs.others.resource reached.resource)
                    (refers_short b 3072 five.datatype refs.others.datatype reached.datatype)
                    (refers_short b 4096 five.type refs.others.kind reached.kind));
              }
            where
              moved : (p : ℕ) (i : Option Bytes) {u n : Reference} → u ≡ n → Refers n b p (good i) → p + 1024 ≤ 5120 → Refers u after p (good i)
              moved p i {u} {n} z s l = rw z (refers_kept p (good i) n s fin.before l fin.same)

          pub tag_read : Reads r fs bs v count at len store e w m k cs rs₀ area rs after (Ok (Element t))
          tag_read = record { places = o.same; same = fin.same ∙ res.same; cases = λ is used x y. tells x y }
