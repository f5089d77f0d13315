-- What is made of a tag in which nothing is wrong: its expanded name, its language, and whether all of it is short enough.
use Rattle.std.specs.Prelude.{ℕ, ◌+◌, ◌-◌, ◌<◌, ◌≤◌, ◌≡◌, Bool, true, false, ◌&&◌, not, eqb, leb, ltb, drop}
use Rattle.std.proofs.Math.Path.{refl, ap}
use Rattle.std.proofs.Common.{sym, ◌∙◌, arith, length-append, length-take}
use Rattle.std.proofs.lemmas.Bool.{false≢true}
use Rattle.std.proofs.Math.Option.{Option, none, some}
use mathlib.Core.List.{List, [], ◌∷◌, ◌++◌, map}
use Rattle.std.proofs.Math.ListN.{length, take, length-map}
use borrow.Author.Tests.{eq-eqb, ne_eqb, eqb-true, le-leb, lt-leb, lt-ltb, le-ltb, leb-true, leb-false}
use Rattle.spec.specs.Bytes.{Bytes, every}
use Rattle.spec.specs.Numbers.{Answer, refuse, good}
use Rattle.spec.specs.declared.Refusal.TheVariants.{NoNamespace}
use Rattle.spec.specs.Limits.{most_name_bytes, most_held_bytes}
use Rattle.spec.specs.Abnf.{lower}
use Rattle.spec.specs.Namespaces.{xml_name}
use Rattle.spec.specs.StartTag.{xml_base, xml_lang, rdf_node_id, rdf_parse_type, property}
use Rattle.copy.specs.Copy.{part, Put, Wrote, put-fits, then as row, wrote_part}
use Rattle.spec.specs.XmlLang.{unsaid}
use Rattle.state.specs.Language.{said_as, said_if, own_in, tag_of_own, own_of_code, is_said}
use Rattle.state.specs.declared.language.Own as code
use Rattle.state.specs.declared.language.Own.TheVariants.{Unsaid, Cleared, Given}
use Rattle.state_words.specs.Words.{pick}
use Rattle.state_words.specs.Kept.{Kept, kept_all, kept_before, kept_then, kept_less}
use Rattle.start_names.specs.declared.Found.{Found}
use Rattle.start_names.specs.declared.Found.TheVariants.{Unknown, Xml, Own, Held}
use Rattle.start_names.specs.declared.Class.{Class}
use Rattle.start_names.specs.Tag.{value_at, back_of}
use Rattle.start_names.specs.Found.{found_bytes, answered}
use Rattle.start_names.specs.Classes.{found_class, space_by}
use Rattle.start_references.specs.declared.reference.Reference.{Reference}
use Rattle.start_references.specs.declared.reference.Reference.TheVariants.{Missing, Bad, Long, Made}
use Rattle.start_references.specs.Reference.{given, is_long, Refers, Resolves, refers_kept}
use Rattle.start_references.specs.declared.References.{References}
use Rattle.start_references.specs.Values.{value_if, value-most}
use Rattle.start_references.specs.References.{any_long}
use Rattle.start_attributes.specs.Places.{places}
use Rattle.start_attributes.specs.First.{first_in}
use Rattle.start_attributes.specs.Short.{short_at}
use Rattle.start_tag.specs.declared.reading.Tag.{Tag}

-- ---- the expanded name

abbrev pub is_unknown : Found → Bool
is_unknown Unknown = true
is_unknown Xml = false
is_unknown (Own at n) = false
is_unknown (Held at n) = false

-- where the namespace was found, which it is in a good tag
unfoldable pub iri_of : Option Bytes → Bytes → Answer (Option Bytes)
iri_of none l = good none
iri_of (some s) l = good (some (s ++ l))

-- the namespace that was found
pub record Known (e v : List ℕ) (f : Found) : Type 0 where
  pub space : Bytes
  pub is : found_bytes e v f ≡ some space

pub known_space : (e v : List ℕ) (f : Found) → is_unknown f ≡ false → Known e v f
unfolding found_bytes
known_space e v Unknown h = absurd (false≢true (sym h))
known_space e v Xml h = record { space = xml_name; is = refl }
known_space e v (Own at n) h = record { space = part e at n; is = refl }
known_space e v (Held at n) h = record { space = part v at n; is = refl }

pub unknown_space : (e v : List ℕ) (f : Found) (l : Bytes) → is_unknown f ≡ true → answered (found_bytes e v f) l ≡ refuse NoNamespace
unfolding found_bytes answered
unknown_space e v Unknown l h = refl
unknown_space e v Xml l h = absurd (false≢true h)
unknown_space e v (Own at n) l h = absurd (false≢true h)
unknown_space e v (Held at n) l h = absurd (false≢true h)

-- the tests of `join`
module _ {area : List ℕ} (s l : Bytes) where
  too_long_lem : 1024 < length (s ++ l) → Resolves (good (some (s ++ l))) area area 5120 Long
  too_long_lem h = record { is = record { text = s ++ l; is = refl; long = h }; before = kept_all; same = refl }

  pub space-long : 1024 < length s → Resolves (good (some (s ++ l))) area area 5120 Long
  space-long h = too_long_lem (omega (arith, length-append s l))

  pub both_long : 1024 - length s < length l → Resolves (good (some (s ++ l))) area area 5120 Long
  both_long h = too_long_lem (omega (arith, length-append s l))

  pub joined : {b c : List ℕ} {p q : Bool} → 6144 ≤ length area → length s ≤ 1024 → length l ≤ 1024 - length s
      → Put area 5120 s b p → Put b (5120 + length s) l c q → Resolves (good (some (s ++ l))) area c 5120 (Made (length s + length l))
  joined {b} {c} room x y p q =
      let w : Wrote area c 5120 (5120 + length s + length l) (s ++ l) =
      row (put-fits p (omega arith)) (put-fits q (omega (arith, p.same))) in
      let z : length s + length l ≡ length (s ++ l) = omega (arith, length-append s l) in
      record {
        is = record { is = ap (λ (t : Bytes). good (some t)) (sym (rw z (wrote_part w))); short = omega arith; within = omega (arith, p.same, q.same) };
        before = kept_before w;
        same = q.same ∙ p.same;
      }

-- the arms of `make_iri`: t is the local part as it was read, s the namespace
pub made_none : (e v : List ℕ) (l : Bytes) {area : List ℕ} (f : Found) → is_unknown f ≡ true → Resolves (iri_of (found_bytes e v f) l) area area 5120 Missing
unfolding iri_of found_bytes
made_none e v l Unknown h = record { is = refl; before = kept_all; same = refl }
made_none e v l Xml h = absurd (false≢true h)
made_none e v l (Own at n) h = absurd (false≢true h)
made_none e v l (Held at n) h = absurd (false≢true h)

-- the namespace s and the local part l were joined
pub made-joined : (e v : List ℕ) (l : Bytes) {area after : List ℕ} (f : Found) {m : Class} {s t : Bytes} {r : Reference} → is_unknown f ≡ false → m ≡ found_class f → s ≡ space_by e v xml_name m → t ≡ l
    → Resolves (good (some (s ++ t))) area after 5120 r → Resolves (iri_of (found_bytes e v f) l) area after 5120 r
unfolding iri_of found_bytes
made-joined e v l Unknown h m p q x = absurd (false≢true (sym h))
made-joined e v l Xml h m p q x = rw (← q, ← rw m at p) x
made-joined e v l (Own at n) h m p q x = rw (← q, ← rw m at p) x
made-joined e v l (Held at n) h m p q x = rw (← q, ← rw m at p) x

-- ---- the language

pub record RoomToMake (e area : List ℕ) : Type 0 where
  pub event : length e ≤ 32_768
  pub room : most_held_bytes ≤ length area

-- what the code says of xml:lang at place j of k: its value in lower case is at 6224
unfoldable pub tag_at_place : List ℕ → List ℕ → ℕ → ℕ → code.Own
tag_at_place e w j k = pick (ltb j k) (pick (eqb (length (value_at e w j)) 0) Cleared (Given 6224 (length (value_at e w j)))) Unsaid

pub record MadeLanguage (e w : List ℕ) (k j : ℕ) (area after : List ℕ) (o : code.Own) : Type 0 where
  pub own : o ≡ tag_at_place e w j k
  pub tag : j < k → part after 6224 (length (value_at e w j)) ≡ map lower (value_at e w j)
  pub before : Kept area after 0 6224
  pub same : length after ≡ length area

module _ (e w : List ℕ) {k j : ℕ} {area : List ℕ} where
  pub language-unsaid : k ≤ j → MadeLanguage e w k j area area Unsaid
  unfolding tag_at_place
  language-unsaid h = record { own = rw (le-ltb j k h); tag = λ l. absurd (omega arith); before = kept_all; same = refl }

  pub language_cleared : {s : Bytes} → j < k → s ≡ value_at e w j → length s ≡ 0 → MadeLanguage e w k j area area Cleared
  unfolding tag_at_place part
  language_cleared {s} h q z =
      record {
        own = rw (lt-ltb j k h, ← q, eq-eqb (length s) 0 z);
        tag = λ l. rw (← q) (nothing s z);
        before = kept_all;
        same = refl;
      }
    where
      nothing : (s : Bytes) → length s ≡ 0 → take (length s) (drop 6224 area) ≡ map lower s
      nothing [] z = refl
      nothing (c ∷ s) z = absurd (omega arith)

  pub language_lowered : {after : List ℕ} {s : Bytes} {t : Bool} → RoomToMake e area → j < k → s ≡ value_at e w j → (length s ≡ 0 → ⊥) → Put area 6224 (map lower s) after t
      → MadeLanguage e w k j area after (Given 6224 (length s))
  unfolding tag_at_place most_held_bytes
  language_lowered {after} {s} m h q n p =
      let z : length (map lower s) ≡ length s = length-map s lower in
      let y : length s ≡ length (value_at e w j) = ap length q in
      let wr = put-fits p (omega (arith, m.event, m.room, value-most e w j)) in
      record {
        own = rw (lt-ltb j k h, ← q, ne_eqb (length s) 0 n);
        tag = λ l. rw (← y, ← z) (wrote_part wr ∙ rw q);
        before = kept_before wr;
        same = p.same;
      }

-- what it says, in the definitions' words
pub tag-says : (e a w : List ℕ) (j k : ℕ) → own_of_code (tag_at_place e w j k) a ≡ said_if (ltb j k) (part a 6224 (length (value_at e w j)))
unfolding tag_at_place own_in tag_of_own said_if part
tag-says e a w j k = go (ltb j k) (eqb (length (value_at e w j)) 0) refl
  where
    go : (t z : Bool) → eqb (length (value_at e w j)) 0 ≡ z
        → own_of_code (pick t (pick z Cleared (Given 6224 (length (value_at e w j)))) Unsaid) a ≡ pick t (said_as (take (length (value_at e w j)) (drop 6224 a))) unsaid
    go true true e = rw (eqb-true (length (value_at _ w j)) 0 e)
    go true false e = refl
    go false z e = refl

pub said_there : (e w : List ℕ) (j k : ℕ) → is_said (tag_at_place e w j k) ≡ ltb j k
unfolding tag_at_place
said_there e w j k = go (ltb j k) (eqb (length (value_at e w j)) 0)
  where
    go : (t z : Bool) → is_said (pick t (pick z Cleared (Given 6224 (length (value_at e w j)))) Unsaid) ≡ t
    go true true = refl
    go true false = refl
    go false z = refl

-- ---- is all of it short?

unfoldable pub short_if : Option Bytes → Bool
short_if none = true
short_if (some s) = leb (length s) most_name_bytes

-- by the references; n: are the attributes' names short? b: the tag's own base
unfoldable pub short_by : Reference → Bool → Option Bytes → References → Bool
short_by iri n b r = not (is_long iri) && (n && (short_if b && (not (is_long r.id) && not (any_long r.others))))

-- what a reference tells of a text that came of it
pub refers_short : (area : List ℕ) (at : ℕ) (o : Option Bytes) (r : Reference) → Refers r area at (good o) → short_if o ≡ not (is_long r)
unfolding short_if most_name_bytes part
refers_short area at o Missing h = let q : o ≡ none = cc in rw q
refers_short area at o Bad h = absurd (let z : ◌≡◌ {A = ℕ} 0 1 = cc in omega arith)
refers_short area at o Long h = let q : o ≡ some h.text = cc h.is in rw (q, lt-leb (length h.text) 1024 h.long)
refers_short area at o (Made n) h =
    let q : o ≡ some (part area at n) = cc h.is in
    rw (q, le-leb (length (part area at n)) 1024 (omega (arith, h.short, length-take n (drop at area))))

-- ---- the whole: what `tag_of` makes

pub record Finished (f : Found) (name : Bytes) (c : ℕ) (e w : List ℕ) (k : ℕ) (v cs rs : List ℕ) (r : References) (area after : List ℕ) (t : Tag) : Type 0 where
  pub iri : Refers t.iri after 5120 (iri_of (found_bytes e v f) (back_of c name))
  pub base : t.base ≡ first_in rs k xml_base
  pub language : t.language ≡ tag_at_place e w (first_in rs k xml_lang) k
  pub node : t.node ≡ first_in rs k rdf_node_id
  pub parse : t.parse ≡ first_in rs k rdf_parse_type
  pub properties : t.properties ≡ ltb (first_in rs k property) k
  pub id : t.id ≡ r.id
  pub about : t.about ≡ r.others.about
  pub resource : t.resource ≡ r.others.resource
  pub datatype : t.datatype ≡ r.others.datatype
  pub kind : t.kind ≡ r.others.kind
  pub short : t.short ≡ short_by t.iri (every (short_at e w v cs) (places 0 k)) (value_if e w k t.base) r
  pub lowered : first_in rs k xml_lang < k → part after 6224 (length (value_at e w (first_in rs k xml_lang))) ≡ map lower (value_at e w (first_in rs k xml_lang))
  pub before : Kept area after 0 5120
  pub same : length after ≡ length area

-- from what each part made
pub finished : {f : Found} {name : Bytes} {c : ℕ} {e w : List ℕ} {k : ℕ} {v cs rs : List ℕ} {r : References} {area b after : List ℕ} {iri : Reference}
    {base place node parse other : ℕ} {language : code.Own} {short : Bool}
    → Resolves (iri_of (found_bytes e v f) (back_of c name)) area b 5120 iri → MadeLanguage e w k place b after language
    → base ≡ first_in rs k xml_base → place ≡ first_in rs k xml_lang → node ≡ first_in rs k rdf_node_id → parse ≡ first_in rs k rdf_parse_type → other ≡ first_in rs k property
    → short ≡ short_by iri (every (short_at e w v cs) (places 0 k)) (value_if e w k base) r
    → Finished f name c e w k v cs rs r area after
    (record {
      iri = iri;
      base = base;
      node = node;
      parse = parse;
      language = language;
      id = r.id;
      about = r.others.about;
      resource = r.others.resource;
      datatype = r.others.datatype;
      kind = r.others.kind;
      properties = ltb other k;
      short = short;
    })
finished {f} {name} {c} {e} {w} {k} {v} {iri = iri} i l p q s t u z =
    record {
      iri = refers_kept 5120 (iri_of (found_bytes e v f) (back_of c name)) iri i.is l.before (omega arith) l.same;
      base = p;
      language = rw q at l.own;
      node = s;
      parse = t;
      properties = rw u;
      id = refl;
      about = refl;
      resource = refl;
      datatype = refl;
      kind = refl;
      short = z;
      lowered = rw q at l.tag;
      before = kept_then i.before (kept_less l.before (omega arith) (omega arith));
      same = l.same ∙ i.same;
    }

-- ---- the tests of `is_long_value`: x is the value as it was read

over : (n : ℕ) → ltb 1024 n ≡ not (leb n 1024)
over n = go (leb n 1024) refl
  where
    go : (t : Bool) → leb n 1024 ≡ t → ltb 1024 n ≡ not t
    go true h = le-ltb 1024 n (leb-true n 1024 h)
    go false h = lt-ltb 1024 n (leb-false n 1024 h)

module _ (e w : List ℕ) {k j : ℕ} where
  pub no_value : k ≤ j → false ≡ not (short_if (value_if e w k j))
  unfolding value_if given short_if
  no_value h = rw (le-ltb j k h)

  pub value-length : {x : Bytes} → j < k → x ≡ value_at e w j → ltb 1024 (length x) ≡ not (short_if (value_if e w k j))
  unfolding value_if given short_if most_name_bytes
  value-length {x} h q = rw (lt-ltb j k h, ← q) (over (length x))

-- ---- the tests of `is_short`

module _ (iri : Reference) (n : Bool) (b : Option Bytes) (r : References) where
  pub iri_long : is_long iri ≡ true → false ≡ short_by iri n b r
  unfolding short_by
  iri_long h = rw h

  module _ (p : is_long iri ≡ false) where
    pub name-long : n ≡ false → false ≡ short_by iri n b r
    unfolding short_by
    name-long h = rw (p, h)

    module _ (q : n ≡ true) where
      pub base-long : short_if b ≡ false → false ≡ short_by iri n b r
      unfolding short_by
      base-long h = rw (p, q, h)

      module _ (t : short_if b ≡ true) where
        pub id_long : is_long r.id ≡ true → false ≡ short_by iri n b r
        unfolding short_by
        id_long h = rw (p, q, t, h)

        pub others_decide : {x : Bool} → is_long r.id ≡ false → x ≡ any_long r.others → not x ≡ short_by iri n b r
        unfolding short_by
        others_decide h u = rw (p, q, t, h, u)
