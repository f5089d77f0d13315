-- The frame of a new element: its parts written one behind the other, where they start, and what is there.
use Rattle.std.specs.Prelude.{◌≡◌, Bool, List, [], ◌∷◌, ◌++◌, ℕ, ◌+◌, ◌≤◌, length, get_or}
use Rattle.std.specs.Int.{from_bool}
use Rattle.std.proofs.Math.Path.{refl}
use Rattle.std.proofs.Math.Bool.{true, false}
use Rattle.std.proofs.Common.{arith}
use Rattle.std.proofs.Math.Dec.{eqb}
use borrow.Author.Tests.{eqb-true, eq-eqb}
use Rattle.spec.specs.Bytes.{Bytes}
use Rattle.spec.specs.Limits.{most_labels}
use Rattle.spec.specs.NTriples.{Subject}
use Rattle.copy.specs.Copy.{Put, Wrote, then, put-fits, wrote_none, wrote_same}
use Rattle.state_words.specs.Parts.{NAME, BINDINGS, BASE, TAG, MAIN, ID, DATATYPE, TAIL, END, PLACES}
use Rattle.state_words.specs.declared.Kind.{Kind}
use Rattle.state_words.specs.declared.Kind.TheVariants.{Rdf, NodeElt, PropertyElt, ParseTypeCollectionPropertyElt, ParseTypeLiteralPropertyElt, ParseTypeOtherPropertyElt, Wrapper}
use Rattle.state_words.specs.declared.Frame.{Frame}
use Rattle.state_words.specs.Words.{pick}
use Rattle.state.specs.Language.{tag_of_own}
use Rattle.state.specs.Language as L
use Rattle.state.specs.declared.language.Own as said
use Rattle.state.specs.declared.language.Own.TheVariants.{Unsaid, Cleared, Given}
use Rattle.state.specs.Meaning.{at, optional, node_of, children_of, subject_of, property_of, what_of, part_of}
use Rattle.state.specs.Valid.{noted_by, empty_or, parts_ok, children_ok, kind_ok}
use Rattle.state_stack.specs.Laid.{Laid, laid}
use Rattle.state_stack.specs.Calls.{frame_of}
use Rattle.start_element.specs.declared.Source.{Source}
use Rattle.start_element.specs.declared.Source.TheVariants.{Missing, Own, Made}
use Rattle.start_element.specs.declared.Parts.{Parts}
use Rattle.start_element.specs.Element.{word_of, text_of, maybe, node_is, property_is, kind_is, part_is, Lacks}
use Rattle.start_element.specs.Sizes.{parts_bytes, missing_size}

-- ---- the parts, written

-- there is room for n bytes
pub record Room (w : List ℕ) (at n : ℕ) : Type 0 where
  pub store : length w ≤ 65_536
  pub room : at + n ≤ length w

-- a text was written, up to `to`
pub record Puts (w v : List ℕ) (at to : ℕ) (s : Bytes) : Type 0 where
  pub wrote : Wrote w v at to s
  pub same : length v ≡ length w
  pub most : to ≤ 65_536

pub puts : {w v : List ℕ} {at : ℕ} {s : Bytes} {r : Bool} → Room w at (length s) → Put w at s v r → Puts w v at (at + length s) s
puts {w} {v} {at} {s} h p = record { wrote = put-fits p h.room; same = p.same; most = omega (arith, h.store, h.room) }

pub puts_none : {w : List ℕ} {at : ℕ} {n : ℕ} → Room w at n → Puts w w at at []
puts_none {w} {at} {n} h = record { wrote = wrote_none (omega (arith, h.room)); same = refl; most = omega (arith, h.store, h.room) }

-- there is room for all parts of p
pub record Spread (w e a : List ℕ) (p : Parts) (name bound from : ℕ) : Type 0 where
  pub store : length w ≤ 65_536
  pub first : name ≤ bound
  pub second : bound ≤ from
  pub room : from + parts_bytes p e a ≤ length w

module _ {w e a : List ℕ} {p : Parts} {name bound from : ℕ} (s : Spread w e a p name bound from) where
  pub spread_from : from ≤ 65_536
  spread_from = omega (arith, s.store, s.room)

  pub spread_bound : bound ≤ 65_536
  spread_bound = omega (arith, spread_from, s.second)

  pub spread_name : name ≤ 65_536
  spread_name = omega (arith, spread_bound, s.first)

  pub spread_1 : Room w from (length (text_of p.base e a))
  spread_1 = record { store = s.store; room = omega (arith, s.room) }

  module _ {w1 : List ℕ} {x3 : ℕ} (b : Puts w w1 from x3 (text_of p.base e a)) where
    pub spread_2 : Room w1 x3 (length (tag_of_own p.tag a))
    spread_2 = record { store = omega (arith, s.store, b.same); room = omega (arith, s.room, b.same, b.wrote.up) }

    module _ {w2 : List ℕ} {x4 : ℕ} (t : Puts w1 w2 x3 x4 (tag_of_own p.tag a)) where
      pub spread_3 : Room w2 x4 (length (text_of p.main e a))
      spread_3 = record { store = omega (arith, spread_2.store, t.same); room = omega (arith, s.room, b.same, t.same, b.wrote.up, t.wrote.up) }

      module _ {w3 : List ℕ} {x5 : ℕ} (m : Puts w2 w3 x4 x5 (text_of p.main e a)) where
        pub spread_4 : Room w3 x5 (length (text_of p.id e a))
        spread_4 =
            record {
              store = omega (arith, spread_3.store, m.same);
              room = omega (arith, s.room, b.same, t.same, m.same, b.wrote.up, t.wrote.up, m.wrote.up);
            }

        module _ {w4 : List ℕ} {x6 : ℕ} (i : Puts w3 w4 x5 x6 (text_of p.id e a)) where
          pub spread_5 : Room w4 x6 (length (text_of p.datatype e a))
          spread_5 =
              record {
                store = omega (arith, spread_4.store, i.same);
                room = omega (arith, s.room, b.same, t.same, m.same, i.same, b.wrote.up, t.wrote.up, m.wrote.up, i.wrote.up);
              }

          pub spread_6 : {w5 : List ℕ} {x7 : ℕ} → Puts w4 w5 x6 x7 (text_of p.datatype e a) → Room w5 x7 (length (text_of p.object e a))
          spread_6 d =
              record {
                store = omega (arith, spread_5.store, d.same);
                room = omega (arith, s.room, b.same, t.same, m.same, i.same, d.same, b.wrote.up, t.wrote.up, m.wrote.up, i.wrote.up, d.wrote.up);
              }

-- all parts of p stand in v from `from` on; `at` has where each starts, behind the places of the name and of the bindings, and where the last one ends
pub record Lays (w v e a : List ℕ) (p : Parts) (name bound from : ℕ) (at : List ℕ) : Type 0 where
  pub size : length at ≡ PLACES
  pub name_at : get_or at NAME 0 ≡ name
  pub bound_at : get_or at BINDINGS 0 ≡ bound
  pub base_at : get_or at BASE 0 ≡ from
  pub tag_at : get_or at TAG 0 ≡ get_or at BASE 0 + length (text_of p.base e a)
  pub main_at : get_or at MAIN 0 ≡ get_or at TAG 0 + length (tag_of_own p.tag a)
  pub id_at : get_or at ID 0 ≡ get_or at MAIN 0 + length (text_of p.main e a)
  pub type_at : get_or at DATATYPE 0 ≡ get_or at ID 0 + length (text_of p.id e a)
  pub tail_at : get_or at TAIL 0 ≡ get_or at DATATYPE 0 + length (text_of p.datatype e a)
  pub end_at : get_or at END 0 ≡ get_or at TAIL 0 + length (text_of p.object e a)
  pub wrote : Wrote w v (get_or at BASE 0) (get_or at END 0)
      (text_of p.base e a ++ (tag_of_own p.tag a ++ (text_of p.main e a ++ (text_of p.id e a ++ (text_of p.datatype e a ++ text_of p.object e a)))))
  pub same : length v ≡ length w

pub lays : {w w1 w2 w3 w4 w5 v : List ℕ} (e a : List ℕ) (p : Parts) {x0 x1 x2 x3 x4 x5 x6 x7 x8 : ℕ}
    → Puts w w1 x2 x3 (text_of p.base e a) → Puts w1 w2 x3 x4 (tag_of_own p.tag a) → Puts w2 w3 x4 x5 (text_of p.main e a)
    → Puts w3 w4 x5 x6 (text_of p.id e a) → Puts w4 w5 x6 x7 (text_of p.datatype e a) → Puts w5 v x7 x8 (text_of p.object e a)
    → Lays w v e a p x0 x1 x2 (x0 ∷ x1 ∷ x2 ∷ x3 ∷ x4 ∷ x5 ∷ x6 ∷ x7 ∷ x8 ∷ [])
lays e a p b t m i d o =
    let all = then b.wrote (then t.wrote (then m.wrote (then i.wrote (then d.wrote o.wrote)))) in
    record {
      size = refl;
      name_at = refl;
      bound_at = refl;
      base_at = refl;
      tag_at = b.wrote.up;
      main_at = t.wrote.up;
      id_at = m.wrote.up;
      type_at = i.wrote.up;
      tail_at = d.wrote.up;
      end_at = o.wrote.up;
      wrote = all;
      same = wrote_same all;
    }

-- ---- the marks

-- 0 for what is missing
abbrev pub mark_of : Source → ℕ
mark_of Missing = 0
mark_of (Own i n) = 1
mark_of (Made i n) = 1

abbrev pub marks_of : Parts → ℕ → List ℕ
marks_of p first =
    mark_of p.base ∷ L.mark_of p.tag ∷ from_bool p.blank ∷ mark_of p.id ∷ mark_of p.datatype ∷ word_of p.what ∷ 0 ∷ first ∷ []

pub marks_are : {a b c d e f : ℕ} (p : Parts) (first : ℕ) → a ≡ mark_of p.base → b ≡ L.mark_of p.tag → c ≡ from_bool p.blank → d ≡ mark_of p.id → e ≡ mark_of p.datatype → f ≡ word_of p.what
    → ◌≡◌ {A = List ℕ} (a ∷ b ∷ c ∷ d ∷ e ∷ f ∷ 0 ∷ first ∷ []) (marks_of p first)
marks_are p first x y z u v w = rw (x, y, z, u, v, w)

-- ---- what the frame then says

module _ (e a : List ℕ) where
  pub optional_is : (s : Source) → optional (mark_of s) (text_of s e a) ≡ maybe s e a
  unfolding optional maybe text_of
  optional_is Missing = refl
  optional_is (Own i n) = refl
  optional_is (Made i n) = refl

  empty_or_lem : (s : Source) (x y : ℕ) → y ≡ x + length (text_of s e a) → empty_or (mark_of s) x y ≡ true
  unfolding empty_or text_of
  empty_or_lem Missing x y h = eq-eqb x y (omega arith)
  empty_or_lem (Own i n) x y h = refl
  empty_or_lem (Made i n) x y h = refl

-- the tag's likewise
empty_own : (a : List ℕ) (o : said.Own) (x y : ℕ) → y ≡ x + length (tag_of_own o a) → empty_or (L.mark_of o) x y ≡ true
unfolding empty_or tag_of_own
empty_own a Unsaid x y h = eq-eqb x y (omega arith)
empty_own a Cleared x y h = refl
empty_own a (Given i n) x y h = refl

node_is_lem : (b : Bool) (s : Bytes) → node_of (from_bool b) s ≡ node_is b s
unfolding node_of node_is
node_is_lem true s = refl
node_is_lem false s = refl

missing_text : {s : Source} (e a : List ℕ) → s ≡ Missing → text_of s e a ≡ []
unfolding text_of
missing_text e a h = rw h

-- the frame of these parts
abbrev pub frame_is : Parts → List ℕ → ℕ → Frame
frame_is p at first = frame_of p.kind at (marks_of p first)

module _ {w v e a : List ℕ} {p : Parts} {name bound from : ℕ} {at' : List ℕ} (l : Lays w v e a p name bound from at') (b : ℕ) where
  pub lays_laid : Laid v (frame_is p at' b) (text_of p.base e a) (tag_of_own p.tag a) (text_of p.main e a) (text_of p.id e a) (text_of p.datatype e a) (text_of p.object e a)
  lays_laid =
      laid {f = frame_is p at' b} (text_of p.base e a) (tag_of_own p.tag a) (text_of p.main e a) (text_of p.id e a) (text_of p.datatype e a) (text_of p.object e a)
      l.wrote l.tag_at l.main_at l.id_at l.type_at l.tail_at l.end_at

  pub lays_parts : parts_ok (frame_is p at' b) ≡ true
  unfolding parts_ok
  lays_parts =
      rw (
        empty_or_lem e a p.base (get_or at' BASE 0) (get_or at' TAG 0) l.tag_at,
        empty_own a p.tag (get_or at' TAG 0) (get_or at' MAIN 0) l.main_at,
        empty_or_lem e a p.id (get_or at' ID 0) (get_or at' DATATYPE 0) l.type_at,
        empty_or_lem e a p.datatype (get_or at' DATATYPE 0) (get_or at' TAIL 0) l.tail_at,
      )

  object_or : (h : ℕ) → (h ≡ 0 → p.object ≡ Missing) → empty_or h (get_or at' TAIL 0) (get_or at' END 0) ≡ true
  unfolding empty_or
  object_or h z = go (eqb h 0) refl
    where
      go : (t : Bool) → eqb h 0 ≡ t → pick t (eqb (get_or at' TAIL 0) (get_or at' END 0)) true ≡ true
      go true i = eq-eqb (get_or at' TAIL 0) (get_or at' END 0) (omega (arith, l.end_at, missing_size e a (z (eqb-true h 0 i))))
      go false i = refl

  pub lays_kind : (q : Kind) → Lacks q p → kind_ok q (frame_is p at' b) v ≡ true
  unfolding kind_ok children_ok most_labels
  lays_kind Rdf z =
      eq-eqb (get_or at' MAIN 0) (get_or at' TAIL 0)
      (omega (arith, l.id_at, l.type_at, l.tail_at, missing_size e a z.0, missing_size e a z.1, missing_size e a z.2))
  lays_kind Wrapper z =
      eq-eqb (get_or at' MAIN 0) (get_or at' END 0)
      (omega (arith, l.id_at, l.type_at, l.tail_at, l.end_at, missing_size e a z.0, missing_size e a z.1, missing_size e a z.2, missing_size e a z.3))
  lays_kind NodeElt z =
      rw (eq-eqb (get_or at' ID 0) (get_or at' END 0) (omega (arith, l.type_at, l.tail_at, l.end_at, missing_size e a z.0, missing_size e a z.1, missing_size e a z.2)))
  lays_kind PropertyElt z = object_or (word_of p.what) z
  lays_kind ParseTypeCollectionPropertyElt z =
      rw (
        eq-eqb (get_or at' DATATYPE 0) (get_or at' TAIL 0) (omega (arith, l.tail_at, missing_size e a z.0)),
        eq-eqb (get_or at' TAIL 0) (get_or at' END 0) (omega (arith, l.end_at, missing_size e a z.1)),
      )
  lays_kind ParseTypeLiteralPropertyElt z = eq-eqb (get_or at' DATATYPE 0) (get_or at' TAIL 0) (omega (arith, l.tail_at, missing_size e a z.0))
  lays_kind ParseTypeOtherPropertyElt z =
      eq-eqb (get_or at' DATATYPE 0) (get_or at' END 0) (omega (arith, l.tail_at, l.end_at, missing_size e a z.0, missing_size e a z.1))

  -- a new element has noted nothing
  pub lays_nothing : (q : Kind) → Lacks q p → noted_by q (frame_is p at' b) ≡ 0
  unfolding noted_by
  lays_nothing Rdf z = omega (arith, l.end_at, missing_size e a z.3)
  lays_nothing NodeElt z = refl
  lays_nothing PropertyElt z = refl
  lays_nothing ParseTypeCollectionPropertyElt z = refl
  lays_nothing ParseTypeLiteralPropertyElt z = refl
  lays_nothing ParseTypeOtherPropertyElt z = refl
  lays_nothing Wrapper z = refl

  property_is_lem : (s : Subject) → property_of (frame_is p at' b) v s ≡ property_is p e a s
  unfolding property_of property_is
  property_is_lem s = rw (lays_laid.main_part, lays_laid.rdf_id, optional_is e a p.id)

  pub lays_what : (q : Kind) → Lacks q p → (s : Subject) → what_of q (frame_is p at' b) v s ≡ kind_is q p e a s
  unfolding what_of kind_is subject_of children_of
  lays_what Rdf z s = refl
  lays_what NodeElt z s = rw (lays_laid.main_part, node_is_lem p.blank (text_of p.main e a))
  lays_what PropertyElt z s = rw (property_is_lem s, lays_laid.datatype, lays_laid.tail_part, optional_is e a p.datatype)
  lays_what ParseTypeCollectionPropertyElt z s = rw (property_is_lem s)
  lays_what ParseTypeLiteralPropertyElt z s = rw (property_is_lem s, lays_laid.tail_part, missing_text e a z.1)
  lays_what ParseTypeOtherPropertyElt z s = rw (property_is_lem s)
  lays_what Wrapper z s = refl

  pub lays_part : (q : Kind) → part_of q (frame_is p at' b) v ≡ part_is q p e a
  unfolding part_of part_is
  lays_part Rdf = rw lays_laid.tail_part
  lays_part NodeElt = refl
  lays_part PropertyElt = refl
  lays_part ParseTypeCollectionPropertyElt = refl
  lays_part ParseTypeLiteralPropertyElt = refl
  lays_part ParseTypeOtherPropertyElt = refl
  lays_part Wrapper = refl
