-- The limits on what is kept behind a start tag: rdf:IDs, their bytes, held bytes.
use Rattle.std.specs.Prelude.{ℕ, ◌+◌, ◌-◌, ◌<◌, ◌≤◌, ◌≡◌, refl, Bool, true, false, ◌&&◌, List}
use Rattle.std.proofs.Common.{sym, ◌∙◌, arith}
use Rattle.std.proofs.Math.Path.{ap}
use Rattle.std.proofs.Math.Option.{Option, some}
use Rattle.std.proofs.Math.Dec.{leb}
use Rattle.std.proofs.Math.ListN.{length}
use borrow.Author.Tests.{le-leb, lt-leb, leb-true, leb-false}
use Rattle.spec.specs.Bytes.{Bytes, total}
use Rattle.spec.specs.Limits.{most_ids, most_id_bytes, most_held_bytes, most_name_bytes}
use Rattle.spec.specs.Xmp.{new_part, noted}
use Rattle.spec.specs.Document.{Part, ordinary, Frame as Element, place_in, frame_bytes, held_bytes, fits}
use Rattle.spec.specs.StartTag.{Tag}
use Rattle.spec.specs.Productions.{Opened}
use Rattle.spec.specs.Opening.{enter, opened}
use Rattle.state_ids.specs.Ids.{ids_of, room_for, ValidIds, room_fits, valid_fits}
use Rattle.state_words.specs.Words.{pick}
use Rattle.state.specs.declared.Registers.{Registers}
use Rattle.state.specs.Meaning.{elements_of, doc_of}
use Rattle.state.specs.Valid.{Valid}
use Rattle.start_element.specs.declared.Source.{Source}
use Rattle.start_element.specs.declared.Source.TheVariants.{Missing, Own, Made}
use Rattle.start_element.specs.declared.Parts.{Parts}
use Rattle.start_element.specs.Element.{text_of, maybe}
use Rattle.start_element.specs.Sizes.{Measures}
use Rattle.start_element.specs.Laws.{held_with_lem}
use Rattle.start_plan.specs.Plan.{is_there}

-- is there room for the rdf:ID, if there is one?
unfoldable pub room_for_id : ℕ → ℕ → Source → List ℕ → List ℕ → Bool
room_for_id count used s e a = pick (is_there s) (room_for count used (length (text_of s e a))) true

and_assoc : (a b c : Bool) → (a && (b && c)) ≡ ((a && b) && c)
and_assoc true b c = refl
and_assoc false b c = refl

-- the element that a tag opens, which is so much to a packet; that holds no byte
abbrev pub opening : Part → Tag → Opened → Element
opening p t o = record { name = t.name; bindings = t.bindings; own_base = t.own_base; own_tag = t.own_tag; kind = o.kind; part = p }

abbrev pub element_of : Tag → Opened → Element
element_of t o = opening ordinary t o

ids_room : {count used : ℕ} {ia il st : List ℕ} → ValidIds count used ia il st → (s : Source) (e a : List ℕ) (o : Option Bytes) → maybe s e a ≡ o → ((i : Bytes) → o ≡ some i → length i ≤ most_name_bytes)
    → (leb (length (enter o (ids_of ia il st count))) most_ids && leb (total length (enter o (ids_of ia il st count))) most_id_bytes) ≡ room_for_id count used s e a
unfolding enter room_for_id maybe text_of
ids_room v Missing e a o q h = rw (← q) (valid_fits v)
ids_room v (Own i n) e a o q h = rw (← q) (sym (room_fits v (Rattle.copy.specs.Copy.part e i n) (h (Rattle.copy.specs.Copy.part e i n) (sym q))))
ids_room v (Made i n) e a o q h = rw (← q) (sym (room_fits v (Rattle.copy.specs.Copy.part a i n) (h (Rattle.copy.specs.Copy.part a i n) (sym q))))

module _ {r : Registers} {count used : ℕ} {fs bs is w ia il st : List ℕ} (v : Valid r fs bs is w) (flat : r.counts.inner ≡ 0) (x : ValidIds count used ia il st) where
  pub behind_fits : (t : Tag) (o : Opened) (s : Source) (e a : List ℕ) (n : ℕ) → maybe s e a ≡ t.id → ((i : Bytes) → t.id ≡ some i → length i ≤ most_name_bytes) → frame_bytes (element_of t o) ≡ n
      → fits (opened t (doc_of r fs bs is w (ids_of ia il st count)) o).1 ≡ (room_for_id count used s e a && leb (r.store.top - r.store.noted + n) most_held_bytes)
  unfolding fits opened held_bytes doc_of frame_bytes
  behind_fits t o s e a n q h f =
      rw (held_with_lem v flat t.iri (noted r.mode.xmp t) (opening (new_part r.mode.xmp (place_in (elements_of r fs bs is w)) t.iri) t o), f)
      (and_assoc (leb (length (enter t.id (ids_of ia il st count))) most_ids) (leb (total length (enter t.id (ids_of ia il st count))) most_id_bytes) (leb (r.store.top - r.store.noted + n) most_held_bytes)
      ∙ ap (λ (b : Bool). b && leb (r.store.top - r.store.noted + n) most_held_bytes) (ids_room x s e a t.id q h))

-- ---- what `fits` answers

-- is there room for the rdf:ID, and for the bytes that an element of these parts would hold beside those that are held?
pub record Fits (b : Bool) (p : Parts) (s : Source) (top count used : ℕ) (e v : List ℕ) (m k : ℕ) (a : List ℕ) : Type 0 where
  pub size : ℕ
  pub measures : Measures e v m k a p size
  pub is : b ≡ (room_for_id count used s e a && leb (top + size) most_held_bytes)

-- the test by what is left
pub left_over : (n top most : ℕ) → top ≤ most → leb n (most - top) ≡ leb (top + n) most
left_over n top most l = go (leb (top + n) most) refl
  where
    go : (t : Bool) → leb (top + n) most ≡ t → leb n (most - top) ≡ t
    go true h = le-leb n (most - top) (omega (arith, leb-true (top + n) most h))
    go false h = lt-leb n (most - top) (omega (arith, leb-false (top + n) most h))

module _ {p : Parts} {s : Source} {top count used : ℕ} {e v : List ℕ} {m k : ℕ} {a : List ℕ} {n : ℕ} (me : Measures e v m k a p n) {t : Bool} (i : t ≡ room_for_id count used s e a) where
  pub id_full : t ≡ false → Fits false p s top count used e v m k a
  id_full h = record { size = n; measures = me; is = rw (← i, h) }

  module _ (h : t ≡ true) where
    pub held_full : 49_152 < top → Fits false p s top count used e v m k a
    unfolding most_held_bytes
    held_full l = record { size = n; measures = me; is = rw (← i, h, lt-leb (top + n) 49_152 (omega arith)) }

    pub held_fits : top ≤ 49_152 → Fits (leb n (49_152 - top)) p s top count used e v m k a
    unfolding most_held_bytes
    held_fits l = record { size = n; measures = me; is = rw (← i, h) (left_over n top 49_152 l) }

-- the arms of `id_fits`
module _ (count used : ℕ) (e a : List ℕ) {s : Source} where
  pub no_id : s ≡ Missing → true ≡ room_for_id count used s e a
  unfolding room_for_id
  no_id h = rw h

  pub own_id : {i n : ℕ} {t : Bytes} {b : Bool} → s ≡ Own i n → t ≡ Rattle.copy.specs.Copy.part e i n → b ≡ room_for count used (length t) → b ≡ room_for_id count used s e a
  unfolding room_for_id text_of
  own_id h p q = q ∙ rw (h, p)

  pub made_id : {i n : ℕ} {t : Bytes} {b : Bool} → s ≡ Made i n → t ≡ Rattle.copy.specs.Copy.part a i n → b ≡ room_for count used (length t) → b ≡ room_for_id count used s e a
  unfolding room_for_id text_of
  made_id h p q = q ∙ rw (h, p)
