-- Text in a default property: it replaces the object so far.
use Rattle.std.specs.Prelude.{ℕ, ◌+◌, ◌-◌, ◌*◌, ◌<◌, ◌≤◌, ◌≡◌, Bool, ◌&&◌, List, [], ◌∷◌, eqb, leb, length}
use Rattle.std.proofs.Math.Path.{refl, sym}
use Rattle.std.proofs.Common.{ap, ◌∙◌, arith, length-set}
use Rattle.std.proofs.Math.Bool.{true, false}
use Rattle.std.proofs.lemmas.Bool.{false≢true}
use borrow.Author.Tests.{leb-true, leb-false, le-leb, lt-leb, lt-ltb}
use Rattle.spec.specs.Limits as L
use Rattle.spec.specs.Limits.{most_held_bytes}
use Rattle.spec.specs.Bytes.{Bytes, when◌then◌else◌, total}
use Rattle.spec.specs.declared.Refusal.TheVariants.{OverLimit}
use Rattle.spec.specs.Pyx.{text}
use Rattle.spec.specs.Document as D
use Rattle.spec.specs.Document.{default, collection, literal, other, Kind as What, rdf_rdf, wrapper, node_element, property_element, xml_element, Frame as Element, with_kind, on_value, is_xml_element, change_value, object_bytes, value_bytes, kind_bytes, frame_bytes, with_frames, place_in}
use Rattle.spec.specs.RdfXml.{on_event, on_text, is_blank, takes_text}
use Rattle.copy.specs.Copy.{stored_at, length_stored}
use Rattle.state_words.specs.Parts.{TAIL, END, PENDING, FRAME}
use Rattle.state_words.specs.declared.Kind.{Kind}
use Rattle.state_words.specs.declared.Kind.TheVariants.{Rdf, NodeElt, PropertyElt, ParseTypeCollectionPropertyElt, ParseTypeLiteralPropertyElt, ParseTypeOtherPropertyElt, Wrapper}
use Rattle.state_words.specs.declared.Frame.{Frame}
use Rattle.state_words.specs.Words.{pick, frame_at, load_frame, no_frame, words_of, length-words}
use Rattle.state.specs.declared.Registers.{Registers}
use Rattle.state.specs.Meaning.{at, start_of, elements_of, doc_of}
use Rattle.state.specs.Valid.{Valid, rising}
use Rattle.state.specs.Held.{room}
use Rattle.state_stack.specs.Calls.{top_frame, same_kind, tail_to, Texts, may_tail}
use Rattle.state_stack.specs.Change.{topped_to, top_frame_lem}
use Rattle.state_stack.specs.Laws.{by, text-holds, topmost, top_deep, length_at, length_has}
use Rattle.state_inner.specs.Calls.{held_in, held_wild, held_is}
use Rattle.event.specs.declared.Place.{Place}
use Rattle.event.specs.declared.Place.TheVariants.{Outside, Nodes, Properties, NodesOrText, Xml}
use Rattle.event.specs.Place.{place_of, place_at, place_is, place_read}
use Rattle.event.specs.Result.{Asks}
use Rattle.literal.specs.Quiet.{Quietly, Quiet, held_with, held_with_lem, quiet_over, quiet_done}
use Rattle.text.specs.Blank.{Unchanged}
use Rattle.std.specs.Prelude.{Option, Some, unwrap_or, Result, Ok, Err}
use Rattle.event.specs.declared.Done.{Done}
use Rattle.spec.specs.declared.Refusal.{Refusal}

-- ---- in the definitions

abbrev takes_object : D.Place → Bool
takes_object D.outside = false
takes_object D.nodes = false
takes_object (D.properties s n) = false
takes_object D.nodes_or_text = true
takes_object D.xml = false

-- the text's bytes come in place of the object's
text_bytes : (s : Bytes) (es : List Element) → place_in es ≡ D.nodes_or_text → total frame_bytes (change_value (takes_text s) es) ≡ total frame_bytes (change_value (takes_text []) es) + length s
unfolding place_in D.in_kind D.in_value change_value is_xml_element on_value takes_text with_kind when◌then◌else◌ total frame_bytes kind_bytes value_bytes object_bytes
text_bytes s [] h = absurd (false≢true (ap takes_object h))
text_bytes s (e ∷ es) h = go e.kind h
  where
    go : (k : What) → D.in_kind k ≡ D.nodes_or_text
        → total frame_bytes (when is_xml_element k then e ∷ change_value (takes_text s) es else with_kind (on_value (takes_text s) k) e ∷ es)
        ≡ total frame_bytes (when is_xml_element k then e ∷ change_value (takes_text []) es else with_kind (on_value (takes_text []) k) e ∷ es) + length s
    go rdf_rdf q = absurd (false≢true (ap takes_object q))
    go (wrapper b) q = absurd (false≢true (ap takes_object q))
    go (node_element u li) q = absurd (false≢true (ap takes_object q))
    go (property_element p (default d o)) q = omega arith
    go (property_element p (collection cs)) q = absurd (false≢true (ap takes_object q))
    go (property_element p (literal x)) q = absurd (false≢true (ap takes_object q))
    go (property_element p other) q = absurd (false≢true (ap takes_object q))
    go xml_element q = absurd (false≢true (ap takes_object q))

module _ {r : Registers} {fs bs is w : List ℕ} (s : Bytes) (p : place_in (elements_of r fs bs is w) ≡ D.nodes_or_text) where
  -- blank text changes nothing
  pub blank_quiet : is_blank s ≡ true → Quiet (text s) r fs bs is w (elements_of r fs bs is w)
  unfolding on_event on_text doc_of with_frames when◌then◌else◌
  blank_quiet h = record { step = λ ids. rw (p, h) }

  pub text_quiet : is_blank s ≡ false → Quiet (text s) r fs bs is w (change_value (takes_text s) (elements_of r fs bs is w))
  unfolding on_event on_text doc_of with_frames when◌then◌else◌
  text_quiet h = record { step = λ ids. rw (p, h) }

-- ---- of a state

abbrev is_text : Place → Bool
is_text Outside = false
is_text Nodes = false
is_text Properties = false
is_text NodesOrText = true
is_text Xml = false

-- in such a place a default property is on top
pub property_top : (r : Registers) (fs : List ℕ) → place_at r fs ≡ NodesOrText → same_kind (top_frame r fs).kind PropertyElt ≡ true
unfolding place_at top_frame
property_top r fs h = go (eqb r.counts.inner 0) (eqb r.counts.depth 0) (load_frame fs (r.counts.depth - 1)) h
  where
    kind : (k : Kind) → place_of k ≡ NodesOrText → same_kind k PropertyElt ≡ true
    kind Rdf q = absurd (false≢true (ap is_text q))
    kind NodeElt q = absurd (false≢true (ap is_text q))
    kind PropertyElt q = refl
    kind ParseTypeCollectionPropertyElt q = absurd (false≢true (ap is_text q))
    kind ParseTypeLiteralPropertyElt q = absurd (false≢true (ap is_text q))
    kind ParseTypeOtherPropertyElt q = absurd (false≢true (ap is_text q))
    kind Wrapper q = absurd (false≢true (ap is_text q))

    go : (a b : Bool) (f : Frame) → pick a (pick b Outside (place_of f.kind)) Xml ≡ NodesOrText → same_kind (pick b no_frame f).kind PropertyElt ≡ true
    go false b f q = absurd (false≢true (ap is_text q))
    go true true f q = absurd (false≢true (ap is_text q))
    go true false f q = kind f.kind q

-- where its object starts, the state ends without it
module _ {r : Registers} {fs bs is w : List ℕ} (v : Valid r fs bs is w) (k : same_kind (top_frame r fs).kind PropertyElt ≡ true) where
  record Bottom : Type 0 where
    depth : 0 < r.counts.depth
    room : (r.counts.depth - 1) * FRAME + FRAME ≤ length fs
    up : at (top_frame r fs) TAIL ≤ r.store.top
    low : r.store.low ≤ 65_536
    places : length (top_frame r fs).at ≡ 9
    marks : length (top_frame r fs).has ≡ 8

  bottom : Bottom
  bottom =
      let d : 0 < r.counts.depth = top_deep r fs (λ i. false≢true (ap (λ (g : Kind). same_kind g PropertyElt) (sym i) ∙ k)) in
      let t = topmost v d in
      let n : ℕ = r.counts.depth - 1 in
      let s = top_frame_lem v n t.depth in
      let u = rising (frame_at fs n) s.up in
      let h : at (frame_at fs n) TAIL ≤ r.store.top = omega (arith, s.ends) in
      record {
        depth = d;
        room = t.room;
        up = rw t.frame h;
        low = (room v).low;
        places = rw t.frame (length_at fs n t.room);
        marks = rw t.frame (length_has fs n t.room);
      }

  may_text : (n : ℕ) → at (top_frame r fs) TAIL + n ≤ r.store.low → may_tail r fs w (at (top_frame r fs) TAIL) n ≡ true
  unfolding may_tail L.all
  may_text n h =
      let b = bottom in
      rw (
        lt-ltb 0 r.counts.depth b.depth,
        le-leb r.store.low 65_536 b.low,
        le-leb r.store.low (length w) (omega (arith, b.low, v.store)),
        le-leb (at (top_frame r fs) TAIL + n) r.store.low h,
        le-leb ((r.counts.depth - 1) * FRAME + FRAME) (length fs) b.room,
      )

  -- the same state with an empty text in place of the object
  emptied : Texts r fs w [] (Some (topped_to r (at (top_frame r fs) TAIL + 0)))
      (stored_at fs ((r.counts.depth - 1) * FRAME) (words_of (tail_to (top_frame r fs) (at (top_frame r fs) TAIL + 0) 3))) (stored_at w (at (top_frame r fs) TAIL) [])
  emptied =
      let b = bottom in
      let m = may_text 0 (omega (arith, b.up, v.apart)) in
      let f : Frame = tail_to (top_frame r fs) (at (top_frame r fs) TAIL + 0) 3 in
      let l : length (words_of f) ≡ FRAME = length-words f (length-set (top_frame r fs).at END (at (top_frame r fs) TAIL + 0) ∙ b.places) (length-set (top_frame r fs).has PENDING 3 ∙ b.marks) in
      record {
        tails =
            λ _.
            record {
              answer = sym m;
              stored = λ _. refl;
              wrote = λ _. refl;
              moved = λ _. refl;
              kept = λ n. absurd (false≢true (sym n ∙ m));
              same_words = length_stored fs ((r.counts.depth - 1) * FRAME) (words_of f) (omega (arith, b.room));
              same_bytes = length_stored w (at (top_frame r fs) TAIL) [] (omega (arith, b.up, b.low, v.apart, v.store));
            };
        kept = λ n. absurd (false≢true (sym n ∙ k));
      }

  -- what is noted lies below the object
  noted-below : r.store.noted ≤ at (top_frame r fs) TAIL
  noted-below = omega (arith, (room (text-holds v emptied refl).valid).noted)

  -- what is held with a text in place of the object
  held-text : (s : Bytes) → place_in (elements_of r fs bs is w) ≡ D.nodes_or_text
      → held_with (start_of r w) (change_value (takes_text s) (elements_of r fs bs is w)) ≡ at (top_frame r fs) TAIL - r.store.noted + length s + (65_536 - r.store.low)
  unfolding held_with
  held-text s p =
      let b = bottom in
      let h = text-holds v emptied refl in
      let z = held_with_lem h in
      let y = held_is (topped_to r (at (top_frame r fs) TAIL + 0)) b.low (omega (arith, b.up, v.apart)) in
      omega (arith, text_bytes s (elements_of r fs bs is w) p, noted-below)

-- ---- `text_fits`: the registers with the text on top

-- the registers with a text of n bytes on top
abbrev pub text_to : Registers → List ℕ → ℕ → Registers
text_to r fs n = topped_to r (at (top_frame r fs) TAIL + n)

-- with a top that is too high, all of the store is held
module _ (r : Registers) where
  pub held_beyond : (t : ℕ) → r.store.low < t → held_in (topped_to r t) ≡ 65_536
  unfolding held_in L.all
  held_beyond t h = rw (lt-leb t r.store.low h) (drop_and (leb r.store.low 65_536))
    where
      drop_and : (x : Bool) → pick (x && false) (t - r.store.noted + (65_536 - r.store.low)) 65_536 ≡ 65_536
      drop_and true = refl
      drop_and false = refl

  pub held_large : (t : ℕ) → 65_536 < t → held_in (topped_to r t) ≡ 65_536
  held_large t h =
      by (leb r.store.low 65_536)
      (λ y. held_beyond t (omega (arith, leb-true r.store.low 65_536 y)))
      (λ z. sym (held_wild (topped_to r t) (leb-false r.store.low 65_536 z)))

  -- the tests of `text_fits`
  pub fits_not : (a n : ℕ) → 65_536 < n → false ≡ leb (held_in (topped_to r (a + n))) most_held_bytes
  unfolding L.all
  fits_not a n l = sym (lt-leb (held_in (topped_to r (a + n))) 49_152 (omega (arith, held_large (a + n) (omega arith))))

  pub fits_top : {f : Frame} {q : Registers} {b : Bool} {a : ℕ} (fs : List ℕ) (n : ℕ) → f ≡ top_frame r fs → a ≡ at f TAIL → q ≡ topped_to r (a + n) → b ≡ leb (held_in q) most_held_bytes
      → b ≡ leb (held_in (text_to r fs n)) most_held_bytes
  fits_top fs n e g i h = h ∙ rw (i, g, e)

-- ---- how `take_text` comes to its answer

-- o is the outcome of text s in a default property
pub record TakesText (r : Registers) (fs w : List ℕ) (s : Bytes) (o : Result Done Refusal) (fs' w' : List ℕ) : Type 0 where
  pub quietly : {bs is : List ℕ} → Asks r fs bs is w → place_at r fs ≡ NodesOrText → Quietly (text s) r o fs bs is w fs' bs is w'

-- the place in the definitions' words
stands : {r : Registers} {fs bs is w : List ℕ} → Valid r fs bs is w → place_at r fs ≡ NodesOrText → place_in (elements_of r fs bs is w) ≡ D.nodes_or_text
unfolding place_is
stands v p = place_read v ∙ rw p

-- what the registers with the text hold is what the elements with it hold, within the store
record Weighed (r : Registers) (fs bs is w : List ℕ) (s : Bytes) : Type 0 where
  fits : held_in (text_to r fs (length s)) ≤ 49_152 → held_with (start_of r w) (change_value (takes_text s) (elements_of r fs bs is w)) ≤ 49_152
  over : 49_152 < held_in (text_to r fs (length s)) → 49_152 < held_with (start_of r w) (change_value (takes_text s) (elements_of r fs bs is w))
  low : held_in (text_to r fs (length s)) ≤ 49_152 → at (top_frame r fs) TAIL + length s ≤ r.store.low

weighed : {r : Registers} {fs bs is w : List ℕ} (s : Bytes) → Valid r fs bs is w → place_at r fs ≡ NodesOrText → Weighed r fs bs is w s
weighed {r} {fs} {bs} {is} {w} s v p =
    let t : ℕ = at (top_frame r fs) TAIL + length s in
    let h = held-text v (property_top r fs p) s (stands v p) in
    let u = noted-below v (property_top r fs p) in
    let f = v.few in
    let o = (room v).low in
    by (leb t r.store.low)
    (λ y.
    let l : t ≤ r.store.low = leb-true t r.store.low y in
    let e = held_is (topped_to r t) o l in
    record { fits = λ m. omega arith; over = λ m. omega arith; low = λ m. l })
    (λ z.
    let l : r.store.low < t = leb-false t r.store.low z in
    let e = held_beyond r t l in
    record { fits = λ m. absurd (omega arith); over = λ m. omega arith; low = λ m. absurd (omega arith) })

module _ {r : Registers} {fs w : List ℕ} {s : Bytes} where
  pub text_blank : {o : Result Done Refusal} → is_blank s ≡ true → Unchanged r o → TakesText r fs w s o fs w
  text_blank h u = record { quietly = λ a p. u.quietly a (blank_quiet s (stands a.valid p) h) }

  module _ (h : is_blank s ≡ false) where
    pub text_over : 49_152 < held_in (text_to r fs (length s)) → TakesText r fs w s (Err OverLimit) fs w
    text_over l = record { quietly = λ a p. quiet_over (text_quiet s (stands a.valid p) h) ((weighed s a.valid p).over l) }

    pub text_done : {c : Option Registers} {fs' w' : List ℕ} → held_in (text_to r fs (length s)) ≤ 49_152 → Texts r fs w s c fs' w'
        → TakesText r fs w s (Ok (record { written = 0; registers = unwrap_or c r })) fs' w'
    text_done {c} {fs'} {w'} l q =
        record {
          quietly =
              λ a p.
              let g = weighed s a.valid p in
              let k = property_top r fs p in
              let m = may_text a.valid k (length s) (g.low l) in
              let t = q.tails k in
              quiet_done (text_quiet s (stands a.valid p) h) a (g.fits l) (text-holds a.valid q (t.answer ∙ m)) (ap (λ (d : Registers). d.flags.closed) (t.moved m) ∙ a.mark);
        }
