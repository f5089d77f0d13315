-- The frame on top with another tail: the state stays valid, and only the kind of its element changes.
use Rattle.std.specs.Prelude.{ℕ, zero, suc, ◌+◌, ◌-◌, ◌*◌, ◌≤◌, ◌≡◌, refl, Bool, true, false, List, ◌∷◌, ◌++◌}
use Rattle.std.proofs.Common.{sym, ap, ◌∙◌, arith}
use Rattle.std.proofs.Math.ListN.{length}
use Rattle.spec.specs.Bytes.{Bytes, when◌then◌else◌}
use Rattle.spec.specs.Opening.{counted, count_li}
use Rattle.spec.specs.Namespaces.{Binding}
use Rattle.spec.specs.NTriples.{Subject}
use Rattle.spec.specs.Document.{Value, Kind as What, Part, Frame as Element, with_kind, with_part, on_value, is_xml_element, change_value}
use Rattle.state_words.specs.Parts.{NAME, BINDINGS, BASE, TAG, MAIN, ID, DATATYPE, TAIL, END, PLACES, BASED, TAGGED, BLANK, IDENTIFIED, TYPED, MARKS, FRAME}
use Rattle.state_words.specs.declared.Kind.{Kind}
use Rattle.state_words.specs.declared.Kind.TheVariants.{Rdf, NodeElt, PropertyElt, ParseTypeCollectionPropertyElt, ParseTypeLiteralPropertyElt, ParseTypeOtherPropertyElt, Wrapper}
use Rattle.state_words.specs.declared.Frame.{Frame}
use Rattle.state_words.specs.Kept.{Kept, kept_all, kept_less, kept_before}
use Rattle.state_words.specs.Words.{frame_at, StoredFrame, frame_wrote, load_store}
use Rattle.state.specs.declared.Registers.{Registers}
use Rattle.state.specs.Meaning.{at, has, first, bindings_of, property_of, what_of, part_of, element_of, subject_below, frames_of, inner_of, inners_of, start_of, elements_of}
use Rattle.state.specs.Valid.{noted_by, noted_of, parts_ok, kind_ok, Rising, Sound, Valid, rising, rises_up}
use Rattle.state.specs.Stay.{span_kept, bindings_kept, stands_kept, below_kept}
use Rattle.state_stack.specs.Change.{Holds, On, noting_to, topped_to, changed, top_frame_lem, under, top_element}

-- g is f but for where its tail ends, and what the tail is
pub record Alike (f g : Frame) : Type 0 where
  pub kind : g.kind ≡ f.kind
  pub name : at g NAME ≡ at f NAME
  pub bindings : at g BINDINGS ≡ at f BINDINGS
  pub base : at g BASE ≡ at f BASE
  pub tag : at g TAG ≡ at f TAG
  pub main : at g MAIN ≡ at f MAIN
  pub id : at g ID ≡ at f ID
  pub type : at g DATATYPE ≡ at f DATATYPE
  pub tail : at g TAIL ≡ at f TAIL
  pub has_base : has g BASED ≡ has f BASED
  pub has_tag : has g TAGGED ≡ has f TAGGED
  pub is_blank : has g BLANK ≡ has f BLANK
  pub has_id : has g IDENTIFIED ≡ has f IDENTIFIED
  pub has_type : has g TYPED ≡ has f TYPED
  pub least : first g ≡ first f
  pub places : length g.at ≡ PLACES
  pub marks : length g.has ≡ MARKS

pub alike_up : {f g : Frame} → Alike f g → Rising f → at f TAIL ≤ at g END → Rising g
alike_up {f} {g} a r h =
    record {
      name = omega (arith, a.name, a.bindings);
      bindings = omega (arith, a.bindings, a.base);
      base = omega (arith, a.base, a.tag);
      tag = omega (arith, a.tag, a.main);
      main = omega (arith, a.main, a.id);
      id = omega (arith, a.id, a.type);
      type = omega (arith, a.type, a.tail);
      tail = omega (arith, a.tail);
    }

pub alike_parts : {f g : Frame} → Alike f g → parts_ok g ≡ parts_ok f
unfolding parts_ok
alike_parts a = rw (a.has_base, a.has_tag, a.has_id, a.has_type, a.base, a.tag, a.main, a.id, a.type, a.tail)

-- what is said of the main part and the rdf:ID stays
pub alike_property : {f g : Frame} {w v : List ℕ} → Alike f g → Rising f → Kept w v 0 (at f TAIL) → (s : Subject) → property_of g v s ≡ property_of f w s
unfolding property_of
alike_property {f} {g} {w} {v} a r k s =
    rw (
      a.main,
      a.id,
      a.type,
      a.has_id,
      span_kept k (at f MAIN) (at f ID) (omega arith) (omega arith) (omega arith),
      span_kept k (at f ID) (at f DATATYPE) (omega arith) (omega arith) (omega arith),
    )

alike_element : {f g : Frame} {w v : List ℕ} → Alike f g → Rising f → Kept w v 0 (at f TAIL) → (K : What → What) (h : Part → Part) (bound : List Binding) (s : Subject)
    → what_of f.kind g v s ≡ K (what_of f.kind f w s) → part_of f.kind g v ≡ h (part_of f.kind f w)
    → element_of g bound v s ≡ with_part (h (part_of f.kind f w)) (with_kind (K (what_of f.kind f w s)) (element_of f bound w s))
unfolding element_of with_kind with_part
alike_element {f} {g} {w} {v} a r k K h bound s e d =
    let q : what_of g.kind g v s ≡ K (what_of f.kind f w s) = ap (λ (c : Kind). what_of c g v s) a.kind ∙ e in
    let p : part_of g.kind g v ≡ h (part_of f.kind f w) = ap (λ (c : Kind). part_of c g v) a.kind ∙ d in
    rw (
      q,
      p,
      a.name,
      a.bindings,
      a.base,
      a.tag,
      a.main,
      a.has_base,
      a.has_tag,
      span_kept k (at f NAME) (at f BINDINGS) (omega arith) (omega arith) (omega arith),
      span_kept k (at f BASE) (at f TAG) (omega arith) (omega arith) (omega arith),
      span_kept k (at f TAG) (at f MAIN) (omega arith) (omega arith) (omega arith),
    )

-- ---- kinds that note nothing

-- whatever the frame of such a kind is
pub quiet : {k : Kind} (q : Kind) → k ≡ q → ((f : Frame) → noted_by q f ≡ 0) → (f g : Frame) → noted_by k f ≡ noted_by k g
quiet q e z f g = rw e (z f ∙ sym (z g))

pub node_quiet : (f : Frame) → noted_by NodeElt f ≡ 0
unfolding noted_by
node_quiet f = refl

pub property_quiet : (f : Frame) → noted_by PropertyElt f ≡ 0
unfolding noted_by
property_quiet f = refl

pub collection_quiet : (f : Frame) → noted_by ParseTypeCollectionPropertyElt f ≡ 0
unfolding noted_by
collection_quiet f = refl

pub literal_quiet : (f : Frame) → noted_by ParseTypeLiteralPropertyElt f ≡ 0
unfolding noted_by
literal_quiet f = refl

-- ---- the law

module _ {r : Registers} {fs bs is w : List ℕ} (x : Valid r fs bs is w) (n : ℕ) (d : r.counts.depth ≡ suc n) where
  -- the element on top with another kind, and another part in a packet
  unfoldable pub topped : (What → What) → (Part → Part) → List Element
  topped K h =
      inners_of is bs w r.counts.inner r.counts.bindings
      ++ (with_part (h (part_of (frame_at fs n).kind (frame_at fs n) w))
      (with_kind (K (what_of (frame_at fs n).kind (frame_at fs n) w (subject_below fs w n)))
      (element_of (frame_at fs n) (bindings_of bs w (first (frame_at fs n)) (r.counts.outer - first (frame_at fs n))) w (subject_below fs w n)))
      ∷ frames_of fs bs w n (first (frame_at fs n)))

  -- another tail, and another count of what is noted
  pub renoted : {gs v : List ℕ} {g : Frame} {q : Bool} (K : What → What) (note : Part → Part) → (noted : ℕ) → noted ≤ 1_024 → noted + noted_of (frame_at fs n) ≡ r.store.noted + noted_of g → Alike (frame_at fs n) g → StoredFrame fs n g gs q → Kept w v 0 (at (frame_at fs n) TAIL) → Kept w v r.store.low 65_536
      → length v ≡ length w → at (frame_at fs n) TAIL ≤ at g END → at g END ≤ r.store.low → kind_ok g.kind g v ≡ true
      → ((s : Subject) → what_of (frame_at fs n).kind g v s ≡ K (what_of (frame_at fs n).kind (frame_at fs n) w s))
      → part_of (frame_at fs n).kind g v ≡ note (part_of (frame_at fs n).kind (frame_at fs n) w)
      → Holds (noting_to r (at g END) noted) gs bs is v r.mode (start_of r w) (topped K note) r.flags.rooted r.counts.labels
  unfolding topped
  renoted {gs} {v} {g} {q} K note noted nf ns a st k kl lv up lt ok what part =
      let t = top_frame_lem x n d in
      let f : Frame = frame_at fs n in
      let u : Rising f = rising f t.up in
      let z = t.ends in
      let l = t.least in
      let y = x.deep in
      let room : n * FRAME + FRAME ≤ length fs = omega (arith, x.frame_words) in
      let wr = frame_wrote st room a.places a.marks in
      let kf : Kept fs gs 0 (n * FRAME) = kept_before wr in
      let kb : Kept w v 0 (at f NAME) = kept_less k (omega arith) (omega arith) in
      let sound : Sound gs bs v g n (at g END) r.counts.outer =
      record {
        ends = refl;
        up = rises_up g (alike_up a u up);
        parts = alike_parts a ∙ t.parts;
        least = omega (arith, a.least);
        bound = rw (a.least, a.bindings, a.base) t.bound;
        kind = ok;
        stood = rw a.kind (stands_kept n kf f.kind ∙ t.stood);
      } in
      let o : On fs gs bs bs w v g r.store.base n (at f NAME) (first f) (at g END) r.counts.outer =
      record {
        rest = under x n d;
        frames = kf;
        there = load_store st room a.places a.marks;
        bindings = kept_all;
        bytes = kb;
        starts = a.name;
        firsts = a.least;
        sound = sound;
      } in
      let h = changed x n d o kl st.same lv lt noted nf ns in
      let s : subject_below gs v n ≡ subject_below fs w n = below_kept bs r.store.base n (at f NAME) (first f) kf kb (under x n d) in
      let b : bindings_of bs v (first f) (r.counts.outer - first f) ≡ bindings_of bs w (first f) (r.counts.outer - first f) =
      bindings_kept (kept_all {w = bs} {lo = 0} {hi = r.counts.outer * 3}) k (first f) (r.counts.outer - first f) (at f BINDINGS) (at f BASE) (omega arith) (omega arith) (omega arith) (omega arith) t.bound in
      record {
        valid = h.valid;
        chosen = refl;
        base = h.base;
        elements = h.elements ∙ rw (s, b, alike_element a u k K note (bindings_of bs w (first f) (r.counts.outer - first f)) (subject_below fs w n) (what (subject_below fs w n)) part);
        root = refl;
        count = refl;
      }

  -- another tail, of an element that has noted as much as before
  pub retailed : {gs v : List ℕ} {g : Frame} {q : Bool} (K : What → What) (note : Part → Part) → noted_of g ≡ noted_of (frame_at fs n) → Alike (frame_at fs n) g → StoredFrame fs n g gs q
      → Kept w v 0 (at (frame_at fs n) TAIL) → Kept w v r.store.low 65_536
      → length v ≡ length w → at (frame_at fs n) TAIL ≤ at g END → at g END ≤ r.store.low → kind_ok g.kind g v ≡ true
      → ((s : Subject) → what_of (frame_at fs n).kind g v s ≡ K (what_of (frame_at fs n).kind (frame_at fs n) w s))
      → part_of (frame_at fs n).kind g v ≡ note (part_of (frame_at fs n).kind (frame_at fs n) w)
      → Holds (topped_to r (at g END)) gs bs is v r.mode (start_of r w) (topped K note) r.flags.rooted r.counts.labels
  retailed K note e = renoted K note r.store.noted x.few (omega arith)

-- ---- on the definitions' side

pub what_outside : (k : Kind) (f : Frame) (w : List ℕ) (s : Subject) → is_xml_element (what_of k f w s) ≡ false
unfolding what_of is_xml_element
what_outside Rdf f w s = refl
what_outside NodeElt f w s = refl
what_outside PropertyElt f w s = refl
what_outside ParseTypeCollectionPropertyElt f w s = refl
what_outside ParseTypeLiteralPropertyElt f w s = refl
what_outside ParseTypeOtherPropertyElt f w s = refl
what_outside Wrapper f w s = refl

-- nothing is noted
abbrev pub as_it_was : Part → Part
as_it_was p = p

-- a change goes past the elements inside Literal content
change_inners : (h : Value → Value) (is bs w : List ℕ) (n b : ℕ) (es : List Element) → change_value h (inners_of is bs w n b ++ es) ≡ inners_of is bs w n b ++ change_value h es
unfolding change_value inners_of inner_of is_xml_element when◌then◌else◌
change_inners h is bs w zero b es = refl
change_inners h is bs w (suc n) b es = rw (change_inners h is bs w n (Rattle.state_words.specs.Words.row_at is n).more es)

change_element : (h : Value → Value) (f : Frame) (bound : List Binding) (w : List ℕ) (s : Subject) (es : List Element)
    → change_value h (element_of f bound w s ∷ es) ≡ with_kind (on_value h (what_of f.kind f w s)) (element_of f bound w s) ∷ es
unfolding change_value element_of when◌then◌else◌
change_element h f bound w s es = rw (what_outside f.kind f w s)

pub topped_change : {r : Registers} {fs bs is w : List ℕ} (x : Valid r fs bs is w) (n : ℕ) (d : r.counts.depth ≡ suc n) (h : Value → Value)
    → topped x n d (on_value h) as_it_was ≡ change_value h (elements_of r fs bs is w)
unfolding topped elements_of with_kind with_part element_of
topped_change {r} {fs} {bs} {is} {w} x n d h =
    let f : Frame = frame_at fs n in
    sym (
    change_inners h is bs w r.counts.inner r.counts.bindings (frames_of fs bs w r.counts.depth r.counts.outer)
    ∙ rw (top_element x n d, change_element h f (bindings_of bs w (first f) (r.counts.outer - first f)) w (subject_below fs w n) (frames_of fs bs w n (first f)))
    )

-- a kind that stays
pub topped-same : {r : Registers} {fs bs is w : List ℕ} (x : Valid r fs bs is w) (n : ℕ) (d : r.counts.depth ≡ suc n) (K : What → What)
    → K (what_of (frame_at fs n).kind (frame_at fs n) w (subject_below fs w n)) ≡ what_of (frame_at fs n).kind (frame_at fs n) w (subject_below fs w n)
    → topped x n d K as_it_was ≡ elements_of r fs bs is w
unfolding topped elements_of with_kind with_part element_of
topped-same {r} {fs} {bs} {is} {w} x n d K e = rw (e, top_element x n d)

-- one more child, where nothing stands inside Literal content
pub topped_flat : {r : Registers} {fs bs is w : List ℕ} (x : Valid r fs bs is w) (n : ℕ) (d : r.counts.depth ≡ suc n) → r.counts.inner ≡ 0 → (i : Bytes) (h : Part → Part)
    → topped x n d (counted i) h ≡ count_li i h (elements_of r fs bs is w)
unfolding topped elements_of inners_of count_li element_of
topped_flat {r} {fs} {bs} {is} {w} x n d z i h = rw (z, top_element x n d)
