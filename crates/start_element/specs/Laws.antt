-- What `open` and `commit` do to a valid state, said of the document that it means. These are the laws to cite.
use Rattle.std.specs.Prelude.{◌≡◌, Option, unwrap_or, Bool, true, false, ◌⊎◌, ℕ, zero, suc, ◌+◌, ◌-◌, ◌*◌, ◌<◌, ◌≤◌, take, get_or}
use Rattle.std.proofs.Math.Path.{refl, ap}
use Rattle.std.proofs.Common.{sym, ◌∙◌, inl, inr, eq-eqb, ne_eqb, le-leb, lt-ltb}
use Rattle.std.proofs.lemmas.Bool.{false≢true}
use mathlib.Core.List.{List, [], ◌∷◌}
use native.Mathlib.Omega.{arith}
use Rattle.std.proofs.Math.ListN.{length}
use Rattle.spec.specs.Bytes.{Bytes, when◌then◌else◌, size_of, total}
use Rattle.spec.specs.Limits as L
use Rattle.spec.specs.Namespaces.{declared}
use Rattle.spec.specs.NTriples.{Subject, named}
use Rattle.spec.specs.Document.{Kind as What, rdf_rdf, wrapper, node_element, property_element, xml_element, Part, Frame as Element, with_kind, with_part, kind_bytes, binding_bytes, frame_bytes, held_bytes}
use Rattle.spec.specs.Productions.{is_li}
use Rattle.spec.specs.Opening.{counted, count_li}
use Rattle.copy.specs.Copy.{part, Put, Wrote, put-fits, wrote_part}
use Rattle.state_words.specs.Parts.{NAME, BINDINGS, BASE, END, FRAME, TABLE}
use Rattle.state_words.specs.declared.Kind.{Kind}
use Rattle.state_words.specs.declared.Kind.TheVariants.{Rdf, NodeElt, PropertyElt, ParseTypeCollectionPropertyElt, ParseTypeLiteralPropertyElt, ParseTypeOtherPropertyElt, Wrapper}
use Rattle.state_words.specs.declared.Frame.{Frame}
use Rattle.state_words.specs.Words.{pick, frame_at, load_frame_lem}
use Rattle.state_words.specs.Kept.{Kept, kept_all, kept_then, kept_less, kept_before}
use Rattle.state.specs.declared.Registers.{Registers}
use Rattle.state.specs.declared.Flags.{Flags}
use Rattle.state.specs.declared.Counts as state
use Rattle.state.specs.Meaning.{span, what_of, element_of, subject_below, frames_of, inners_of, start_of, elements_of, doc_of}
use Rattle.state.specs.Valid.{is_node, node_below, stands, Rising, Valid}
use Rattle.state.specs.Language.{is_said}
use Rattle.state.specs.Held.{held}
use Rattle.state.specs.Stay.{bindings_kept}
use Rattle.state_stack.specs.Change.{Holds, flat, labelled_to, labelled-holds, top_element}
use Rattle.state_stack.specs.Calls.{frame_of, Pushes, may_push, top_frame, same_kind, CountsLi, may_count}
use Rattle.state_stack.specs.Laws.{Bound, New, push_holds, top_deep, topmost, Numbered, li_may, li-holds, by}
use Rattle.state_stack.specs.Packets.{HasRdf, NotesLi, NotesAbout, SameTop, note_li, note_about, note_part, is_wrapper_lem, had_rdf-holds, note_li-holds, note_about-holds, noted-counted, noted_twice, same_top, same_then, same-rdf, same-li, same-about, same-stands, same-below, li-same}
use Rattle.start_names.specs.Tag.{attributes_of}
use Rattle.start_element.specs.declared.Next.{Next}
use Rattle.start_element.specs.declared.Parts.{Parts}
use Rattle.start_element.specs.Element.{text_of, new_element, Fitting}
use Rattle.start_element.specs.Sizes.{parts_bytes, Measures, measured}
use Rattle.start_element.specs.Rows.{Fits, Entered}
use Rattle.start_element.specs.Places.{Spread, Lays, marks_of, frame_is, lays_laid, lays_parts, lays_kind, lays_nothing, lays_what, lays_part, optional_is}

-- ---- open

-- what was judged: the element may be opened, and there is room for it
pub record Ready (r : Registers) (fs bs w e s : List ℕ) (m k : ℕ) (a : List ℕ) (p : Parts) : Type 0 where
  pub frame_words : length fs ≡ TABLE
  pub binding_words : length bs ≡ 384
  pub store : length w ≡ 65_536
  pub inner : r.counts.inner ≡ 0
  pub depth : r.counts.depth < 64
  pub bindings : r.counts.outer + length (declared (attributes_of e s k)) ≤ 128
  pub few : r.store.noted ≤ 1_024
  pub room : (t : Subject) → r.store.top - r.store.noted + frame_bytes (new_element e s m k a p t) ≤ 49_152
  pub fitting : Fitting p
  pub stood : stands p.kind fs r.counts.depth ≡ true

-- one more element, which is the new one
pub record Opens (r : Registers) (fs bs w e s : List ℕ) (m k : ℕ) (a : List ℕ) (p : Parts) (q : Registers) (gs cs v : List ℕ) : Type 0 where
  pub holds : (is : List ℕ) → Valid r fs bs is w
      → Holds q gs cs is v r.mode (start_of r w) (new_element e s m k a p (subject_below fs w r.counts.depth) ∷ elements_of r fs bs is w) true r.counts.labels
  pub closed : q.flags.closed ≡ r.flags.closed
  pub frames : length gs ≡ length fs
  pub bindings : length cs ≡ length bs
  pub work : length v ≡ length w

-- where the bindings go of an element with name n
abbrev pub behind_name : Registers → Bytes → Next
behind_name r n = record { at = r.store.top + length n; row = r.counts.outer }

may_push_lem : (r : Registers) (fs : List ℕ) → r.counts.inner ≡ 0 → r.counts.depth < 64 → length fs ≡ TABLE → may_push r fs ≡ true
unfolding L.all may_push
may_push_lem r fs z d l = rw (eq-eqb r.counts.inner 0 z, lt-ltb r.counts.depth 64 d, le-leb (r.counts.depth * FRAME + FRAME) (length fs) (omega arith))

module _ {r : Registers} {fs bs w e s : List ℕ} {m k : ℕ} {a : List ℕ} {p : Parts} (y : Ready r fs bs w e s m k a p) where
  sum : r.store.top + (length (part e 0 m) + total binding_bytes (declared (attributes_of e s k)) + parts_bytes p e a) ≤ 50_176
  sum = omega (arith, (measured e s m k a p y.fitting refl refl refl).bytes (named []), y.room (named []), y.few)

  -- n is the element's name
  module _ {n : Bytes} (i : n ≡ part e 0 m) where
    pub name-room : r.store.top + length n ≤ 50_176
    name-room = omega (arith, sum, ap length i)

    module _ {u : List ℕ} {t : Bool} (g : Put w r.store.top n u t) where
      pub bind_room : Fits u bs (behind_name r n) (total binding_bytes (declared (attributes_of e s k))) (length (declared (attributes_of e s k)))
      bind_room =
          record {
            store = omega (arith, g.same, y.store);
            room = omega (arith, g.same, y.store, sum, ap length i);
            words = omega (arith, y.binding_words, y.bindings);
          }

      name_wrote : Wrote w u r.store.top (r.store.top + length n) n
      name_wrote = put-fits g (omega (arith, y.store, name-room))

      module _ {x cs : List ℕ} {q : Next} (h : Entered u bs x cs (behind_name r n) q (declared (attributes_of e s k))) where
        pub lay_room : Spread x e a p r.store.top (r.store.top + length n) q.at
        lay_room =
            record {
              store = omega (arith, h.same_bytes, g.same, y.store);
              first = omega arith;
              second = omega (arith, h.ends);
              room = omega (arith, h.same_bytes, g.same, y.store, h.ends, sum, ap length i);
            }

        module _ {v pl : List ℕ} (l : Lays x v e a p r.store.top (r.store.top + length n) q.at pl) where
          above : Kept x v 0 q.at
          above = rw l.base_at at (kept_before l.wrote)

          name_is : span v (get_or pl NAME 0) (get_or pl BINDINGS 0) ≡ take m e
          unfolding span part
          name_is =
              let d : r.store.top + length n - r.store.top ≡ length n = omega arith in
              let j : part v r.store.top (length n) ≡ part x r.store.top (length n) = above.parts r.store.top (length n) (omega arith) (omega (arith, h.ends)) in
              let o : part x r.store.top (length n) ≡ part u r.store.top (length n) = h.before.parts r.store.top (length n) (omega arith) (omega arith) in
              ap (λ (z : ℕ). span v z (get_or pl BINDINGS 0)) l.name_at
              ∙ (ap (span v r.store.top) l.bound_at ∙ (ap (part v r.store.top) d ∙ (j ∙ (o ∙ (wrote_part name_wrote ∙ i)))))

          bound_is : Bound cs v r.counts.outer (q.row - r.counts.outer) (get_or pl BINDINGS 0) (get_or pl BASE 0) (declared (attributes_of e s k))
          bound_is =
              let d : q.row - r.counts.outer ≡ length (declared (attributes_of e s k)) = omega (arith, h.rows) in
              rw (d, l.bound_at, l.base_at)
              (record {
                chain = h.bound.chain;
                are =
                    bindings_kept (kept_all {w = cs} {lo = 0} {hi = (r.counts.outer + length (declared (attributes_of e s k))) * 3}) above
                    r.counts.outer (length (declared (attributes_of e s k))) (r.store.top + length n) q.at (omega arith) (omega arith) (omega arith) (omega arith) h.bound.chain
                    ∙ h.bound.are;
              })

          element_is : (t : Subject) → element_of (frame_is p pl r.counts.outer) (declared (attributes_of e s k)) v t ≡ new_element e s m k a p t
          unfolding element_of new_element
          element_is t =
              let j = lays_laid l r.counts.outer in
              rw (
                name_is,
                j.own_base,
                j.own_tag,
                optional_is e a p.base,
                lays_what l r.counts.outer p.kind y.fitting.lacks t,
                lays_part l r.counts.outer p.kind,
              )

          ends_low : get_or pl END 0 ≤ 50_176
          ends_low =
              omega (arith, l.base_at, l.tag_at, l.main_at, l.id_at, l.type_at, l.tail_at, l.end_at, h.ends, sum, ap length i)

          rising_is : Rising (frame_is p pl r.counts.outer)
          rising_is =
              record {
                name = omega (arith, l.name_at, l.bound_at);
                bindings = omega (arith, l.bound_at, l.base_at, h.ends);
                base = omega (arith, l.tag_at);
                tag = omega (arith, l.main_at);
                main = omega (arith, l.id_at);
                id = omega (arith, l.type_at);
                type = omega (arith, l.tail_at);
                tail = omega (arith, l.end_at);
              }

          new_is : {is : List ℕ} → Valid r fs bs is w → New r fs bs w cs v (frame_is p pl r.counts.outer) q.row (declared (attributes_of e s k))
          new_is x' =
              record {
                places = l.size;
                marks = refl;
                words = h.words;
                bytes =
                    kept_then (kept_before name_wrote)
                    (kept_then (kept_less h.before (omega arith) (omega arith)) (kept_less above (omega arith) (omega (arith, h.ends))));
                same_words = h.same_words;
                same_bytes = l.same ∙ (h.same_bytes ∙ g.same);
                starts = l.name_at;
                ends = omega (arith, ends_low, (flat x' y.inner).low);
                up = rising_is;
                firsts = refl;
                least = omega (arith, h.rows);
                most = omega (arith, h.rows, y.bindings);
                bindings = bound_is;
                parts = lays_parts l r.counts.outer;
                kind = lays_kind l r.counts.outer p.kind y.fitting.lacks;
                stood = y.stood;
                nothing = lays_nothing l r.counts.outer p.kind y.fitting.lacks;
              }

          pub opens : {hs gs : List ℕ} {c : Option Registers} → hs ≡ marks_of p r.counts.outer → Pushes r fs (frame_of p.kind pl hs) q.row c gs
              → Opens r fs bs w e s m k a p (unwrap_or c r) gs cs v
          opens {hs} {gs} {c} j o =
              let o' : Pushes r fs (frame_is p pl r.counts.outer) q.row c gs = rw j at o in
              let ok : may_push r fs ≡ true = may_push_lem r fs y.inner y.depth y.frame_words in
              record {
                holds = λ is x'. rw (← element_is (subject_below fs w r.counts.depth)) (push_holds x' o' (o.answer ∙ ok) (new_is x'));
                closed = ap (λ (z : Registers). z.flags.closed) (o.moved ok);
                frames = o.same;
                bindings = h.same_words;
                work = l.same ∙ (h.same_bytes ∙ g.same);
              }

-- ---- how a caller comes to be ready

top_is : (r : Registers) (fs : List ℕ) → 0 < r.counts.depth → (r.counts.depth - 1) * FRAME + FRAME ≤ length fs → top_frame r fs ≡ frame_at fs (r.counts.depth - 1)
unfolding top_frame
top_is r fs d h = rw (ne_eqb r.counts.depth 0 (λ z. omega arith)) (load_frame_lem fs (r.counts.depth - 1) h)

-- of a valid state, with the size as `size` gives it
pub ready_valid : {r : Registers} {fs bs is w e s : List ℕ} {m k : ℕ} {a : List ℕ} {p : Parts} {n : ℕ} → Valid r fs bs is w → r.counts.inner ≡ 0 → r.counts.depth < 64
    → r.counts.outer + length (declared (attributes_of e s k)) ≤ 128 → Measures e s m k a p n → r.store.top - r.store.noted + n ≤ 49_152 → Fitting p → stands p.kind fs r.counts.depth ≡ true
    → Ready r fs bs w e s m k a p
ready_valid x z d b me ro f st =
    record {
      frame_words = x.frame_words;
      binding_words = x.binding_words;
      store = x.store;
      inner = z;
      depth = d;
      bindings = b;
      few = x.few;
      room = λ t. rw (me.bytes t) ro;
      fitting = f;
      stood = st;
    }

-- rdf:RDF and the wrapper
abbrev pub is_outer : Kind → Bool
is_outer Rdf = true
is_outer NodeElt = false
is_outer PropertyElt = false
is_outer ParseTypeCollectionPropertyElt = false
is_outer ParseTypeLiteralPropertyElt = false
is_outer ParseTypeOtherPropertyElt = false
is_outer Wrapper = true

-- any other element may stand in a node
pub stands_in : (r : Registers) (fs : List ℕ) → (top_frame r fs).kind ≡ NodeElt → r.counts.depth ≤ 64 → length fs ≡ TABLE → (q : Kind) → is_outer q ≡ false → stands q fs r.counts.depth ≡ true
unfolding stands node_below is_node
stands_in r fs h d l = go
  where
    deep : 0 < r.counts.depth
    deep = top_deep r fs (λ i. false≢true (ap is_node (sym i ∙ h)))

    node : node_below fs r.counts.depth ≡ true
    node =
        let e : r.counts.depth ≡ suc (r.counts.depth - 1) = omega (arith, deep) in
        rw e (rw (← top_is r fs deep (omega (arith, deep)), h))

    go : (q : Kind) → is_outer q ≡ false → stands q fs r.counts.depth ≡ true
    go Rdf u = absurd (false≢true (sym u))
    go NodeElt u = refl
    go PropertyElt u = node
    go ParseTypeCollectionPropertyElt u = node
    go ParseTypeLiteralPropertyElt u = node
    go ParseTypeOtherPropertyElt u = node
    go Wrapper u = absurd (false≢true (sym u))

-- an rdf:li counted holds no byte
counted_bytes : (i : Bytes) (q : What) → kind_bytes (counted i q) ≡ kind_bytes q
unfolding counted kind_bytes
counted_bytes i rdf_rdf = refl
counted_bytes i (wrapper b) = refl
counted_bytes i (node_element s li) = refl
counted_bytes i (property_element p v) = refl
counted_bytes i xml_element = refl

count_bytes : (i : Bytes) (h : Part → Part) (es : List Element) → total frame_bytes (count_li i h es) ≡ total frame_bytes es
unfolding count_li total frame_bytes with_kind with_part
count_bytes i h [] = refl
count_bytes i h (f ∷ es) = rw (counted_bytes i f.kind)

-- held bytes, as the element would leave them
pub held_with_lem : {r : Registers} {fs bs is w : List ℕ} → Valid r fs bs is w → r.counts.inner ≡ 0 → (i : Bytes) (h : Part → Part) (f : Element)
    → size_of (start_of r w) + total frame_bytes (f ∷ count_li i h (elements_of r fs bs is w)) ≡ r.store.top - r.store.noted + frame_bytes f
unfolding held_bytes doc_of total
held_with_lem {r} {fs} {bs} {is} {w} x z i h f = omega (arith, held x [], count_bytes i h (elements_of r fs bs is w), (flat x z).low)

-- ---- commit

-- a child of the element on top is counted there: the node has not had its last rdf:li, or it is the wrapper
abbrev pub Counts : Registers → List ℕ → Type 0
Counts r fs = Numbered r fs ⊎ (same_kind (top_frame r fs).kind Wrapper ≡ true)

-- li says whether a child with this name is counted in the element on top
pub record CountedBy (r : Registers) (fs : List ℕ) (i : Bytes) (li : Bool) : Type 0 where
  pub node : same_kind (top_frame r fs).kind NodeElt ≡ true → is_li i ≡ li
  pub wraps : same_kind (top_frame r fs).kind Wrapper ≡ true → li ≡ true

-- what was judged, for an element that is counted in the one around it or not, behind which so many labels are generated
pub record Granted (r : Registers) (fs bs w e s : List ℕ) (m k : ℕ) (a : List ℕ) (p : Parts) (li : Bool) (labels : ℕ) : Type 0 where
  pub ready : Ready r fs bs w e s m k a p
  pub numbered : li ≡ true → Counts r fs
  pub few : labels ≤ 99_999_999
  -- what a packet may have to note
  pub short : r.mode.xmp ≡ true → length (text_of p.main e a) ≤ 1_024
  -- in a valid state, under a name that is counted so
  pub inners : List ℕ
  pub valid : Valid r fs bs inners w
  pub iri : Bytes
  pub counted : CountedBy r fs iri li

-- what a packet remembers of a child: one that is about a, and is an rdf:li that carries xml:lang or not
unfoldable pub noting : Bool → Bool → Bytes → Bool → Part → Part
noting false li a c p = p
noting true li a c p = note_about a (pick li (note_li c p) p)

-- so h notes it in the innermost element
abbrev pub NotedBy : (Part → Part) → (Part → Part) → List Element → Type 0
NotedBy h g es = (f : Element) (es' : List Element) → es ≡ f ∷ es' → h f.part ≡ g f.part

-- one more element, counted and noted in the one around it
pub record Commits (r : Registers) (fs bs w e s : List ℕ) (m k : ℕ) (a : List ℕ) (p : Parts) (li : Bool) (labels : ℕ) (q : Registers) (gs cs v : List ℕ) : Type 0 where
  pub holds : (is : List ℕ) → Valid r fs bs is w → (i : Bytes) → CountedBy r fs i li → (h : Part → Part) → NotedBy h (noting r.mode.xmp li (text_of p.main e a) (is_said p.tag)) (elements_of r fs bs is w)
      → Holds q gs cs is v r.mode (start_of r w) (new_element e s m k a p (subject_below fs w r.counts.depth) ∷ count_li i h (elements_of r fs bs is w)) true labels
  pub closed : q.flags.closed ≡ r.flags.closed
  pub frames : length gs ≡ length fs
  pub bindings : length cs ≡ length bs
  pub work : length v ≡ length w

-- `count_if`: in a node, or in the wrapper
pub record CountsIf (r : Registers) (fs : List ℕ) (li : Bool) (gs : List ℕ) : Type 0 where
  pub node : li ≡ true → may_count r fs ≡ true → CountsLi r fs true gs
  pub wraps : li ≡ true → may_count r fs ≡ false → HasRdf r fs gs
  pub no : li ≡ false → gs ≡ fs
  pub same : length gs ≡ length fs

pub counts_not : {r : Registers} {fs : List ℕ} {li : Bool} → li ≡ false → CountsIf r fs li fs
counts_not n = record { node = λ y. absurd (false≢true (sym n ∙ y)); wraps = λ y. absurd (false≢true (sym n ∙ y)); no = λ _. refl; same = refl }

pub counts-li : {r : Registers} {fs gs : List ℕ} {li b : Bool} → li ≡ true → CountsLi r fs b gs → b ≡ true → CountsIf r fs li gs
counts-li {r} {fs} y c t =
    record {
      node = λ _ m. rw t at c;
      wraps = λ _ m. absurd (false≢true (sym m ∙ (sym c.answer ∙ t)));
      no = λ n. absurd (false≢true (sym n ∙ y));
      same = c.same;
    }

pub counts-rdf : {r : Registers} {fs gs hs : List ℕ} {li b : Bool} → li ≡ true → CountsLi r fs b gs → b ≡ false → HasRdf r gs hs → CountsIf r fs li hs
counts-rdf {r} {fs} {gs} {hs} y c t h =
    let e : gs ≡ fs = c.kept (sym c.answer ∙ t) in
    let h' : HasRdf r fs hs = rw e at h in
    record {
      node = λ _ m. absurd (false≢true (sym t ∙ (c.answer ∙ m)));
      wraps = λ _ m. h';
      no = λ n. absurd (false≢true (sym n ∙ y));
      same = h'.same;
    }

-- a child that is not counted
module _ (i : Bytes) where
  not_counted : (q : Kind) (f : Frame) (w : List ℕ) (s : Subject) → (same_kind q NodeElt ≡ true → is_li i ≡ false) → (same_kind q Wrapper ≡ true → ⊥) → counted i (what_of q f w s) ≡ what_of q f w s
  unfolding counted what_of when◌then◌else◌
  not_counted Rdf f w s n o = refl
  not_counted NodeElt f w s n o = rw (n refl)
  not_counted PropertyElt f w s n o = refl
  not_counted ParseTypeCollectionPropertyElt f w s n o = refl
  not_counted ParseTypeLiteralPropertyElt f w s n o = refl
  not_counted ParseTypeOtherPropertyElt f w s n o = refl
  not_counted Wrapper f w s n o = absurd (o refl)

  stays_on : {r : Registers} {fs bs is w : List ℕ} → Valid r fs bs is w → r.counts.inner ≡ 0 → (n : ℕ) → r.counts.depth ≡ suc n
      → counted i (what_of (frame_at fs n).kind (frame_at fs n) w (subject_below fs w n)) ≡ what_of (frame_at fs n).kind (frame_at fs n) w (subject_below fs w n)
      → count_li i (λ p. p) (elements_of r fs bs is w) ≡ elements_of r fs bs is w
  unfolding elements_of inners_of count_li with_kind with_part element_of
  stays_on x z n d e = rw (z, top_element x n d, e)

  stays_none : (r : Registers) (fs bs is w : List ℕ) → r.counts.inner ≡ 0 → r.counts.depth ≡ 0 → count_li i (λ p. p) (elements_of r fs bs is w) ≡ elements_of r fs bs is w
  unfolding elements_of inners_of frames_of count_li
  stays_none r fs bs is w z d = rw (z, d)

  no_li : {r : Registers} {fs bs is w : List ℕ} → Valid r fs bs is w → r.counts.inner ≡ 0 → (same_kind (top_frame r fs).kind NodeElt ≡ true → is_li i ≡ false)
      → (same_kind (top_frame r fs).kind Wrapper ≡ true → ⊥) → count_li i (λ p. p) (elements_of r fs bs is w) ≡ elements_of r fs bs is w
  no_li {r} {fs} {bs} {is} {w} x z n o = go r.counts.depth refl
    where
      go : (d : ℕ) → r.counts.depth ≡ d → count_li i (λ p. p) (elements_of r fs bs is w) ≡ elements_of r fs bs is w
      go zero e = stays_none r fs bs is w z e
      go (suc m) e =
          let t = topmost x (omega (arith, e)) in
          let j : r.counts.depth - 1 ≡ m = omega (arith, e) in
          let f : top_frame r fs ≡ frame_at fs m = t.frame ∙ ap (frame_at fs) j in
          stays_on x z m e (not_counted (frame_at fs m).kind (frame_at fs m) w (subject_below fs w m) (rw f at n) (rw f at o))

-- the child counted
counted-holds : {r : Registers} {fs bs is w gs : List ℕ} {li : Bool} → Valid r fs bs is w → r.counts.inner ≡ 0 → length fs ≡ TABLE → CountsIf r fs li gs → (li ≡ true → Counts r fs) → (i : Bytes) → CountedBy r fs i li
    → Holds r gs bs is w r.mode (start_of r w) (count_li i (λ p. p) (elements_of r fs bs is w)) r.flags.rooted r.counts.labels
unfolding L.all may_count
counted-holds {r} {fs} {bs} {is} {w} {gs} {li} x z lf c may i k = go li refl
  where
    in_node_lem : li ≡ true → Numbered r fs → Holds r gs bs is w r.mode (start_of r w) (count_li i (λ p. p) (elements_of r fs bs is w)) r.flags.rooted r.counts.labels
    in_node_lem t n =
        let m : may_count r fs ≡ true = li_may r fs n (omega (arith, x.deep)) lf in
        let e : is_li i ≡ true = k.node (rw n.kind) ∙ t in
        li-holds x z (c.node t m) refl i e (λ p. p) (λ p. refl)

    in_wrapper_lem : li ≡ true → same_kind (top_frame r fs).kind Wrapper ≡ true → Holds r gs bs is w r.mode (start_of r w) (count_li i (λ p. p) (elements_of r fs bs is w)) r.flags.rooted r.counts.labels
    in_wrapper_lem t n =
        let m : may_count r fs ≡ false = rw (is_wrapper_lem (top_frame r fs).kind n) in
        had_rdf-holds x z (c.wraps t m) n i

    by-which : li ≡ true → Counts r fs → Holds r gs bs is w r.mode (start_of r w) (count_li i (λ p. p) (elements_of r fs bs is w)) r.flags.rooted r.counts.labels
    by-which t (inl n) = in_node_lem t n
    by-which t (inr n) = in_wrapper_lem t n

    go : (t : Bool) → li ≡ t → Holds r gs bs is w r.mode (start_of r w) (count_li i (λ p. p) (elements_of r fs bs is w)) r.flags.rooted r.counts.labels
    go true t = by-which t (may t)
    go false t =
        let e = c.no t in
        let s = no_li i x z (λ y. k.node y ∙ t) (λ y. false≢true (sym t ∙ k.wraps y)) in
        rw (e, s) (record { valid = x; chosen = refl; base = refl; elements = refl; root = refl; count = refl })

-- `note_li_if`
pub record NotesLiIf (r : Registers) (fs : List ℕ) (li c : Bool) (gs : List ℕ) : Type 0 where
  pub yes : li ≡ true → NotesLi r fs c gs
  pub no : li ≡ false → gs ≡ fs
  pub same : length gs ≡ length fs

pub li_not : {r : Registers} {fs : List ℕ} {li c : Bool} → li ≡ false → NotesLiIf r fs li c fs
li_not n = record { yes = λ y. absurd (false≢true (sym n ∙ y)); no = λ _. refl; same = refl }

pub li_does : {r : Registers} {fs gs : List ℕ} {li c : Bool} → li ≡ true → NotesLi r fs c gs → NotesLiIf r fs li c gs
li_does y p = record { yes = λ _. p; no = λ n. absurd (false≢true (sym n ∙ y)); same = p.same }

-- in a packet: the first rdf:li of an rdf:Alt, then the rdf:about
pub record InPacket (r : Registers) (fs w : List ℕ) (li : Bool) (a : Bytes) (c : Bool) (q : Registers) (gs v : List ℕ) : Type 0 where
  pub mid : List ℕ
  pub li-noted : NotesLiIf r fs li c mid
  pub about : NotesAbout r mid w a q gs v

-- `note_if`; what is noted leaves the lengths, the flags and the counts
pub record NotesIf (r : Registers) (fs w : List ℕ) (li : Bool) (a : Bytes) (c : Bool) (q : Registers) (gs v : List ℕ) : Type 0 where
  pub base : r.mode.xmp ≡ false → (q ≡ r) × (gs ≡ fs) × (v ≡ w)
  pub packet : r.mode.xmp ≡ true → InPacket r fs w li a c q gs v
  pub flags : q.flags ≡ r.flags
  pub counts : q.counts ≡ r.counts
  pub same_words : length gs ≡ length fs
  pub same_bytes : length v ≡ length w

differ : {A : Type 0} {p : Bool} → p ≡ false → p ≡ true → A
differ e f = let z : ◌≡◌ {A = ℕ} 0 1 = cc in absurd (omega arith)

by_profile : {A : Type 0} (p : Bool) → (p ≡ false → A) → (p ≡ true → A) → A
by_profile false f g = f refl
by_profile true f g = g refl

pub notes_nothing : {r : Registers} {fs w : List ℕ} {li : Bool} {a : Bytes} {c : Bool} → r.mode.xmp ≡ false → NotesIf r fs w li a c r fs w
notes_nothing e = record { base = λ _. (refl, refl, refl); packet = λ f. differ e f; flags = refl; counts = refl; same_words = refl; same_bytes = refl }

pub notes_child : {r q : Registers} {fs mid gs w v : List ℕ} {li : Bool} {a : Bytes} {c : Bool} → r.mode.xmp ≡ true → NotesLiIf r fs li c mid → NotesAbout r mid w a q gs v → NotesIf r fs w li a c q gs v
notes_child {mid = mid} e l b =
    record {
      base = λ f. differ f e;
      packet = λ _. record { mid = mid; li-noted = l; about = b };
      flags = b.flags;
      counts = b.counts;
      same_words = b.same_words ∙ l.same;
      same_bytes = b.same_bytes;
    }

note_none : (li : Bool) (a : Bytes) (c : Bool) (es : List Element) → note_part (noting false li a c) es ≡ es
unfolding note_part noting with_part
note_none li a c [] = refl
note_none li a c (f ∷ es) = refl

note_li_lem : (a : Bytes) (c : Bool) (es : List Element) → note_part (noting true true a c) es ≡ note_part (note_about a) (note_part (note_li c) es)
unfolding noting
note_li_lem a c es = sym (noted_twice (note_about a) (note_li c) es)

note_other : (a : Bytes) (c : Bool) (es : List Element) → note_part (noting true false a c) es ≡ note_part (note_about a) es
unfolding noting
note_other a c es = refl

module _ {r : Registers} {fs bs is w : List ℕ} (x : Valid r fs bs is w) (z : r.counts.inner ≡ 0) {a : Bytes} {li c : Bool} {q : Registers} {gs v : List ℕ} where
  packet_holds : r.store.top + length a ≤ r.store.low → length a ≤ 1_024 → InPacket r fs w li a c q gs v
      → Holds q gs bs is v r.mode (start_of r w) (note_part (noting true li a c) (elements_of r fs bs is w)) r.flags.rooted r.counts.labels
  packet_holds room short n = go li refl
    where
      go : (t : Bool) → li ≡ t → Holds q gs bs is v r.mode (start_of r w) (note_part (noting true li a c) (elements_of r fs bs is w)) r.flags.rooted r.counts.labels
      go true t =
          let h = note_li-holds x z (n.li-noted.yes t) in
          rw (t, note_li_lem a c (elements_of r fs bs is w), ← h.elements) (note_about-holds h.valid n.about room z short)
      go false t = rw (t, note_other a c (elements_of r fs bs is w)) (note_about-holds x (rw (n.li-noted.no t) at n.about) room z short)

  -- the child noted
  noted-holds : (r.mode.xmp ≡ true → r.store.top + length a ≤ r.store.low) → (r.mode.xmp ≡ true → length a ≤ 1_024) → NotesIf r fs w li a c q gs v
      → Holds q gs bs is v r.mode (start_of r w) (note_part (noting r.mode.xmp li a c) (elements_of r fs bs is w)) r.flags.rooted r.counts.labels
  noted-holds room short n =
      by_profile r.mode.xmp
      (λ e.
      let k = n.base e in
      let s : note_part (noting r.mode.xmp li a c) (elements_of r fs bs is w) ≡ elements_of r fs bs is w =
      ap (λ (p : Bool). note_part (noting p li a c) (elements_of r fs bs is w)) e ∙ note_none li a c (elements_of r fs bs is w) in
      rw (s, k.0, k.1, k.2) (record { valid = x; chosen = refl; base = refl; elements = refl; root = refl; count = refl }))
      (λ e.
      let s = ap (λ (p : Bool). note_part (noting p li a c) (elements_of r fs bs is w)) e in
      rw s (packet_holds (room e) (short e) (n.packet e)))

  packet_same : r.store.top + length a ≤ r.store.low → InPacket r fs w li a c q gs v → SameTop r fs w gs v
  packet_same room n = go li refl
    where
      go : (t : Bool) → li ≡ t → SameTop r fs w gs v
      go true t = let k = n.li-noted.yes t in same_then (same-li x k) (same-about (note_li-holds x z k).valid n.about room)
      go false t = same-about x (rw (n.li-noted.no t) at n.about) room

  -- noting leaves the kind and the subject of the element on top
  noted-same : (r.mode.xmp ≡ true → r.store.top + length a ≤ r.store.low) → NotesIf r fs w li a c q gs v → SameTop r fs w gs v
  noted-same room n = by_profile r.mode.xmp (λ e. let k = n.base e in rw (k.1, k.2) (same_top r fs w)) (λ e. packet_same (room e) (n.packet e))

-- and so does counting
counted_same : {r : Registers} {fs bs is w gs : List ℕ} {li : Bool} → Valid r fs bs is w → CountsIf r fs li gs → SameTop r fs w gs w
counted_same {r} {fs} {bs} {is} {w} {gs} {li} x c = go li refl
  where
    go : (t : Bool) → li ≡ t → SameTop r fs w gs w
    go true t = by (may_count r fs) (λ m. li-same (c.node t m) refl w) (λ m. same-rdf x (c.wraps t m))
    go false t = rw (c.no t) (same_top r fs w)

-- the same noted otherwise
noted_as : (i : Bytes) (h g : Part → Part) (es : List Element) → NotedBy h g es → count_li i g es ≡ count_li i h es
unfolding count_li
noted_as i h g [] n = refl
noted_as i h g (f ∷ es) n = rw (n f es refl)

module _ {r : Registers} {fs bs w e s : List ℕ} {m k : ℕ} {a : List ℕ} {p : Parts} {li : Bool} {labels : ℕ} (y : Granted r fs bs w e s m k a p li labels)
    {fs1 : List ℕ} (c : CountsIf r fs li fs1) {r2 : Registers} {fs2 w2 : List ℕ} (n : NotesIf r fs1 w li (text_of p.main e a) (is_said p.tag) r2 fs2 w2) where
  -- there is room for what is noted
  room-left : r.mode.xmp ≡ true → r.store.top + length (text_of p.main e a) ≤ r.store.low
  room-left h = omega (arith, y.ready.room (named []), y.ready.few, y.short h, (flat y.valid y.ready.inner).low)

  module _ {is : List ℕ} (x : Valid r fs bs is w) (i : Bytes) (j : CountedBy r fs i li) where
    -- counted and noted
    readied : Holds r2 fs2 bs is w2 r.mode (start_of r w) (count_li i (noting r.mode.xmp li (text_of p.main e a) (is_said p.tag)) (elements_of r fs bs is w)) r.flags.rooted r.counts.labels
    readied =
        let h = counted-holds x y.ready.inner y.ready.frame_words c y.numbered i j in
        let g = noted-holds h.valid y.ready.inner room-left y.short n in
        rw (← noted-counted i (noting r.mode.xmp li (text_of p.main e a) (is_said p.tag)) (λ q. q) (elements_of r fs bs is w), ← h.elements) g

  same-around : {is : List ℕ} → Valid r fs bs is w → SameTop r fs w fs2 w2
  same-around x =
      let h = counted-holds x y.ready.inner y.ready.frame_words c y.numbered y.iri y.counted in
      same_then (counted_same x c) (noted-same h.valid y.ready.inner room-left n)

  depth_is : r2.counts.depth ≡ r.counts.depth
  depth_is = ap (λ (z : state.Counts). z.depth) n.counts

  -- what is held with any element is as before
  room_is : (f : Element) → r2.store.top - r2.store.noted + frame_bytes f ≡ r.store.top - r.store.noted + frame_bytes f
  unfolding total
  room_is f =
      let x = y.valid in
      let g = readied x y.iri y.counted in
      let z : r2.counts.inner ≡ 0 = ap (λ (c : state.Counts). c.inner) n.counts ∙ y.ready.inner in
      let here = held_with_lem g.valid z [] (λ q. q) f in
      let there = held_with_lem x y.ready.inner y.iri (noting r.mode.xmp li (text_of p.main e a) (is_said p.tag)) f in
      let b = ap size_of g.base in
      let es = ap (total frame_bytes) g.elements in
      let none = count_bytes [] (λ q. q) (elements_of r2 fs2 bs y.inners w2) in
      omega arith

  pub ready_noted : Ready r2 fs2 bs w2 e s m k a p
  ready_noted =
      let g = readied y.valid y.iri y.counted in
      record {
        frame_words = n.same_words ∙ (c.same ∙ y.ready.frame_words);
        binding_words = y.ready.binding_words;
        store = n.same_bytes ∙ y.ready.store;
        inner = ap (λ (z : state.Counts). z.inner) n.counts ∙ y.ready.inner;
        depth = rw depth_is y.ready.depth;
        bindings = rw (ap (λ (z : state.Counts). z.outer) n.counts) y.ready.bindings;
        few = g.valid.few;
        room = λ t. rw (room_is (new_element e s m k a p t)) (y.ready.room t);
        fitting = y.ready.fitting;
        stood = rw depth_is (same-stands (same-around y.valid) p.kind ∙ y.ready.stood);
      }

  module _ {q : Registers} {gs cs v : List ℕ} (o : Opens r2 fs2 bs w2 e s m k a p q gs cs v) where
    opened-holds : (is : List ℕ) → Valid r fs bs is w → (i : Bytes) → CountedBy r fs i li → (h : Part → Part)
        → NotedBy h (noting r.mode.xmp li (text_of p.main e a) (is_said p.tag)) (elements_of r fs bs is w)
        → Holds q gs cs is v r.mode (start_of r w) (new_element e s m k a p (subject_below fs w r.counts.depth) ∷ count_li i h (elements_of r fs bs is w)) true r.counts.labels
    opened-holds is x i j h nb =
        let g = readied x i j in
        let sb : subject_below fs2 w2 r2.counts.depth ≡ subject_below fs w r.counts.depth = rw depth_is (same-below (same-around x)) in
        rw (← noted_as i h (noting r.mode.xmp li (text_of p.main e a) (is_said p.tag)) (elements_of r fs bs is w) nb, ← g.elements, ← g.base, ← g.chosen, ← g.count, ← sb) (o.holds is g.valid)

    pub commits : {q' : Registers} → q' ≡ labelled_to q labels → Commits r fs bs w e s m k a p li labels q' gs cs v
    commits {q'} e' =
        record {
          holds = λ is x i j h nb. rw e' (labelled-holds (opened-holds is x i j h nb) y.few);
          closed = ap (λ (z : Registers). z.flags.closed) e' ∙ (o.closed ∙ ap (λ (z : Flags). z.closed) n.flags);
          frames = o.frames ∙ (n.same_words ∙ c.same);
          bindings = o.bindings;
          work = o.work ∙ n.same_bytes;
        }
