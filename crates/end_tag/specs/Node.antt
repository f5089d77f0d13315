-- A node that closes: how many bytes are held behind it, and that nothing stands in its way.
use Rattle.std.specs.Prelude.{ℕ, zero, suc, ◌+◌, ◌-◌, ◌*◌, ◌/◌, ◌<◌, ◌≤◌, ◌≡◌, Bool, false, eqb, leb}
use Rattle.std.proofs.Math.Path.{refl, sym, ap}
use Rattle.std.proofs.Common.{◌∙◌, arith}
use Rattle.std.proofs.Math.Bool.{true}
use Rattle.std.proofs.lemmas.Bool.{false≢true}
use mathlib.Core.List.{List, [], ◌∷◌}
use Rattle.std.proofs.Math.ListN.{length}
use borrow.Author.Tests.{eqb-true, eqb-false, eq-eqb, le-leb, lt-leb, lt-ltb}
use Rattle.spec.specs.Limits as L
use Rattle.spec.specs.Limits.{most_held_bytes}
use Rattle.spec.specs.Bytes.{Bytes, when◌then◌else◌, total}
use Rattle.spec.specs.Numbers.{good}
use Rattle.spec.specs.declared.Refusal.TheVariants.{OverLimit}
use Rattle.spec.specs.NTriples.{Subject, named, blank, write}
use Rattle.spec.specs.Document.{no_object, node_object, text_object, Value, Kind as What, Frame as Element, Doc, with_frames, with_kind, on_value, is_xml_element, change_value, subject_bytes, object_bytes, value_bytes, kind_bytes, frame_bytes, held_bytes, fits}
use Rattle.spec.specs.EndTag.{takes_node, end_kind}
use Rattle.copy.specs.Copy.{part, length_part, wrote_none}
use Rattle.state_words.specs.Parts.{NAME, MAIN, ID, TAIL, END, BLANK, PENDING, FRAME}
use Rattle.state_words.specs.declared.Kind.{Kind}
use Rattle.state_words.specs.declared.Kind.TheVariants.{Rdf, NodeElt, PropertyElt, ParseTypeCollectionPropertyElt, ParseTypeLiteralPropertyElt, ParseTypeOtherPropertyElt, Wrapper}
use Rattle.state_words.specs.declared.Frame.{Frame}
use Rattle.state_words.specs.Words.{pick, load_frame, load_frame_lem}
use Rattle.state.specs.declared.Registers.{Registers}
use Rattle.state.specs.Meaning.{at, has, count, first, span, node_of, object_of, child_from, bindings_of, subject_of, what_of, element_of, subject_below, frames_of, elements_of, doc_of}
use Rattle.state.specs.Valid.{noted_by, noted_of, empty_or, children_ok, kind_ok, Rising, rising}
use Rattle.state.specs.Stay.{last-child, collected}
use Rattle.state.specs.Tests.{positive}
use Rattle.state.specs.Held.{room, held}
use Rattle.state_stack.specs.Change.{holds-doc, flat, top_element, top_frame_lem}
use Rattle.state_stack.specs.Calls.{some_stays, top_frame, same_kind, Pops}
use Rattle.state_stack.specs.Top.{node_quiet, what_outside}
use Rattle.state_stack.specs.Laws.{topmost, top_deep, by, is_property_lem}
use Rattle.state_stack.specs.Take as N
use Rattle.state_stack.specs.Take.{may_take, may_child, may_take_node, may_close, main_size, ClosesNode}
use Rattle.state_stack.specs.NodeLaws.{closed_node, closed-node, close-holds}
use Rattle.event.specs.Result.{IdsFit, fits-held}
use Rattle.end_tag.specs.Ends.{Closing, Ends, without, ended, top_first, refused-held, accepted}
use Rattle.end_tag.specs.Kinds.{pops, top_stands, pop_is, pop_doc, pop_depth}
use Rattle.std.specs.Prelude.{Option, is_some, unwrap_or, Ok, Err}

-- ---- sizes

size-node : (h : ℕ) (s : Bytes) → subject_bytes (node_of h s) ≡ length s
unfolding node_of subject_bytes
size-node h s = go (eqb h 0)
  where
    go : (t : Bool) → subject_bytes (pick t (named s) (blank s)) ≡ length s
    go true = refl
    go false = refl

size-subject : (f : Frame) (w : List ℕ) → at f MAIN ≤ at f ID → at f ID ≤ length w → subject_bytes (subject_of f w) ≡ main_size f
unfolding subject_of span
size-subject f w a b = size-node (has f BLANK) (part w (at f MAIN) (main_size f)) ∙ length_part w (at f MAIN) (main_size f) (omega arith)

size-object : (w : List ℕ) (h a b : ℕ) → empty_or h a b ≡ true → a ≤ b → b ≤ length w → a + object_bytes (object_of h (span w a b)) ≡ b
unfolding object_of empty_or object_bytes subject_bytes span
size-object w h a b e u l = go (eqb h 0) (eqb h 1) (eqb h 2) e
  where
    go : (t x y : Bool) → pick t (eqb a b) true ≡ true
        → a + object_bytes (pick t no_object (pick x (node_object (named (part w a (b - a)))) (pick y (node_object (blank (part w a (b - a)))) (text_object (part w a (b - a)))))) ≡ b
    go true x y z = omega (arith, eqb-true a b z)
    go false true y z = omega (arith, length_part w a (b - a) (omega arith))
    go false false true z = omega (arith, length_part w a (b - a) (omega arith))
    go false false false z = omega (arith, length_part w a (b - a) (omega arith))

-- a Collection has at most a child for every four bytes
few-children : (w : List ℕ) (from n e : ℕ) → children_ok w from n e ≡ true → from + 4 * n ≤ e
unfolding children_ok
few-children w from zero e h = omega (arith, eqb-true from e h)
few-children w from (suc n) e h =
    let l = last-child w from n e h in
    omega (arith, l.fits, few-children w from n (child_from w e) l.rest)

-- another kind of an element
kind_bytes_lem : (k : What) (e : Element) → frame_bytes (with_kind k e) + kind_bytes e.kind ≡ frame_bytes e + kind_bytes k
unfolding frame_bytes with_kind
kind_bytes_lem k e = omega arith

-- another value of the first element
held_changed : (g : Value → Value) (e : Element) (es : List Element) (d : Doc) → is_xml_element e.kind ≡ false
    → held_bytes (with_frames (change_value g (e ∷ es)) d) + kind_bytes e.kind ≡ held_bytes (with_frames (e ∷ es) d) + kind_bytes (on_value g e.kind)
unfolding held_bytes with_frames total change_value when◌then◌else◌
held_changed g e es d x = rw x (omega (arith, kind_bytes_lem (on_value g e.kind) e))

-- what is neither a default property nor a Collection takes nothing
none_bytes : (k : Kind) (f : Frame) (w : List ℕ) (s u : Subject) → same_kind k PropertyElt ≡ false → same_kind k ParseTypeCollectionPropertyElt ≡ false
    → kind_bytes (on_value (takes_node s) (what_of k f w u)) ≡ kind_bytes (what_of k f w u)
unfolding on_value takes_node what_of
none_bytes Rdf f w s u p q = refl
none_bytes NodeElt f w s u p q = refl
none_bytes PropertyElt f w s u p q = absurd (false≢true (sym p))
none_bytes ParseTypeCollectionPropertyElt f w s u p q = absurd (false≢true (sym q))
none_bytes ParseTypeLiteralPropertyElt f w s u p q = refl
none_bytes ParseTypeOtherPropertyElt f w s u p q = refl
none_bytes Wrapper f w s u p q = refl

is_collection : (k : Kind) → same_kind k ParseTypeCollectionPropertyElt ≡ true → k ≡ ParseTypeCollectionPropertyElt
is_collection Rdf e = absurd (false≢true e)
is_collection NodeElt e = absurd (false≢true e)
is_collection PropertyElt e = absurd (false≢true e)
is_collection ParseTypeCollectionPropertyElt e = refl
is_collection ParseTypeLiteralPropertyElt e = absurd (false≢true e)
is_collection ParseTypeOtherPropertyElt e = absurd (false≢true e)
is_collection Wrapper e = absurd (false≢true e)

-- ---- held bytes behind a node

-- n bytes are stored up to the top once the node on top has closed: held ones, and what is noted
pub record StoredAfter (r : Registers) (fs : List ℕ) (n : ℕ) : Type 0 where
  pub holds : (bs is w : List ℕ) → Closing NodeElt r fs bs is w → (ids : List Bytes)
      → held_bytes (with_frames (closed_node (elements_of r fs bs is w)) (doc_of r fs bs is w ids)) + r.store.noted ≡ n

module _ {r : Registers} {fs bs is w : List ℕ} (c : Closing NodeElt r fs bs is w) where
  node-closed : closed_node (elements_of r fs bs is w) ≡ change_value (takes_node (subject_of (top_frame r fs) w)) (frames_of fs bs w (r.counts.depth - 1) (first (top_frame r fs)))
  unfolding element_of what_of
  node-closed =
      ap closed_node (top_first c)
      ∙ closed-node _ _ (subject_of (top_frame r fs) w) (count (top_frame r fs)) (ap (λ (k : Kind). what_of k (top_frame r fs) w (subject_below fs w (r.counts.depth - 1))) c.kind)

  node-ends : (ids : List Bytes) → ended NodeElt r fs bs is w ids ≡ good ([], with_frames (closed_node (elements_of r fs bs is w)) (doc_of r fs bs is w ids))
  unfolding what_of end_kind without with_frames
  node-ends ids = rw node-closed

  -- the node's own places
  record Placed : Type 0 where
    start : at (top_frame r fs) NAME ≤ at (top_frame r fs) MAIN
    main : at (top_frame r fs) MAIN ≤ at (top_frame r fs) ID
    end : at (top_frame r fs) ID ≤ r.store.top
    store : r.store.top ≤ 65_536

  placed : Placed
  placed =
      let t = top_stands c in
      let u : Rising (top_frame r fs) = rising (top_frame r fs) t.up in
      let l = (flat c.valid c.flat).low in
      record {
        start = omega arith;
        main = u.main;
        end = omega (arith, t.ends);
        store = omega (arith, l, c.valid.apart);
      }

  module _ {u : Registers} (e : u ≡ N.without r fs) where
    popped_top : (u.store.top ≡ at (top_frame r fs) NAME) × (u.counts.outer ≡ first (top_frame r fs))
    popped_top =
        let k = topmost c.valid c.deep in
        let f : load_frame fs (r.counts.depth - 1) ≡ top_frame r fs = load_frame_lem fs (r.counts.depth - 1) k.room ∙ sym k.frame in
        (ap (λ (x : Registers). x.store.top) e ∙ ap (λ (g : Frame). at g NAME) f, ap (λ (x : Registers). x.counts.outer) e ∙ ap (λ (g : Frame). first g) f)

    popped_flat : u.store.low ≡ 65_536
    popped_flat = (flat (pop_is c e).valid (ap (λ (y : Registers). y.counts.inner) e ∙ c.flat)).low

    -- a node has noted nothing
    popped_noted : u.store.noted ≡ r.store.noted
    popped_noted =
        let k = topmost c.valid c.deep in
        let f : load_frame fs (r.counts.depth - 1) ≡ top_frame r fs = load_frame_lem fs (r.counts.depth - 1) k.room ∙ sym k.frame in
        let z : noted_of (top_frame r fs) ≡ 0 = ap (λ (q : Kind). noted_by q (top_frame r fs)) c.kind ∙ node_quiet (top_frame r fs) in
        ap (λ (x : Registers). x.store.noted) e ∙ rw (f, z) (omega arith)

    popped_held : (ids : List Bytes) → held_bytes (with_frames (frames_of fs bs w (r.counts.depth - 1) (first (top_frame r fs))) (doc_of r fs bs is w ids)) + r.store.noted ≡ u.store.top
    unfolding without
    popped_held ids = omega (arith, ap held_bytes (pop_doc c e ids), held (pop_is c e).valid ids, popped_flat, popped_noted, (room (pop_is c e).valid).noted)

    popped_frames : frames_of fs bs w (r.counts.depth - 1) (first (top_frame r fs)) ≡ frames_of fs bs w u.counts.depth u.counts.outer
    popped_frames = rw (pop_depth c e, popped_top.1)

    -- the element around it
    record Around : Type 0 where
      ends : at (top_frame u fs) END ≡ u.store.top
      up : Rising (top_frame u fs)
      kind : kind_ok (top_frame u fs).kind (top_frame u fs) w ≡ true

    around_is : 0 < u.counts.depth → Around
    around_is d =
        let x = (pop_is c e).valid in
        let k = topmost x d in
        let t = rw (← k.frame) at (top_frame_lem x (u.counts.depth - 1) k.depth) in
        record { ends = t.ends; up = rising (top_frame u fs) t.up; kind = t.kind }

    held_by_lem : 0 < u.counts.depth → (ids : List Bytes)
        → held_bytes (with_frames (closed_node (elements_of r fs bs is w)) (doc_of r fs bs is w ids)) + r.store.noted + kind_bytes (what_of (top_frame u fs).kind (top_frame u fs) w (subject_below fs w (u.counts.depth - 1)))
        ≡ u.store.top + kind_bytes (on_value (takes_node (subject_of (top_frame r fs) w)) (what_of (top_frame u fs).kind (top_frame u fs) w (subject_below fs w (u.counts.depth - 1))))
    unfolding element_of
    held_by_lem d ids =
        let x = (pop_is c e).valid in
        let k = topmost x d in
        let es = popped_frames ∙ (rw (← k.frame) at (top_element x (u.counts.depth - 1) k.depth)) in
        let q = held_changed (takes_node (subject_of (top_frame r fs) w))
        (element_of (top_frame u fs) (bindings_of bs w (first (top_frame u fs)) (u.counts.outer - first (top_frame u fs))) w (subject_below fs w (u.counts.depth - 1)))
        (frames_of fs bs w (u.counts.depth - 1) (first (top_frame u fs))) (doc_of r fs bs is w ids) (what_outside (top_frame u fs).kind (top_frame u fs) w (subject_below fs w (u.counts.depth - 1))) in
        let q' = rw (← es) at q in
        rw node-closed (omega (arith, q', popped_held ids))

    -- ---- by the kind of the element around it

    subject-size : subject_bytes (subject_of (top_frame r fs) w) ≡ main_size (top_frame r fs)
    subject-size = let p = placed in size-subject (top_frame r fs) w p.main (omega (arith, p.end, p.store, c.valid.store))

    module _ (o : same_kind (top_frame u fs).kind PropertyElt ≡ true) where
      in_property : 0 < u.counts.depth
      in_property = top_deep u fs (λ i. false≢true (ap (λ (g : Kind). same_kind g PropertyElt) (sym i) ∙ o))

      held-object : (ids : List Bytes) → held_bytes (with_frames (closed_node (elements_of r fs bs is w)) (doc_of r fs bs is w ids)) + r.store.noted ≡ at (top_frame u fs) TAIL + main_size (top_frame r fs)
      unfolding what_of on_value takes_node kind_bytes value_bytes object_bytes kind_ok
      held-object ids =
          let k : (top_frame u fs).kind ≡ PropertyElt = is_property_lem (top_frame u fs).kind o in
          let a = around_is in_property in
          let v = a.up in
          let p = placed in
          let n = popped_top.0 in
          let h : kind_ok PropertyElt (top_frame u fs) w ≡ true = sym (ap (λ (g : Kind). kind_ok g (top_frame u fs) w) k) ∙ a.kind in
          let b = size-object w (has (top_frame u fs) PENDING) (at (top_frame u fs) TAIL) (at (top_frame u fs) END) h v.tail (omega (arith, a.ends, p.end, p.store, c.valid.store)) in
          let q = rw k at (held_by_lem in_property ids) in
          omega (arith, q, b, a.ends, subject-size, v.tail)

    module _ (y : same_kind (top_frame u fs).kind PropertyElt ≡ false) where
      module _ (o : same_kind (top_frame u fs).kind ParseTypeCollectionPropertyElt ≡ true) where
        in_collection_lem : 0 < u.counts.depth
        in_collection_lem = top_deep u fs (λ i. false≢true (ap (λ (g : Kind). same_kind g ParseTypeCollectionPropertyElt) (sym i) ∙ o))

        held-child : (ids : List Bytes) → held_bytes (with_frames (closed_node (elements_of r fs bs is w)) (doc_of r fs bs is w ids)) + r.store.noted ≡ at (top_frame u fs) END + main_size (top_frame r fs) + 4
        unfolding what_of on_value takes_node kind_bytes value_bytes total
        held-child ids =
            let k : (top_frame u fs).kind ≡ ParseTypeCollectionPropertyElt = is_collection (top_frame u fs).kind o in
            let a = around_is in_collection_lem in
            let q = rw k at (held_by_lem in_collection_lem ids) in
            omega (arith, q, a.ends, subject-size)

      held_none : same_kind (top_frame u fs).kind ParseTypeCollectionPropertyElt ≡ false
          → (ids : List Bytes) → held_bytes (with_frames (closed_node (elements_of r fs bs is w)) (doc_of r fs bs is w ids)) + r.store.noted ≡ u.store.top
      unfolding change_value frames_of
      held_none o ids =
          by (eqb u.counts.depth 0)
          (λ z.
          let n : frames_of fs bs w (r.counts.depth - 1) (first (top_frame r fs)) ≡ [] = popped_frames ∙ rw (eqb-true u.counts.depth 0 z) in
          rw (node-closed, n) (rw n at (popped_held ids)))
          (λ z.
          let d : 0 < u.counts.depth = positive u.counts.depth (eqb-false u.counts.depth 0 z) in
          omega (arith, held_by_lem d ids, none_bytes (top_frame u fs).kind (top_frame u fs) w (subject_of (top_frame r fs) w) (subject_below fs w (u.counts.depth - 1)) y o))

-- ---- the law of `stored_after`

module _ {r behind : Registers} {fs : List ℕ} {p : Option Registers} {f n : Frame} {size : ℕ} (o : Pops r fs p) (j : behind ≡ unwrap_or p r) (x : n ≡ top_frame r fs) (s : size ≡ main_size n) (y : f ≡ top_frame behind fs) where
  pub after_object : {a : ℕ} → same_kind f.kind PropertyElt ≡ true → a ≡ at f TAIL → StoredAfter r fs (a + size)
  after_object k z =
      record { holds = λ bs is w c ids. rw (z, s, x, y) (held-object c (j ∙ o.moved (pops c)) (rw y at k) ids) }

  module _ (q : same_kind f.kind PropertyElt ≡ false) where
    pub after_child : {a : ℕ} → same_kind f.kind ParseTypeCollectionPropertyElt ≡ true → a ≡ at f END → StoredAfter r fs (a + size + 4)
    after_child k z =
        record { holds = λ bs is w c ids. rw (z, s, x, y) (held-child c (j ∙ o.moved (pops c)) (rw y at q) (rw y at k) ids) }

    pub after_none : same_kind f.kind ParseTypeCollectionPropertyElt ≡ false → StoredAfter r fs behind.store.top
    after_none k = record { holds = λ bs is w c ids. held_none c (j ∙ o.moved (pops c)) (rw y at q) (rw y at k) ids }

-- ---- nothing stands in its way

may_take_lem : (r : Registers) (words from to len end : ℕ) → to ≤ from → from + len ≤ 65_536 → end ≤ r.store.low → r.store.low ≤ 65_536 → 0 < r.counts.depth → r.counts.depth ≤ words / FRAME
    → may_take r words from to len end ≡ true
unfolding L.all may_take
may_take_lem r words from to len end a b d e f g =
    rw (le-leb to from a, le-leb (from + len) 65_536 b, le-leb end r.store.low d, le-leb r.store.low 65_536 e, lt-ltb 0 r.counts.depth f, le-leb r.counts.depth (words / FRAME) g)

module _ {r : Registers} {fs bs is w : List ℕ} {n : ℕ} (c : Closing NodeElt r fs bs is w) (h : StoredAfter r fs n) (l : n - r.store.noted ≤ 49_152) where
  takes : may_take_node (N.without r fs) (length fs) (top_frame (N.without r fs) fs) (top_frame r fs) ≡ true
  unfolding L.all may_take_node may_child kind_ok
  takes =
      let u : Registers = N.without r fs in
      let pl = placed c in
      let tp = (popped_top c refl).0 in
      let fl = popped_flat c refl in
      let dp : u.counts.depth ≤ length fs / FRAME = omega (arith, c.valid.deep, c.valid.frame_words) in
      by (same_kind (top_frame u fs).kind PropertyElt)
      (λ o.
      let d = in_property c refl o in
      let a = around_is c refl d in
      let v = a.up in
      rw (
        o,
        may_take_lem u (length fs) (at (top_frame r fs) MAIN) (at (top_frame u fs) TAIL) (main_size (top_frame r fs)) (at (top_frame u fs) TAIL + main_size (top_frame r fs))
            (omega (arith, v.tail, a.ends, tp, pl.start)) (omega (arith, pl.main, pl.end, pl.store)) (omega (arith, fl, v.tail, a.ends, tp, pl.start, pl.main, pl.end, pl.store)) (omega (arith, fl)) d dp,
      ))
      (λ y.
      by (same_kind (top_frame u fs).kind ParseTypeCollectionPropertyElt)
      (λ o.
      let d = in_collection_lem c refl y o in
      let a = around_is c refl d in
      let v = a.up in
      let k : (top_frame u fs).kind ≡ ParseTypeCollectionPropertyElt = is_collection (top_frame u fs).kind o in
      let kd : kind_ok ParseTypeCollectionPropertyElt (top_frame u fs) w ≡ true = sym (ap (λ (g : Kind). kind_ok g (top_frame u fs) w) k) ∙ a.kind in
      let few = few-children w (at (top_frame u fs) TAIL) (count (top_frame u fs)) (at (top_frame u fs) END) (collected (top_frame u fs) w kd).children in
      let held = sym (held-child c refl y o []) ∙ h.holds bs is w c [] in
      rw (
        y,
        o,
        may_take_lem u (length fs) (at (top_frame r fs) MAIN) (at (top_frame u fs) END) (main_size (top_frame r fs)) (at (top_frame u fs) END + main_size (top_frame r fs) + 4)
            (omega (arith, a.ends, tp, pl.start)) (omega (arith, pl.main, pl.end, pl.store)) (omega (arith, fl, held, l, c.valid.few)) (omega (arith, fl)) d dp,
        lt-ltb (count (top_frame u fs)) 65_536 (omega (arith, few, a.ends, tp, pl.start, pl.main, pl.end, pl.store)),
      ))
      (λ o. rw (y, o)))

  closes : may_close r fs w ≡ true
  unfolding L.all may_close
  closes =
      let k : same_kind (top_frame r fs).kind NodeElt ≡ true = ap (λ (g : Kind). same_kind g NodeElt) c.kind in
      rw (eq-eqb (length w) 65_536 c.valid.store, k, pops c, takes)

-- the mark stays
closed-mark : {r : Registers} {fs w gs v : List ℕ} {t : Option Registers} → ClosesNode r fs w t gs v → may_close r fs w ≡ true → (unwrap_or t r).flags.closed ≡ r.flags.closed
unfolding L.all
closed-mark {r} {fs} {w} {gs} {v} {t} p m =
    let u : Registers = N.without r fs in
    let f : Frame = top_frame u fs in
    let n : Frame = top_frame r fs in
    let ok : is_some t ≡ true = p.answer ∙ m in
    let k = p.takes m in
    ap (λ (x : Registers). x.flags.closed) (some_stays t r u ok)
    ∙ by (same_kind f.kind PropertyElt)
    (λ o.
    by (may_take u (length fs) (at n MAIN) (at f TAIL) (main_size n) (at f TAIL + main_size n))
    (λ y. ap (λ (x : Registers). x.flags.closed) ((k.object o).takes y).moved)
    (λ y. absurd (false≢true (sym ((k.object o).kept y).ok ∙ ok))))
    (λ z.
    by (same_kind f.kind ParseTypeCollectionPropertyElt)
    (λ o.
    by (may_child u (length fs) f n)
    (λ y. ap (λ (x : Registers). x.flags.closed) ((k.child z o).takes y).moved)
    (λ y. absurd (false≢true (sym ((k.child z o).kept y).ok ∙ ok))))
    (λ o. ap (λ (x : Registers). x.flags.closed) (k.none z o).0))

-- ---- the law of `end_node`

after_fits : {r : Registers} {fs bs is w : List ℕ} {n : ℕ} → Closing NodeElt r fs bs is w → StoredAfter r fs n → (ids : List Bytes) → IdsFit ids
    → fits (with_frames (closed_node (elements_of r fs bs is w)) (doc_of r fs bs is w ids)) ≡ leb (n - r.store.noted) 49_152
unfolding with_frames doc_of most_held_bytes
after_fits {r} {fs} {bs} {is} {w} {n} c h ids i =
    let m : held_bytes (with_frames (closed_node (elements_of r fs bs is w)) (doc_of r fs bs is w ids)) ≡ n - r.store.noted = omega (arith, h.holds bs is w c ids) in
    fits-held (with_frames (closed_node (elements_of r fs bs is w)) (doc_of r fs bs is w ids)) i ∙ rw m

module _ {r : Registers} {fs w out : List ℕ} {n : ℕ} (h : StoredAfter r fs n) where
  pub node_over : 49_152 < n - r.store.noted → Ends NodeElt r (Err OverLimit) fs w out fs w out
  node_over l = record { handles = λ bs is c. refused-held c (node-ends c) (λ ids i. after_fits c h ids i ∙ lt-leb (n - r.store.noted) 49_152 l) }

  pub node_done : {t : Option Registers} {gs v : List ℕ} → n - r.store.noted ≤ 49_152 → ClosesNode r fs w t gs v → Ends NodeElt r (Ok (record { written = 0; registers = unwrap_or t r })) fs w out gs v out
  unfolding write with_frames doc_of
  node_done l p =
      record {
        handles =
            λ bs is c.
            let m = closes c h l in
            let k = close-holds c.valid p (p.answer ∙ m) in
            accepted c (node-ends c) (λ ids i. after_fits c h ids i ∙ le-leb (n - r.store.noted) 49_152 l) (wrote_none (omega arith)) k.valid (closed-mark p m ∙ c.mark) (λ ids. holds-doc k ids);
      }
