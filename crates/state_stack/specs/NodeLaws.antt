-- What a node that closes does to a valid state, said of the document that it means.
use Prim.Native.Nat.{ℕ, suc, ◌+◌, ◌-◌, ◌*◌, ◌≤◌}
use Rattle.std.specs.Prelude.{◌≡◌, Option, is_some, unwrap_or, Bool, not, List, [], ◌∷◌, ◌++◌, eqb, get_or}
use Rattle.std.proofs.Math.Path.{refl, sym, ap}
use Rattle.std.proofs.Common.{◌∙◌, add-one, add-zero, length-set, get_or-set_same, get_or-set_other}
use Rattle.std.proofs.Math.Bool.{true, false, false≢true}
use native.Mathlib.Omega.{arith}
use Rattle.std.proofs.Math.ListN.{length}
use borrow.Author.Tests.{eqb-true, le-leb}
use Rattle.spec.specs.Limits as L
use Rattle.spec.proofs.Booleans.{and_left, and_right}
use Rattle.spec.specs.NTriples.{Subject, named, blank}
use Rattle.spec.specs.Document.{node_object, text_object, no_object, Kind as What, rdf_rdf, wrapper, node_element, property_element, xml_element, Frame as Element, on_value, change_value}
use Rattle.spec.specs.EndTag.{takes_node}
use Rattle.copy.specs.Copy.{part, stored_at, Wrote, wrote_part, wrote_same, length_part, get_d_part}
use Rattle.state_words.specs.Parts.{NAME, BINDINGS, BASE, TAG, MAIN, ID, DATATYPE, TAIL, END, PLACES, BASED, TAGGED, BLANK, IDENTIFIED, TYPED, COUNT, FIRST, MARKS, FRAME}
use Rattle.state_words.specs.declared.Kind.{Kind}
use Rattle.state_words.specs.declared.Kind.TheVariants.{Rdf, NodeElt, PropertyElt, ParseTypeCollectionPropertyElt, ParseTypeLiteralPropertyElt, ParseTypeOtherPropertyElt, Wrapper}
use Rattle.state_words.specs.declared.Frame.{Frame}
use Rattle.state_words.specs.Kept.{Kept as Stays, kept_less, kept_before, kept_behind}
use Rattle.state_words.specs.Words.{pick, frame_at, words_of, StoredFrame, load_frame_lem}
use Rattle.state.specs.declared.Registers.{Registers}
use Rattle.state.specs.Meaning.{at, has, count, first, span, node_of, object_of, child_size, child_from, child_of, children_of, subject_of, what_of, part_of, element_of, subject_below, frames_of, inners_of, start_of, elements_of}
use Rattle.state.specs.Valid.{noted_of, empty_or, children_ok, kind_ok, Rising, Valid, rising}
use Rattle.state.specs.Stay.{children_on, children_ok_kept, children_kept, collected, collected_ok}
use Rattle.state_stack.specs.Change.{Holds, popped_to, popped, top_frame_lem, top_element}
use Rattle.state_stack.specs.Calls.{some_stays, top_frame, same_kind, may_pop}
use Rattle.state_stack.specs.Top.{Alike, alike_property, quiet, property_quiet, collection_quiet, retailed, as_it_was, topped_change, topped-same}
use Rattle.state_stack.specs.Laws.{Fresh, by, is_property_lem, is_node_lem, may_pop_lem, top_deep, topmost, tail_alike, tail_end, tail_what, length_at, length_has, stored_frame, front_of_lem, back_of_lem}
use Rattle.state_stack.specs.declared.nodes.Child.{Child}
use Rattle.state_stack.specs.Take.{may_take, may_child, object_word, blank_byte, main_size, object_frame, child_frame, mark_of, Taken, TakesNode, ClosesNode, may_close, without, movable, child_in}

-- ---- an object

module _ (f n : Frame) (w v : List ℕ) (z : Fresh f) (wr : Wrote w v (at f TAIL) (at f TAIL + main_size n) (part w (at n MAIN) (main_size n))) (l : at n MAIN + main_size n ≤ length w) where
  object-kind : kind_ok PropertyElt (object_frame f n) v ≡ true
  unfolding kind_ok empty_or object_word
  object-kind = rw (tail_what f (at f TAIL + main_size n) (object_word (has n BLANK)) z.places z.marks) (go (eqb (has n BLANK) 0))
    where
      go : (t : Bool) → pick (eqb (pick t 1 2) 0) (eqb (at (object_frame f n) TAIL) (at (object_frame f n) END)) true ≡ true
      go true = refl
      go false = refl

  word-object : (h : ℕ) (s : List ℕ) → object_of (object_word h) s ≡ node_object (node_of h s)
  unfolding object_of object_word node_of
  word-object h s = go (eqb h 0)
    where
      go : (t : Bool) → pick (eqb (pick t 1 2) 0) no_object (pick (eqb (pick t 1 2) 1) (node_object (named s)) (pick (eqb (pick t 1 2) 2) (node_object (blank s)) (text_object s)))
          ≡ node_object (pick t (named s) (blank s))
      go true = refl
      go false = refl

  object_what : (u : Subject) → what_of PropertyElt (object_frame f n) v u ≡ on_value (takes_node (subject_of n w)) (what_of PropertyElt f w u)
  unfolding what_of on_value takes_node span subject_of
  object_what u =
      let al = tail_alike f (at f TAIL + main_size n) (object_word (has n BLANK)) z.places z.marks in
      let up = z.up in
      let k : Stays w v 0 (at f TAIL) = kept_before wr in
      let d : at f TAIL + main_size n - at f TAIL ≡ main_size n = omega arith in
      let p : part v (at f TAIL) (main_size n) ≡ part w (at n MAIN) (main_size n) =
      ap (part v (at f TAIL)) (sym (length_part w (at n MAIN) (main_size n) l)) ∙ wrote_part wr in
      rw (
        alike_property al up k u,
        al.has_type,
        al.type,
        al.tail,
        tail_what f (at f TAIL + main_size n) (object_word (has n BLANK)) z.places z.marks,
        tail_end f (at f TAIL + main_size n) (object_word (has n BLANK)) z.places z.marks,
        k.parts (at f DATATYPE) (at f TAIL - at f DATATYPE) (omega arith) (omega arith),
        d,
        p,
        word-object (has n BLANK) (part w (at n MAIN) (main_size n)),
      )

-- ---- a child

child_alike : (f n : Frame) → length f.at ≡ PLACES → length f.has ≡ MARKS → Alike f (child_frame f n)
child_alike f n a b =
    let to : ℕ = at f END + main_size n + 4 in
    record {
      kind = refl;
      name = get_or-set_other f.at END NAME to 0 (λ e. omega arith);
      bindings = get_or-set_other f.at END BINDINGS to 0 (λ e. omega arith);
      base = get_or-set_other f.at END BASE to 0 (λ e. omega arith);
      tag = get_or-set_other f.at END TAG to 0 (λ e. omega arith);
      main = get_or-set_other f.at END MAIN to 0 (λ e. omega arith);
      id = get_or-set_other f.at END ID to 0 (λ e. omega arith);
      type = get_or-set_other f.at END DATATYPE to 0 (λ e. omega arith);
      tail = get_or-set_other f.at END TAIL to 0 (λ e. omega arith);
      has_base = get_or-set_other f.has COUNT BASED (count f + 1) 0 (λ e. omega arith);
      has_tag = get_or-set_other f.has COUNT TAGGED (count f + 1) 0 (λ e. omega arith);
      is_blank = get_or-set_other f.has COUNT BLANK (count f + 1) 0 (λ e. omega arith);
      has_id = get_or-set_other f.has COUNT IDENTIFIED (count f + 1) 0 (λ e. omega arith);
      has_type = get_or-set_other f.has COUNT TYPED (count f + 1) 0 (λ e. omega arith);
      least = get_or-set_other f.has COUNT FIRST (count f + 1) 0 (λ e. omega arith);
      places = length-set f.at END to ∙ a;
      marks = length-set f.has COUNT (count f + 1) ∙ b;
    }

node-mark : (h : ℕ) (s : List ℕ) → node_of (blank_byte h) s ≡ node_of h s
unfolding node_of blank_byte
node-mark h s = go (eqb h 0)
  where
    go : (t : Bool) → pick (eqb (pick t 0 1) 0) (named s) (blank s) ≡ pick t (named s) (blank s)
    go true = refl
    go false = refl

module _ (f n : Frame) (w v : List ℕ) (z : Fresh f) (l : at n MAIN + main_size n ≤ length w)
    (wr : Wrote w v (at f END) (at f END + main_size n + 4) (part w (at n MAIN) (main_size n) ++ mark_of (main_size n) (has n BLANK))) where
  size : length (part w (at n MAIN) (main_size n)) ≡ main_size n
  size = length_part w (at n MAIN) (main_size n) l

  end : at (child_frame f n) END ≡ at f END + main_size n + 4
  end = get_or-set_same f.at END (at f END + main_size n + 4) 0 (omega (arith, z.places))

  more : count (child_frame f n) ≡ suc (count f)
  more = get_or-set_same f.has COUNT (count f + 1) 0 (omega (arith, z.marks)) ∙ add-one (count f)

  mark : part v (at f END + main_size n + 4 - 4) 4 ≡ mark_of (main_size n) (has n BLANK)
  mark =
      let e : at f END + main_size n + 4 - 4 ≡ at f END + length (part w (at n MAIN) (main_size n)) = omega (arith, size) in
      rw e (back_of_lem (part w (at n MAIN) (main_size n)) (mark_of (main_size n) (has n BLANK)) wr)

  new-size : child_size v (at f END + main_size n + 4) ≡ main_size n
  unfolding child_size
  new-size = rw mark (omega arith)

  new-from : child_from v (at f END + main_size n + 4) ≡ at f END
  new-from = rw new-size (omega arith)

  new-child : child_of v (at f END + main_size n + 4) ≡ subject_of n w
  unfolding child_of subject_of span
  new-child =
      let p : part v (at f END) (main_size n) ≡ part w (at n MAIN) (main_size n) =
      ap (part v (at f END)) (sym size) ∙ front_of_lem (part w (at n MAIN) (main_size n)) (mark_of (main_size n) (has n BLANK)) wr in
      rw (new-from, new-size, mark, p) (node-mark (has n BLANK) (part w (at n MAIN) (main_size n)))

  child-kind : kind_ok ParseTypeCollectionPropertyElt f w ≡ true → kind_ok ParseTypeCollectionPropertyElt (child_frame f n) v ≡ true
  child-kind h =
      let al = child_alike f n z.places z.marks in
      let up = z.up in
      let c = collected f w h in
      let rest : children_ok v (at f TAIL) (count f) (at f END) ≡ true = children_ok_kept (kept_before wr) (at f TAIL) (count f) (at f END) (omega arith) (omega arith) c.children in
      let all : children_ok v (at f TAIL) (suc (count f)) (at f END + main_size n + 4) ≡ true =
      children_on v (at f TAIL) (count f) (at f END + main_size n + 4) (record { fits = rw new-size (omega arith); rest = rw new-from rest }) in
      collected_ok (child_frame f n) v (record { typed = al.type ∙ (c.typed ∙ sym al.tail); children = rw (al.tail, more, end) all })

  child_what : kind_ok ParseTypeCollectionPropertyElt f w ≡ true → (u : Subject) → what_of ParseTypeCollectionPropertyElt (child_frame f n) v u ≡ on_value (takes_node (subject_of n w)) (what_of ParseTypeCollectionPropertyElt f w u)
  unfolding what_of on_value takes_node children_of
  child_what h u =
      let al = child_alike f n z.places z.marks in
      let up = z.up in
      let c = collected f w h in
      rw (
        alike_property al up (kept_less (kept_before wr) (omega arith) (omega arith)) u,
        more,
        end,
        new-child,
        new-from,
        children_kept (kept_before wr) (at f TAIL) (count f) (at f END) (omega arith) (omega arith) c.children,
      )

-- ---- what else may stand around a node takes nothing

node_stays : (k : Kind) (f : Frame) (w : List ℕ) (s u : Subject) → same_kind k PropertyElt ≡ false → same_kind k ParseTypeCollectionPropertyElt ≡ false
    → on_value (takes_node s) (what_of k f w u) ≡ what_of k f w u
unfolding on_value takes_node what_of
node_stays Rdf f w s u p q = refl
node_stays NodeElt f w s u p q = refl
node_stays PropertyElt f w s u p q = absurd (false≢true (sym p))
node_stays ParseTypeCollectionPropertyElt f w s u p q = absurd (false≢true (sym q))
node_stays ParseTypeLiteralPropertyElt f w s u p q = refl
node_stays ParseTypeOtherPropertyElt f w s u p q = refl
node_stays Wrapper f w s u p q = refl

none_open : (r : Registers) (fs bs is w : List ℕ) → r.counts.inner ≡ 0 → r.counts.depth ≡ 0 → elements_of r fs bs is w ≡ []
unfolding elements_of inners_of frames_of
none_open r fs bs is w z d = rw (z, d)

is_collection : (k : Kind) → same_kind k ParseTypeCollectionPropertyElt ≡ true → k ≡ ParseTypeCollectionPropertyElt
is_collection Rdf e = absurd (false≢true e)
is_collection NodeElt e = absurd (false≢true e)
is_collection PropertyElt e = absurd (false≢true e)
is_collection ParseTypeCollectionPropertyElt e = refl
is_collection ParseTypeLiteralPropertyElt e = absurd (false≢true e)
is_collection ParseTypeOtherPropertyElt e = absurd (false≢true e)
is_collection Wrapper e = absurd (false≢true e)

-- a packet remembers nothing of properties
property_ordinary : {k : Kind} → k ≡ PropertyElt → (f g : Frame) (w v : List ℕ) → part_of k f w ≡ part_of k g v
unfolding part_of
property_ordinary e f g w v = rw e

collection_ordinary : {k : Kind} → k ≡ ParseTypeCollectionPropertyElt → (f g : Frame) (w v : List ℕ) → part_of k f w ≡ part_of k g v
unfolding part_of
collection_ordinary e f g w v = rw e

module _ {r : Registers} {fs bs is w gs v : List ℕ} {n : Frame} {c : Option Registers} (x : Valid r fs bs is w) (flat : r.counts.inner ≡ 0) (t : TakesNode r fs w n c gs v) (y : is_some c ≡ true) where
  -- a frame stored on top, with bytes moved down
  stored_holds : (m : ℕ) (d : r.counts.depth ≡ suc m) {g : Frame} {to end : ℕ} {s : List ℕ} → Alike (frame_at fs m) g → m * FRAME + FRAME ≤ length fs → Taken r fs w g to end s c gs v → at g END ≡ end
      → at (frame_at fs m) TAIL ≤ to → at (frame_at fs m) TAIL ≤ end → end ≤ r.store.low → kind_ok (frame_at fs m).kind g v ≡ true
      → ((u : Subject) → what_of (frame_at fs m).kind g v u ≡ on_value (takes_node (subject_of n w)) (what_of (frame_at fs m).kind (frame_at fs m) w u))
      → part_of (frame_at fs m).kind g v ≡ part_of (frame_at fs m).kind (frame_at fs m) w → noted_of g ≡ noted_of (frame_at fs m)
      → Holds (unwrap_or c r) gs bs is v r.mode (start_of r w) (change_value (takes_node (subject_of n w)) (elements_of r fs bs is w)) r.flags.rooted r.counts.labels
  stored_holds m d {g} {to} {end} {s} al room k e l l' b kd wt pt nt =
      let st : StoredFrame fs m g gs true =
      stored_frame m room al.places al.marks (k.stored ∙ ap (λ (i : ℕ). stored_at fs (i * FRAME) (words_of g)) (omega (arith, d))) in
      let res = retailed x m d (on_value (takes_node (subject_of n w))) as_it_was nt al st (kept_less (kept_before k.wrote) (omega arith) l) (kept_less (kept_behind 65_536 k.wrote) b (omega arith)) (wrote_same k.wrote) (omega (arith, e)) (omega (arith, e)) (ap (λ (q : Kind). kind_ok q g v) al.kind ∙ kd) wt pt in
      rw (k.moved, ← e, ← topped_change x m d (takes_node (subject_of n w))) res

  object-holds : same_kind (top_frame r fs).kind PropertyElt ≡ true
      → Holds (unwrap_or c r) gs bs is v r.mode (start_of r w) (change_value (takes_node (subject_of n w)) (elements_of r fs bs is w)) r.flags.rooted r.counts.labels
  object-holds o =
      let k = topmost x (top_deep r fs (λ i. false≢true (ap (λ (g : Kind). same_kind g PropertyElt) (sym i) ∙ o))) in
      let m : ℕ = r.counts.depth - 1 in
      let f : Frame = frame_at fs m in
      let e = k.frame in
      let kind : f.kind ≡ PropertyElt = is_property_lem f.kind (rw e at o) in
      let ob = rw e at (t.object o) in
      let tp = top_frame_lem x m k.depth in
      let up : Rising f = rising f tp.up in
      let z : Fresh f = record { up = up; places = length_at fs m k.room; marks = length_has fs m k.room } in
      let may : Bool = may_take r (length fs) (at n MAIN) (at f TAIL) (main_size n) (at f TAIL + main_size n) in
      by may
      (λ h.
      let mv = movable r (length fs) (at n MAIN) (at f TAIL) (main_size n) (at f TAIL + main_size n) h in
      let ta = ob.takes h in
      let fit : at n MAIN + main_size n ≤ length w = omega (arith, mv.fits, x.store) in
      stored_holds m k.depth (tail_alike f (at f TAIL + main_size n) (object_word (has n BLANK)) z.places z.marks) k.room ta
      (tail_end f (at f TAIL + main_size n) (object_word (has n BLANK)) z.places z.marks) (omega arith) (omega arith) mv.below
      (ap (λ (q : Kind). kind_ok q (object_frame f n) v) kind ∙ object-kind f n w v z ta.wrote fit)
      (λ u.
      ap (λ (q : Kind). what_of q (object_frame f n) v u) kind
      ∙ (object_what f n w v z ta.wrote fit u ∙ ap (λ (q : Kind). on_value (takes_node (subject_of n w)) (what_of q f w u)) (sym kind)))
      (property_ordinary kind (object_frame f n) f v w)
      (quiet PropertyElt kind property_quiet (object_frame f n) f))
      (λ h. absurd (false≢true (sym (ob.kept h).ok ∙ y)))

  child-holds : same_kind (top_frame r fs).kind PropertyElt ≡ false → same_kind (top_frame r fs).kind ParseTypeCollectionPropertyElt ≡ true
      → Holds (unwrap_or c r) gs bs is v r.mode (start_of r w) (change_value (takes_node (subject_of n w)) (elements_of r fs bs is w)) r.flags.rooted r.counts.labels
  unfolding L.all may_child
  child-holds p o =
      let k = topmost x (top_deep r fs (λ i. false≢true (ap (λ (g : Kind). same_kind g ParseTypeCollectionPropertyElt) (sym i) ∙ o))) in
      let m : ℕ = r.counts.depth - 1 in
      let f : Frame = frame_at fs m in
      let e = k.frame in
      let kind : f.kind ≡ ParseTypeCollectionPropertyElt = is_collection f.kind (rw e at o) in
      let ch = rw e at (t.child p o) in
      let tp = top_frame_lem x m k.depth in
      let up : Rising f = rising f tp.up in
      let z : Fresh f = record { up = up; places = length_at fs m k.room; marks = length_has fs m k.room } in
      let ok : kind_ok ParseTypeCollectionPropertyElt f w ≡ true = sym (ap (λ (q : Kind). kind_ok q f w) kind) ∙ tp.kind in
      by (may_child r (length fs) f n)
      (λ h.
      let mt : may_take r (length fs) (at n MAIN) (at f END) (main_size n) (at f END + main_size n + 4) ≡ true =
      and_left (may_take r (length fs) (at n MAIN) (at f END) (main_size n) (at f END + main_size n + 4)) _ h in
      let mv = movable r (length fs) (at n MAIN) (at f END) (main_size n) (at f END + main_size n + 4) mt in
      let ta = ch.takes h in
      let fit : at n MAIN + main_size n ≤ length w = omega (arith, mv.fits, x.store) in
      stored_holds m k.depth (child_alike f n z.places z.marks) k.room ta (end f n w v z fit ta.wrote) (omega arith) (omega arith) mv.below
      (ap (λ (q : Kind). kind_ok q (child_frame f n) v) kind ∙ child-kind f n w v z fit ta.wrote ok)
      (λ u.
      ap (λ (q : Kind). what_of q (child_frame f n) v u) kind
      ∙ (child_what f n w v z fit ta.wrote ok u ∙ ap (λ (q : Kind). on_value (takes_node (subject_of n w)) (what_of q f w u)) (sym kind)))
      (collection_ordinary kind (child_frame f n) f v w)
      (quiet ParseTypeCollectionPropertyElt kind collection_quiet (child_frame f n) f))
      (λ h. absurd (false≢true (sym (ch.kept h).ok ∙ y)))

  none_holds : same_kind (top_frame r fs).kind PropertyElt ≡ false → same_kind (top_frame r fs).kind ParseTypeCollectionPropertyElt ≡ false
      → Holds (unwrap_or c r) gs bs is v r.mode (start_of r w) (change_value (takes_node (subject_of n w)) (elements_of r fs bs is w)) r.flags.rooted r.counts.labels
  unfolding change_value
  none_holds p o =
      let q = t.none p o in
      let same : change_value (takes_node (subject_of n w)) (elements_of r fs bs is w) ≡ elements_of r fs bs is w =
      by (eqb r.counts.depth 0)
      (λ e. rw (none_open r fs bs is w flat (eqb-true r.counts.depth 0 e)))
      (λ e.
      let k = topmost x (Rattle.state.specs.Tests.positive r.counts.depth (borrow.Author.Tests.eqb-false r.counts.depth 0 e)) in
      let m : ℕ = r.counts.depth - 1 in
      sym (topped_change x m k.depth (takes_node (subject_of n w)))
      ∙ topped-same x m k.depth (on_value (takes_node (subject_of n w)))
      (node_stays (frame_at fs m).kind (frame_at fs m) w (subject_of n w) (subject_below fs w m) (rw k.frame at p) (rw k.frame at o))) in
      rw (q.0, q.1, q.2, same) (record { valid = x; chosen = refl; base = refl; elements = refl; root = refl; count = refl })

  taken-holds : Holds (unwrap_or c r) gs bs is v r.mode (start_of r w) (change_value (takes_node (subject_of n w)) (elements_of r fs bs is w)) r.flags.rooted r.counts.labels
  taken-holds =
      by (same_kind (top_frame r fs).kind PropertyElt)
      object-holds
      (λ p. by (same_kind (top_frame r fs).kind ParseTypeCollectionPropertyElt) (child-holds p) (none_holds p))

-- ---- the law

leaves : What → List Element → List Element
leaves rdf_rdf es = es
leaves (wrapper b) es = es
leaves (node_element s li) es = change_value (takes_node s) es
leaves (property_element p v) es = es
leaves xml_element es = es

-- the elements behind a node that closes: `end_kind`
pub closed_node : List Element → List Element
closed_node [] = []
closed_node (e ∷ es) = leaves e.kind es

pub closed-node : (e : Element) (es : List Element) (s : Subject) (li : ℕ) → e.kind ≡ node_element s li → closed_node (e ∷ es) ≡ change_value (takes_node s) es
unfolding closed_node leaves
closed-node e es s li q = rw q

closed_top : (f : Frame) (w : List ℕ) (u : Subject) (bound : List Rattle.spec.specs.Namespaces.Binding) (es : List Element) → f.kind ≡ NodeElt
    → closed_node (element_of f bound w u ∷ es) ≡ change_value (takes_node (subject_of f w)) es
unfolding closed_node leaves element_of what_of
closed_top f w u bound es e = ap (λ (k : Kind). leaves (what_of k f w u) es) e

record Closable (r : Registers) (fs w : List ℕ) : Type 0 where
  node : same_kind (top_frame r fs).kind NodeElt ≡ true
  pop : may_pop r ≡ true

closable : (r : Registers) (fs w : List ℕ) → may_close r fs w ≡ true → Closable r fs w
unfolding L.all may_close
closable r fs w m =
    let m1 = and_right (eqb (length w) 65_536) _ m in
    let m2 = and_right (same_kind (top_frame r fs).kind NodeElt) _ m1 in
    record { node = and_left (same_kind (top_frame r fs).kind NodeElt) _ m1; pop = and_left (may_pop r) _ m2 }

flat_top : (r : Registers) (fs bs is w : List ℕ) → r.counts.inner ≡ 0 → elements_of r fs bs is w ≡ frames_of fs bs w r.counts.depth r.counts.outer
unfolding elements_of inners_of
flat_top r fs bs is w z = rw z

pub close-holds : {r : Registers} {fs bs is w gs v : List ℕ} {c : Option Registers} → Valid r fs bs is w → ClosesNode r fs w c gs v → is_some c ≡ true
    → Holds (unwrap_or c r) gs bs is v r.mode (start_of r w) (closed_node (elements_of r fs bs is w)) r.flags.rooted r.counts.labels
close-holds {r} {fs} {bs} {is} {w} {gs} {v} {c} x p y =
    let m : may_close r fs w ≡ true = sym p.answer ∙ y in
    let ca = closable r fs w m in
    let k = may_pop_lem r ca.pop in
    let tm = topmost x k.1 in
    let i : ℕ = r.counts.depth - 1 in
    let n : Frame = frame_at fs i in
    let kind : n.kind ≡ NodeElt = is_node_lem n.kind (rw tm.frame at ca.node) in
    let h = popped x i tm.depth k.0 in
    let q : without r fs ≡ popped_to r n = rw (load_frame_lem fs i tm.room) in
    let t : TakesNode (popped_to r n) fs w n c gs v = rw (tm.frame, q) at (p.takes m) in
    let res = taken-holds h.valid k.0 t y in
    let es : closed_node (elements_of r fs bs is w) ≡ change_value (takes_node (subject_of n w)) (frames_of fs bs w i (first n)) =
    ap closed_node (flat_top r fs bs is w k.0 ∙ top_element x i tm.depth) ∙ closed_top n w (subject_below fs w i) _ (frames_of fs bs w i (first n)) kind in
    rw (es, ← h.elements, ← h.base, some_stays c r (popped_to r n) y) res

-- ---- a child that is read

-- the node that it is
unfoldable pub child_node : Child → List ℕ → Subject
child_node c w = pick c.blank (blank (part w c.at c.len)) (named (part w c.at c.len))

-- the child that is meant, and where the one before it ends
pub record ChildRead (w : List ℕ) (e : ℕ) (c : Child) : Type 0 where
  pub starts : c.at ≡ child_from w e
  pub node : child_node c w ≡ child_of w e

pub child_read : {c : Child} (w : List ℕ) (e : ℕ) → c ≡ child_in w e → 4 ≤ e → e ≤ length w → ChildRead w e c
unfolding child_in child_node child_of child_size node_of
child_read {c} w e q l h =
    let low : get_or (part w (e - 4) 4) 0 0 ≡ get_or w (e - 4) 0 = get_d_part w (e - 4) 4 0 (omega arith) ∙ rw add-zero in
    let high : get_or (part w (e - 4) 4) 1 0 ≡ get_or w (e - 3) 0 = get_d_part w (e - 4) 4 1 (omega arith) ∙ ap (λ (k : ℕ). get_or w k 0) (omega arith) in
    let mark : get_or (part w (e - 4) 4) 2 0 ≡ get_or w (e - 2) 0 = get_d_part w (e - 4) 4 2 (omega arith) ∙ ap (λ (k : ℕ). get_or w k 0) (omega arith) in
    rw (q, le-leb 4 e l, le-leb e (length w) h)
    (record {
      starts = rw (low, high);
      node = rw (low, high, mark) (go (eqb (get_or w (e - 2) 0) 0) (part w (e - 4 - (get_or w (e - 4) 0 + 256 * get_or w (e - 3) 0)) (get_or w (e - 4) 0 + 256 * get_or w (e - 3) 0)));
    })
  where
    go : (t : Bool) (s : List ℕ) → pick (not t) (blank s) (named s) ≡ pick t (named s) (blank s)
    go true s = refl
    go false s = refl
