-- What is left behind an end tag, where the element on top is not a node: its registers are popped, and lines are written by its kind.
use Prim.Native.Nat.{ℕ, zero, suc, ◌+◌, ◌-◌, ◌<◌, ◌≤◌}
use Rattle.std.specs.Prelude.{◌≡◌, refl, true, false}
use Rattle.std.proofs.Math.Path.{sym, ap}
use Rattle.std.proofs.Common.{◌∙◌, not-suc-le-zero}
use Rattle.std.proofs.lemmas.Bool.{false≢true}
use mathlib.Core.List.{List, [], ◌++◌}
use native.Mathlib.Omega.{arith}
use Rattle.std.proofs.Math.ListN.{length}
use borrow.Author.Tests.{eq-eqb, lt-ltb, le-leb, lt-leb, ne_eqb}
use Rattle.spec.specs.Bytes.{Bytes, is_empty, ◌>>◌, require◌or◌}
use Rattle.spec.specs.Numbers.{refuse, good}
use Rattle.spec.specs.declared.Refusal.TheVariants.{EmptyLiteral, LabelsSpent, ProfileBroken}
use Rattle.spec.specs.Limits.{most_labels}
use Rattle.spec.specs.NTriples.{Subject, node}
use Rattle.spec.specs.Document.{collection, Property, Doc, with_frames, with_labels, language_in_force}
use Rattle.spec.specs.Productions.{statement}
use Rattle.spec.specs.EndTag.{cells, head_cell, end_value, end_kind}
use Rattle.state_words.specs.Parts.{TAIL, END}
use Rattle.state_words.specs.declared.Kind.{Kind}
use Rattle.state_words.specs.declared.Kind.TheVariants.{Rdf, PropertyElt, ParseTypeCollectionPropertyElt, ParseTypeLiteralPropertyElt, ParseTypeOtherPropertyElt, Wrapper}
use Rattle.state_words.specs.declared.Frame.{Frame}
use Rattle.state_words.specs.Words.{frame_at, load_frame_lem}
use Rattle.state.specs.declared.Registers.{Registers}
use Rattle.state.specs.Meaning.{at, count, first, span, children_of, subject_of, property_of, what_of, subject_below, frames_of, start_of, elements_of, doc_of}
use Rattle.state.specs.Valid.{kind_ok, node_below, stands, Sound}
use Rattle.state.specs.Held.{room}
use Rattle.spec.specs.XmlLang as spec
use Rattle.state.specs.Language.{tag_of_language}
use Rattle.state.specs.declared.Span.{Span}
use Rattle.std.specs.declared.option.Option as std
use Rattle.state_stack.specs.Change.{Holds, holds-doc, labelled_to, labelled-holds, popped, top_frame_lem}
use Rattle.state_stack.specs.Calls.{top_frame, may_pop, Pops}
use Rattle.state_stack.specs.Laws.{topmost}
use Rattle.state_inner.specs.Calls.{language_in}
use Rattle.state_inner.specs.Laws.{language_read}
use Rattle.state_stack.specs.Take as N
use Rattle.end_tag.specs.Object.{property_lines, literal_lines}
use Rattle.end_tag.specs.Cells.{nil, Listed, length-children}
use Rattle.end_tag.specs.Ends.{Closing, Ends, Tells, without, refused}
use Rattle.std.specs.Prelude.{unwrap_or, Err}

-- ---- the state without the element on top

module _ {q : Kind} {r : Registers} {fs bs is w : List ℕ} (c : Closing q r fs bs is w) where
  pub pops : may_pop r ≡ true
  unfolding may_pop
  pops = rw (eq-eqb r.counts.inner 0 c.flat, lt-ltb 0 r.counts.depth c.deep)

  -- what is known of the frame on top
  pub top_stands : Sound fs bs w (top_frame r fs) (r.counts.depth - 1) r.store.top r.counts.outer
  top_stands = let k = topmost c.valid c.deep in rw k.frame (top_frame_lem c.valid (r.counts.depth - 1) k.depth)

  module _ {u : Registers} (e : u ≡ N.without r fs) where
    pub pop_is : Holds u fs bs is w r.mode (start_of r w) (frames_of fs bs w (r.counts.depth - 1) (first (top_frame r fs))) r.flags.rooted r.counts.labels
    pop_is =
        let k = topmost c.valid c.deep in
        rw (e, load_frame_lem fs (r.counts.depth - 1) k.room, k.frame) (popped c.valid (r.counts.depth - 1) k.depth c.flat)

    pub pop_doc : (ids : List Bytes) → without r fs bs is w ids ≡ doc_of u fs bs is w ids
    unfolding without with_frames doc_of
    pop_doc ids = sym (holds-doc pop_is ids)

    -- and with more labels generated
    pub pop_labelled : (n : ℕ) → n ≤ 99_999_999 → (ids : List Bytes) → with_labels n (without r fs bs is w ids) ≡ doc_of (labelled_to u n) fs bs is w ids
    unfolding without with_frames with_labels doc_of
    pop_labelled n h ids = sym (holds-doc (labelled-holds pop_is h) ids)

    pub pop_mark : u.flags.closed ≡ false
    pop_mark = ap (λ (x : Registers). x.flags.closed) e ∙ c.mark

    pub pop_depth : u.counts.depth ≡ r.counts.depth - 1
    pop_depth = ap (λ (x : Registers). x.counts.depth) e

    below_there : (n : ℕ) → node_below fs n ≡ true → 0 < n
    unfolding node_below
    below_there zero h = absurd (false≢true h)
    below_there (suc n) h = omega arith

    below_is : (n : ℕ) → 0 < n → subject_below fs w n ≡ subject_of (frame_at fs (n - 1)) w
    unfolding subject_below
    below_is zero h = absurd (not-suc-le-zero h)
    below_is (suc n) h = let p : suc n - 1 ≡ n = omega arith in rw p

    -- the subject of a property is the node around it
    pub around : node_below fs (r.counts.depth - 1) ≡ true → subject_of (top_frame u fs) w ≡ subject_below fs w (r.counts.depth - 1)
    around h =
        let d : 0 < r.counts.depth - 1 = below_there (r.counts.depth - 1) h in
        let k = topmost pop_is.valid (rw pop_depth d) in
        rw (k.frame, pop_depth) (sym (below_is (r.counts.depth - 1) d))

    stood : stands q fs (r.counts.depth - 1) ≡ true
    stood = ap (λ (g : Kind). stands g fs (r.counts.depth - 1)) (sym c.kind) ∙ top_stands.stood

labels_of : (r : Registers) (fs bs is w : List ℕ) (ids : List Bytes) → (without r fs bs is w ids).labels ≡ r.counts.labels
unfolding without with_frames doc_of
labels_of r fs bs is w ids = refl

-- n labels were generated, and there are k children
module _ (p : Property) (cs : List Subject) (l : spec.Language) (d : Doc) (n k : ℕ) (a : n ≡ d.labels) (b : k ≡ length cs) where
  collection_ends : n + k ≤ 99_999_999 → end_value p (collection cs) l d ≡ good (cells n nil cs ++ statement p (node (head_cell n nil cs)), with_labels (n + k) d)
  unfolding end_value ◌>>◌ require◌or◌ most_labels
  collection_ends h = rw (a, b, le-leb (d.labels + length cs) 99_999_999 (rw (a, b) at h))

  collection_spent : 99_999_999 < n + k → end_value p (collection cs) l d ≡ refuse LabelsSpent
  unfolding end_value ◌>>◌ require◌or◌ most_labels
  collection_spent h = rw (lt-leb (d.labels + length cs) 99_999_999 (rw (a, b) at h))

same_top : (u : Registers) (n : ℕ) (fs : List ℕ) → top_frame (labelled_to u n) fs ≡ top_frame u fs
unfolding top_frame
same_top u n fs = refl

-- ---- no lines

-- an element of kind q, of this frame, leaves nothing but the document without it
pub record Silent (q : Kind) (f : Frame) : Type 0 where
  pub says : (w : List ℕ) (s : Subject) (n : Bytes) (l : spec.Language) (d : Doc) → end_kind (what_of q f w s) n l d ≡ good ([], d)

pub rdf_silent : (f : Frame) → Silent Rdf f
unfolding what_of end_kind
rdf_silent f = record { says = λ w s n l d. refl }

pub other_silent : (f : Frame) → Silent ParseTypeOtherPropertyElt f
unfolding what_of end_kind end_value
other_silent f = record { says = λ w s n l d. refl }

-- the wrapper, once it has had its rdf:RDF
pub wrapper_silent : (f : Frame) → (count f ≡ 0 → ⊥) → Silent Wrapper f
unfolding what_of end_kind ◌>>◌ require◌or◌
wrapper_silent f h = record { says = λ w s n l d. rw (ne_eqb (count f) 0 h) }

module _ {r behind : Registers} {fs w : List ℕ} {p : std.Option Registers} (o : Pops r fs p) (j : behind ≡ unwrap_or p r) where
  pub silent_tells : {q : Kind} → Silent q (top_frame r fs) → Tells q r behind fs w []
  silent_tells s =
      record {
        tells =
            λ bs is c.
            let e = j ∙ o.moved (pops c) in
            record {
              answer = λ ids. s.says w _ _ _ (without r fs bs is w ids) ∙ rw (pop_doc c e ids);
              valid = (pop_is c e).valid;
              mark = pop_mark c e;
            };
      }

  -- ---- a default property

  pub property_tells : {n f : Frame} {l : std.Option Span} {t : Bytes} → f ≡ top_frame r fs → n ≡ top_frame behind fs → l ≡ language_in r fs → t ≡ tag_of_language l w
      → Tells PropertyElt r behind fs w (property_lines n f t w)
  unfolding what_of end_kind end_value stands
  property_tells x y z g =
      record {
        tells =
            λ bs is c.
            let e = j ∙ o.moved (pops c) in
            record {
              answer = λ ids. rw (x, y, g, z, around c e (stood c e), language_read c.valid, pop_doc c e ids);
              valid = (pop_is c e).valid;
              mark = pop_mark c e;
            };
      }

  -- ---- a Literal property

  pub literal_tells : {n f : Frame} → f ≡ top_frame r fs → n ≡ top_frame behind fs → is_empty (span w (at f TAIL) (at f END)) ≡ false
      → Tells ParseTypeLiteralPropertyElt r behind fs w (literal_lines n f w)
  unfolding what_of end_kind end_value stands ◌>>◌ require◌or◌
  literal_tells x y z =
      record {
        tells =
            λ bs is c.
            let e = j ∙ o.moved (pops c) in
            record {
              answer = λ ids. rw (x, y, around c e (stood c e), (rw x at z), pop_doc c e ids);
              valid = (pop_is c e).valid;
              mark = pop_mark c e;
            };
      }

  -- ---- a Collection

  pub collection_tells : {n f : Frame} {u : Registers} → f ≡ top_frame r fs → u ≡ labelled_to behind (r.counts.labels + count f) → n ≡ top_frame u fs → r.counts.labels + count f ≤ 99_999_999
      → Tells ParseTypeCollectionPropertyElt r u fs w
      (cells r.counts.labels nil (children_of w (count f) (at f END)) ++ statement (property_of f w (subject_of n w)) (node (head_cell r.counts.labels nil (children_of w (count f) (at f END)))))
  unfolding what_of end_kind stands
  collection_tells {n} {f} {u} x y z h =
      record {
        tells =
            λ bs is c.
            let e = j ∙ o.moved (pops c) in
            let cs : List Subject = children_of w (count f) (at f END) in
            let m : n ≡ top_frame behind fs = z ∙ (ap (λ (v : Registers). top_frame v fs) y ∙ same_top behind (r.counts.labels + count f) fs) in
            record {
              answer =
                  λ ids.
                  rw (m, y, ← x, around c e (stood c e))
                  (collection_ends (property_of f w (subject_below fs w (r.counts.depth - 1))) cs (language_in_force (elements_of r fs bs is w)) (without r fs bs is w ids) r.counts.labels (count f)
                  (sym (labels_of r fs bs is w ids)) (sym (length-children w (count f) (at f END))) h
                  ∙ ap (λ (d : Doc). good (cells r.counts.labels nil cs ++ statement (property_of f w (subject_below fs w (r.counts.depth - 1))) (node (head_cell r.counts.labels nil cs)), d)) (pop_labelled c e (r.counts.labels + count f) h ids));
              valid = rw y (labelled-holds (pop_is c e) h).valid;
              mark = ap (λ (v : Registers). v.flags.closed) y ∙ pop_mark c e;
            };
      }

pub literal-empty : {r : Registers} {fs w out : List ℕ} {f : Frame} → f ≡ top_frame r fs → is_empty (span w (at f TAIL) (at f END)) ≡ true
    → Ends ParseTypeLiteralPropertyElt r (Err EmptyLiteral) fs w out fs w out
unfolding what_of end_kind end_value ◌>>◌ require◌or◌
literal-empty x z = record { handles = λ bs is c. refused c EmptyLiteral (λ ids. rw (rw x at z)) }

-- 19: it has had none
pub wrapper-empty : {r : Registers} {fs w out : List ℕ} {f : Frame} → f ≡ top_frame r fs → count f ≡ 0 → Ends Wrapper r (Err ProfileBroken) fs w out fs w out
unfolding what_of end_kind ◌>>◌ require◌or◌
wrapper-empty {r} {fs} {w} {out} {f} x z = record { handles = λ bs is c. refused c ProfileBroken (λ ids. rw (← x, eq-eqb (count f) 0 z)) }

pub labels_spent : {r : Registers} {fs w out : List ℕ} {f : Frame} → f ≡ top_frame r fs → 99_999_999 < r.counts.labels + count f
    → Ends ParseTypeCollectionPropertyElt r (Err LabelsSpent) fs w out fs w out
unfolding what_of end_kind
labels_spent {r} {fs} {w} {out} {f} x h =
    record {
      handles =
          λ bs is c.
          refused c LabelsSpent
          (λ ids.
          rw (← x)
          (collection_spent (property_of f w (subject_below fs w (r.counts.depth - 1))) (children_of w (count f) (at f END)) (language_in_force (elements_of r fs bs is w)) (without r fs bs is w ids) r.counts.labels (count f)
          (sym (labels_of r fs bs is w ids)) (sym (length-children w (count f) (at f END))) h));
    }

-- ---- what the lines of a Collection ask

-- the frame on top is whole, and so is the count of labels
pub record Whole (r : Registers) (fs w : List ℕ) : Type 0 where
  pub kind : kind_ok (top_frame r fs).kind (top_frame r fs) w ≡ true
  pub ends : at (top_frame r fs) END ≤ length w
  pub labels : r.counts.labels ≤ 99_999_999

pub whole : {q : Kind} {r : Registers} {fs bs is w : List ℕ} → Closing q r fs bs is w → Whole r fs w
whole {q} {r} {fs} {bs} {is} {w} c =
    let x = c.valid in
    let t = top_stands c in
    record { kind = t.kind; ends = omega (arith, t.ends, x.apart, x.store, (room x).low); labels = x.labels }

pub listed : {r : Registers} {fs w : List ℕ} {f : Frame} → Whole r fs w → f ≡ top_frame r fs → (top_frame r fs).kind ≡ ParseTypeCollectionPropertyElt → r.counts.labels + count f ≤ 99_999_999 → Listed f w r.counts.labels
listed {r} {fs} {w} {f} h e k l =
    record {
      children = rw e (sym (ap (λ (g : Kind). kind_ok g (top_frame r fs) w) k) ∙ h.kind);
      ends = rw e h.ends;
      few = l;
    }
