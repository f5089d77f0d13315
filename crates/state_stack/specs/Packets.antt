-- What the elements of a packet remember of their children, noted in the frame on top: document 02, request 1.
use Prim.Native.Nat.{ℕ, zero, suc, ◌+◌, ◌-◌, ◌*◌, ◌<◌, ◌≤◌}
use Rattle.std.proofs.Math.Path.{◌≡◌, refl, sym, ap}
use Rattle.std.proofs.Common.{◌∙◌, arith, length-set, get_or-set_same}
use Rattle.std.specs.Prelude.{is_some, unwrap_or, Bool, ◌&&◌, List, [], ◌∷◌, eqb, ltb, set}
use Rattle.std.proofs.Math.Bool.{true, false, false≢true}
use Rattle.std.specs.declared.option.Option as std
use Rattle.std.proofs.Math.Option.{Option, none, some}
use Rattle.std.proofs.Math.Dec.{leb}
use Rattle.std.proofs.Math.ListN.{length}
use Rattle.std.proofs.Math.Seq.{get_or-set_other}
use borrow.Author.Tests.{eqb-true, eqb-false, leb-true, leb-false, eq-eqb, ne_eqb, le-leb, lt-ltb, le-ltb}
use Rattle.spec.specs.Limits as L
use Rattle.spec.specs.Bytes.{Bytes}
use Rattle.spec.specs.NTriples.{Subject}
use Rattle.spec.specs.Document.{Kind as What, Part, ordinary, top_level, alternatives, Frame as Element, with_kind, with_part}
use Rattle.spec.specs.Opening.{count_li}
use Rattle.spec.specs.Opening as G
use Rattle.spec.proofs.Booleans.{and_left, and_right}
use Rattle.copy.specs.Copy.{stored_at, Wrote}
use Rattle.state_words.specs.Parts.{NAME, MAIN, ID, TAIL, END, BASED, TAGGED, BLANK, IDENTIFIED, TYPED, PART, COUNT, FIRST, FRAME, PLACES, MARKS}
use Rattle.state_words.specs.declared.Kind.{Kind}
use Rattle.state_words.specs.declared.Kind.TheVariants.{Rdf, NodeElt, PropertyElt, ParseTypeCollectionPropertyElt, ParseTypeLiteralPropertyElt, ParseTypeOtherPropertyElt, Wrapper}
use Rattle.state_words.specs.declared.Frame.{Frame}
use Rattle.state_words.specs.Kept.{kept_all, kept_less, kept_before, kept_behind}
use Rattle.state_words.specs.Words.{pick, frame_at, words_of, StoredFrame, load_store}
use Rattle.state.specs.declared.Registers.{Registers}
use Rattle.state.specs.Meaning.{at, has, count, first, span, subject_of, what_of, part_of, element_of, frames_of, inners_of, elements_of, start_of, subject_below}
use Rattle.state.specs.Valid.{noted_by, noted_of, noted_in, kind_ok, node_below, is_wrapper, is_root_in, stands, frames_ok, Rising, Valid, rising, top_sound}
use Rattle.state.specs.Tests.{positive}
use Rattle.state.specs.Stay.{span_kept}
use Rattle.state.specs.Held as Held
use Rattle.state_stack.specs.Change.{Holds, noting_to, top_frame_lem, under, top_element}
use Rattle.state_stack.specs.Calls.{top_frame, same_kind, tail_to, may_tail, Tails, CountsLi}
use Rattle.state_stack.specs.Top.{Alike, topped, renoted, retailed, topped_flat}
use Rattle.state_stack.specs.Laid.{stands_wrote, stands-span}
use Rattle.state_stack.specs.Laws.{topmost, top_deep, length_at, length_has, tail_alike, tail_end, stored_frame, li-frame, by}

-- ---- another mark in the frame on top

abbrev pub mark_to : Frame → ℕ → ℕ → Frame
mark_to f m v = record { kind = f.kind; at = f.at; has = set f.has m v }

unfoldable pub may_mark : Registers → List ℕ → Bool
may_mark r fs = ltb 0 r.counts.depth && leb ((r.counts.depth - 1) * FRAME + FRAME) (length fs)

-- frame f is stored there with mark m as v
pub record Marks (r : Registers) (fs : List ℕ) (f : Frame) (m v : ℕ) (b : Bool) (gs : List ℕ) : Type 0 where
  pub answer : b ≡ may_mark r fs
  pub stored : may_mark r fs ≡ true → gs ≡ stored_at fs ((r.counts.depth - 1) * FRAME) (words_of (mark_to f m v))
  pub kept : may_mark r fs ≡ false → gs ≡ fs
  pub same : length gs ≡ length fs

differ : {A : Type 0} {b : Bool} → b ≡ true → b ≡ false → A
differ p q = absurd (false≢true (sym q ∙ p))

module _ {r : Registers} {fs : List ℕ} {f : Frame} {m v : ℕ} where
  pub mark-empty : r.counts.depth ≡ 0 → Marks r fs f m v false fs
  unfolding may_mark
  mark-empty z =
      let n : may_mark r fs ≡ false = rw (le-ltb 0 r.counts.depth (omega arith)) in
      record { answer = sym n; stored = λ y. differ y n; kept = λ _. refl; same = refl }

  pub mark_done : {gs : List ℕ} {q : Bool} → (r.counts.depth ≡ 0 → ⊥) → StoredFrame fs (r.counts.depth - 1) (mark_to f m v) gs q → Marks r fs f m v q gs
  unfolding may_mark
  mark_done {gs} {q} d s =
      let n : may_mark r fs ≡ leb ((r.counts.depth - 1) * FRAME + FRAME) (length fs) = rw (lt-ltb 0 r.counts.depth (positive r.counts.depth d)) in
      record {
        answer = s.answer ∙ sym n;
        stored = λ u. s.wrote (leb-true ((r.counts.depth - 1) * FRAME + FRAME) (length fs) (sym n ∙ u));
        kept = λ u. s.kept (leb-false ((r.counts.depth - 1) * FRAME + FRAME) (length fs) (sym n ∙ u));
        same = s.same;
      }

-- ---- what it leaves

mark_alike : (f : Frame) (m v : ℕ) → 4 < m → m < 7 → length f.at ≡ PLACES → length f.has ≡ MARKS → Alike f (mark_to f m v)
mark_alike f m v lo hi a b =
    record {
      kind = refl;
      name = refl;
      bindings = refl;
      base = refl;
      tag = refl;
      main = refl;
      id = refl;
      type = refl;
      tail = refl;
      has_base = get_or-set_other f.has m BASED v 0 (λ e. omega arith);
      has_tag = get_or-set_other f.has m TAGGED v 0 (λ e. omega arith);
      is_blank = get_or-set_other f.has m BLANK v 0 (λ e. omega arith);
      has_id = get_or-set_other f.has m IDENTIFIED v 0 (λ e. omega arith);
      has_type = get_or-set_other f.has m TYPED v 0 (λ e. omega arith);
      least = get_or-set_other f.has m FIRST v 0 (λ e. omega arith);
      places = a;
      marks = length-set f.has m v ∙ b;
    }

mark-noted : (f : Frame) (m v : ℕ) (k : Kind) → noted_by k (mark_to f m v) ≡ noted_by k f
unfolding noted_by
mark-noted f m v Rdf = refl
mark-noted f m v NodeElt = refl
mark-noted f m v PropertyElt = refl
mark-noted f m v ParseTypeCollectionPropertyElt = refl
mark-noted f m v ParseTypeLiteralPropertyElt = refl
mark-noted f m v ParseTypeOtherPropertyElt = refl
mark-noted f m v Wrapper = refl

module _ {r : Registers} {fs bs is w gs : List ℕ} {m v : ℕ} {b : Bool} (x : Valid r fs bs is w) (d : 0 < r.counts.depth) (p : Marks r fs (top_frame r fs) m v b gs) (lo : 4 < m) (hi : m < 7) where
  abbrev below : ℕ
  below = r.counts.depth - 1

  may : may_mark r fs ≡ true
  unfolding may_mark
  may = rw (lt-ltb 0 r.counts.depth d, le-leb (below * FRAME + FRAME) (length fs) (topmost x d).room)

  pub marked-frame : frame_at gs below ≡ mark_to (frame_at fs below) m v
  marked-frame =
      let t = topmost x d in
      let a = length_at fs below t.room in
      let c = length_has fs below t.room in
      let al = mark_alike (frame_at fs below) m v lo hi a c in
      load_store (stored_frame below t.room al.places al.marks (p.stored may ∙ ap (λ (g : Frame). stored_at fs (below * FRAME) (words_of (mark_to g m v))) t.frame)) t.room al.places al.marks

  -- the element on top with another kind or another part, by what the mark means
  pub mark-holds : (q : Kind) → (top_frame r fs).kind ≡ q → (K : What → What) (h : Part → Part)
      → ((f : Frame) → length f.has ≡ MARKS → kind_ok q f w ≡ true → kind_ok q (mark_to f m v) w ≡ true)
      → ((f : Frame) → length f.has ≡ MARKS → (s : Subject) → f ≡ top_frame r fs → what_of q (mark_to f m v) w s ≡ K (what_of q f w s))
      → ((f : Frame) → length f.has ≡ MARKS → f ≡ top_frame r fs → part_of q (mark_to f m v) w ≡ h (part_of q f w))
      → Holds r gs bs is w r.mode (start_of r w) (topped x below (topmost x d).depth K h) r.flags.rooted r.counts.labels
  mark-holds q z K h ok what part =
      let t = topmost x d in
      let f : Frame = frame_at fs below in
      let e : top_frame r fs ≡ f = t.frame in
      let kind : f.kind ≡ q = rw e at z in
      let a = length_at fs below t.room in
      let c = length_has fs below t.room in
      let tp = top_frame_lem x below t.depth in
      let u : Rising f = rising f tp.up in
      let al = mark_alike f m v lo hi a c in
      let st : StoredFrame fs below (mark_to f m v) gs true =
      stored_frame below t.room al.places al.marks (p.stored may ∙ ap (λ (g : Frame). stored_at fs (below * FRAME) (words_of (mark_to g m v))) e) in
      let kd : kind_ok f.kind (mark_to f m v) w ≡ true =
      ap (λ (g : Kind). kind_ok g (mark_to f m v) w) kind ∙ ok f c (sym (ap (λ (g : Kind). kind_ok g f w) kind) ∙ tp.kind) in
      let wt : (s : Subject) → what_of f.kind (mark_to f m v) w s ≡ K (what_of f.kind f w s) =
      λ s. ap (λ (g : Kind). what_of g (mark_to f m v) w s) kind ∙ (what f c s (sym e) ∙ ap (λ (g : Kind). K (what_of g f w s)) (sym kind)) in
      let pt : part_of f.kind (mark_to f m v) w ≡ h (part_of f.kind f w) =
      ap (λ (g : Kind). part_of g (mark_to f m v) w) kind ∙ (part f c (sym e) ∙ ap (λ (g : Kind). h (part_of g f w)) (sym kind)) in
      let res = retailed x below t.depth K h (mark-noted f m v f.kind) al st kept_all kept_all refl u.tail (omega (arith, tp.ends, x.apart)) kd wt pt in
      rw tp.ends at res

-- ---- what is noted, on the definitions' side

-- the first rdf:li of an rdf:Alt carries xml:lang, or not
unfoldable pub note_li : Bool → Part → Part
note_li c ordinary = ordinary
note_li c (top_level a) = top_level a
note_li c (alternatives none) = alternatives (some c)
note_li c (alternatives (some b)) = alternatives (some b)

-- the rdf:about of the first top-level element
unfoldable pub note_about : Bytes → Part → Part
note_about a ordinary = ordinary
note_about a (top_level none) = top_level (some a)
note_about a (top_level (some b)) = top_level (some b)
note_about a (alternatives b) = alternatives b

-- in the innermost element
unfoldable pub note_part : (Part → Part) → List Element → List Element
note_part h [] = []
note_part h (f ∷ fs) = with_part (h f.part) f ∷ fs

-- behind a child that is counted
pub noted-counted : (i : Bytes) (h g : Part → Part) (es : List Element) → note_part h (count_li i g es) ≡ count_li i (λ p. h (g p)) es
unfolding note_part count_li with_part G.all
noted-counted i h g [] = refl
noted-counted i h g (f ∷ es) = refl

pub noted_twice : (h g : Part → Part) (es : List Element) → note_part h (note_part g es) ≡ note_part (λ p. h (g p)) es
unfolding note_part with_part
noted_twice h g [] = refl
noted_twice h g (f ∷ es) = refl

-- where nothing stands inside Literal content
module _ {r : Registers} {fs bs is w : List ℕ} (x : Valid r fs bs is w) (z : r.counts.inner ≡ 0) where
  topped-noted : (n : ℕ) (d : r.counts.depth ≡ suc n) (h : Part → Part) → topped x n d (λ q. q) h ≡ note_part h (elements_of r fs bs is w)
  unfolding topped elements_of inners_of note_part with_part with_kind element_of
  topped-noted n d h = rw (z, top_element x n d)

  -- a part that stays
  still_on : (n : ℕ) → r.counts.depth ≡ suc n → (h : Part → Part) → h (part_of (frame_at fs n).kind (frame_at fs n) w) ≡ part_of (frame_at fs n).kind (frame_at fs n) w
      → note_part h (elements_of r fs bs is w) ≡ elements_of r fs bs is w
  unfolding elements_of inners_of note_part with_part element_of
  still_on n d h e = rw (z, top_element x n d, e)

  still_none : r.counts.depth ≡ 0 → (h : Part → Part) → note_part h (elements_of r fs bs is w) ≡ elements_of r fs bs is w
  unfolding elements_of inners_of frames_of note_part
  still_none d h = rw (z, d)

  still_noted : (h : Part → Part) → ((n : ℕ) → r.counts.depth ≡ suc n → h (part_of (frame_at fs n).kind (frame_at fs n) w) ≡ part_of (frame_at fs n).kind (frame_at fs n) w)
      → note_part h (elements_of r fs bs is w) ≡ elements_of r fs bs is w
  still_noted h s = go r.counts.depth refl
    where
      go : (n : ℕ) → r.counts.depth ≡ n → note_part h (elements_of r fs bs is w) ≡ elements_of r fs bs is w
      go zero d = still_none d h
      go (suc n) d = still_on n d h (s n d)

-- ---- the rdf:RDF of the wrapper

pub record HasRdf (r : Registers) (fs gs : List ℕ) : Type 0 where
  pub had : same_kind (top_frame r fs).kind Wrapper ≡ true → Marks r fs (top_frame r fs) COUNT 1 (may_mark r fs) gs
  pub none : same_kind (top_frame r fs).kind Wrapper ≡ false → gs ≡ fs
  pub same : length gs ≡ length fs

module _ {r : Registers} {fs : List ℕ} {f : Frame} (e : f ≡ top_frame r fs) where
  pub no_wrapper : same_kind f.kind Wrapper ≡ false → HasRdf r fs fs
  no_wrapper n = record { had = λ y. differ y (rw (← e) n); none = λ _. refl; same = refl }

  pub wrapper_had : {b : Bool} {gs : List ℕ} → same_kind f.kind Wrapper ≡ true → Marks r fs f COUNT 1 b gs → HasRdf r fs gs
  wrapper_had y m = record { had = λ _. rw (← e) (rw m.answer at m); none = λ n. differ y (rw (← e) at n); same = m.same }

pub is_wrapper_lem : (k : Kind) → same_kind k Wrapper ≡ true → k ≡ Wrapper
is_wrapper_lem Rdf e = absurd (false≢true e)
is_wrapper_lem NodeElt e = absurd (false≢true e)
is_wrapper_lem PropertyElt e = absurd (false≢true e)
is_wrapper_lem ParseTypeCollectionPropertyElt e = absurd (false≢true e)
is_wrapper_lem ParseTypeLiteralPropertyElt e = absurd (false≢true e)
is_wrapper_lem ParseTypeOtherPropertyElt e = absurd (false≢true e)
is_wrapper_lem Wrapper e = refl

module _ {r : Registers} {fs bs is w gs : List ℕ} (x : Valid r fs bs is w) (z : r.counts.inner ≡ 0) (p : HasRdf r fs gs) (y : same_kind (top_frame r fs).kind Wrapper ≡ true) where
  -- any child of the wrapper is counted so
  pub had_rdf-holds : (i : Bytes) → Holds r gs bs is w r.mode (start_of r w) (count_li i (λ q. q) (elements_of r fs bs is w)) r.flags.rooted r.counts.labels
  unfolding kind_ok what_of part_of G.counted
  had_rdf-holds i =
      let d : 0 < r.counts.depth = top_deep r fs (λ o. false≢true (ap (λ (g : Kind). same_kind g Wrapper) (sym o) ∙ y)) in
      let h = mark-holds x d (p.had y) (omega arith) (omega arith) Wrapper (is_wrapper_lem (top_frame r fs).kind y) (G.counted i) (λ q. q)
      (λ f l o. o)
      (λ f l s q. rw (get_or-set_same f.has COUNT 1 0 (omega arith)))
      (λ f l q. refl) in
      rw (← topped_flat x (r.counts.depth - 1) (topmost x d).depth z i (λ q. q)) h

-- ---- the first rdf:li of an rdf:Alt

-- does an element of this kind wait for its first child?
unfoldable pub awaits : Kind → Frame → Bool
awaits q f = same_kind f.kind q && eqb (has f PART) 1

abbrev pub carried_word : Bool → ℕ
carried_word c = pick c 3 2

pub record NotesLi (r : Registers) (fs : List ℕ) (c : Bool) (gs : List ℕ) : Type 0 where
  pub waits : awaits NodeElt (top_frame r fs) ≡ true → Marks r fs (top_frame r fs) PART (carried_word c) (may_mark r fs) gs
  pub none : awaits NodeElt (top_frame r fs) ≡ false → gs ≡ fs
  pub same : length gs ≡ length fs

module _ {r : Registers} {fs : List ℕ} {c : Bool} {f : Frame} (e : f ≡ top_frame r fs) where
  li_not : awaits NodeElt f ≡ false → NotesLi r fs c fs
  li_not n = record { waits = λ y. differ y (rw (← e) n); none = λ _. refl; same = refl }

  pub no_node : same_kind f.kind NodeElt ≡ false → NotesLi r fs c fs
  unfolding awaits
  no_node n = li_not (rw n)

  pub not_waiting : same_kind f.kind NodeElt ≡ true → (has f PART ≡ 1 → ⊥) → NotesLi r fs c fs
  unfolding awaits
  not_waiting y n = li_not (rw (y, ne_eqb (has f PART) 1 n))

  pub li-noted : {b : Bool} {gs : List ℕ} → same_kind f.kind NodeElt ≡ true → has f PART ≡ 1 → Marks r fs f PART (carried_word c) b gs → NotesLi r fs c gs
  unfolding awaits
  li-noted y q m =
      let a : awaits NodeElt f ≡ true = rw (y, eq-eqb (has f PART) 1 q) in
      record { waits = λ _. rw (← e) (rw m.answer at m); none = λ n. differ a (rw (← e) at n); same = m.same }

-- what it means
carried_part : (f : Frame) (w : List ℕ) (c : Bool) → length f.has ≡ MARKS → has f PART ≡ 1 → part_of NodeElt (mark_to f PART (carried_word c)) w ≡ note_li c (part_of NodeElt f w)
unfolding part_of note_li
carried_part f w true l e = rw (get_or-set_same f.has PART 3 0 (omega arith), e)
carried_part f w false l e = rw (get_or-set_same f.has PART 2 0 (omega arith), e)

node-part : (f : Frame) (w : List ℕ) (c : Bool) → (has f PART ≡ 1 → ⊥) → note_li c (part_of NodeElt f w) ≡ part_of NodeElt f w
unfolding part_of note_li
node-part f w c n = rw (ne_eqb (has f PART) 1 n) (go (eqb (has f PART) 0) (eqb (has f PART) 3))
  where
    go : (a b : Bool) → note_li c (pick a ordinary (alternatives (pick false none (some b)))) ≡ pick a ordinary (alternatives (pick false none (some b)))
    go true b = refl
    go false b = refl

rdf-part : (f : Frame) (w : List ℕ) (c : Bool) → note_li c (part_of Rdf f w) ≡ part_of Rdf f w
unfolding part_of note_li
rdf-part f w c = go (eqb (has f PART) 0) _
  where
    go : (a : Bool) (o : Option Bytes) → note_li c (pick a ordinary (top_level o)) ≡ pick a ordinary (top_level o)
    go true o = refl
    go false o = refl

li_still : (k : Kind) (f : Frame) (w : List ℕ) (c : Bool) → (same_kind k NodeElt && eqb (has f PART) 1) ≡ false → note_li c (part_of k f w) ≡ part_of k f w
unfolding part_of note_li
li_still Rdf f w c n = rdf-part f w c
li_still NodeElt f w c n = node-part f w c (eqb-false (has f PART) 1 n)
li_still PropertyElt f w c n = refl
li_still ParseTypeCollectionPropertyElt f w c n = refl
li_still ParseTypeLiteralPropertyElt f w c n = refl
li_still ParseTypeOtherPropertyElt f w c n = refl
li_still Wrapper f w c n = refl

pub is_node_lem : (k : Kind) → same_kind k NodeElt ≡ true → k ≡ NodeElt
is_node_lem Rdf e = absurd (false≢true e)
is_node_lem NodeElt e = refl
is_node_lem PropertyElt e = absurd (false≢true e)
is_node_lem ParseTypeCollectionPropertyElt e = absurd (false≢true e)
is_node_lem ParseTypeLiteralPropertyElt e = absurd (false≢true e)
is_node_lem ParseTypeOtherPropertyElt e = absurd (false≢true e)
is_node_lem Wrapper e = absurd (false≢true e)

module _ {r : Registers} {fs bs is w gs : List ℕ} {c : Bool} (x : Valid r fs bs is w) (z : r.counts.inner ≡ 0) (p : NotesLi r fs c gs) where
  pub note_li-holds : Holds r gs bs is w r.mode (start_of r w) (note_part (note_li c) (elements_of r fs bs is w)) r.flags.rooted r.counts.labels
  unfolding awaits kind_ok what_of subject_of
  note_li-holds =
      by (awaits NodeElt (top_frame r fs))
      (λ y.
      let k : same_kind (top_frame r fs).kind NodeElt ≡ true = and_left _ _ y in
      let e : has (top_frame r fs) PART ≡ 1 = eqb-true _ _ (and_right (same_kind (top_frame r fs).kind NodeElt) _ y) in
      let d : 0 < r.counts.depth = top_deep r fs (λ i. false≢true (ap (λ (g : Kind). same_kind g NodeElt) (sym i) ∙ k)) in
      let h = mark-holds x d (p.waits y) (omega arith) (omega arith) NodeElt (is_node_lem (top_frame r fs).kind k) (λ q. q) (note_li c)
      (λ f l o. rw (get_or-set_other f.has PART COUNT (carried_word c) 0 (λ i. omega arith)) o)
      (λ f l s q. rw (get_or-set_other f.has PART COUNT (carried_word c) 0 (λ i. omega arith), get_or-set_other f.has PART BLANK (carried_word c) 0 (λ i. omega arith)))
      (λ f l q. carried_part f w c l (rw q e)) in
      rw (← topped-noted x z (r.counts.depth - 1) (topmost x d).depth (note_li c)) h)
      (λ n.
      let q = p.none n in
      let s : note_part (note_li c) (elements_of r fs bs is w) ≡ elements_of r fs bs is w =
      still_noted x z (note_li c)
      (λ i d.
      let t = topmost x (omega (arith, d)) in
      let j : r.counts.depth - 1 ≡ i = omega (arith, d) in
      li_still (frame_at fs i).kind (frame_at fs i) w c (rw (t.frame, j) at n)) in
      rw (q, s) (record { valid = x; chosen = refl; base = refl; elements = refl; root = refl; count = refl }))

-- ---- the rdf:about of the first top-level element

-- the tail of frame f holds text a, which is noted
pub record NotesTail (r : Registers) (fs w : List ℕ) (f : Frame) (a : List ℕ) (q : Registers) (gs v : List ℕ) : Type 0 where
  pub changed : std.Option Registers
  pub tails : Tails r fs w f (at f TAIL) 2 a changed gs v
  pub done : is_some changed ≡ true → q ≡ noting_to r (at f TAIL + length a) (length a)

pub record NotesAbout (r : Registers) (fs w a : List ℕ) (q : Registers) (gs v : List ℕ) : Type 0 where
  pub flags : q.flags ≡ r.flags
  pub counts : q.counts ≡ r.counts
  pub waits : awaits Rdf (top_frame r fs) ≡ true → NotesTail r fs w (top_frame r fs) a q gs v
  pub none : awaits Rdf (top_frame r fs) ≡ false → (q ≡ r) × (gs ≡ fs) × (v ≡ w)
  pub same_words : length gs ≡ length fs
  pub same_bytes : length v ≡ length w

-- its registers
noted_tail : {r q : Registers} {fs w : List ℕ} {f : Frame} {from what : ℕ} {a : List ℕ} {c : std.Option Registers} {gs v : List ℕ} {n : ℕ} → Tails r fs w f from what a c gs v
    → q ≡ noting_to (unwrap_or c r) (unwrap_or c r).store.top n → is_some c ≡ true → q ≡ noting_to r (from + length a) n
noted_tail {n = n} t e y = e ∙ ap (λ (g : Registers). noting_to g g.store.top n) (t.moved (sym t.answer ∙ y))

-- a tail leaves flags and counts
tail_others : {r : Registers} {fs w : List ℕ} {f : Frame} {from what : ℕ} {a : List ℕ} {c : std.Option Registers} {gs v : List ℕ} → Tails r fs w f from what a c gs v
    → ((unwrap_or c r).flags ≡ r.flags) × ((unwrap_or c r).counts ≡ r.counts)
tail_others {r} {fs} {w} {f} {from} {what} {a} t =
    by (may_tail r fs w from (length a))
    (λ y. let e = t.moved y in (ap (λ (g : Registers). g.flags) e, ap (λ (g : Registers). g.counts) e))
    (λ n. let e = (t.kept n).2 in (ap (λ (g : Registers). g.flags) e, ap (λ (g : Registers). g.counts) e))

module _ {r : Registers} {fs w a : List ℕ} {f : Frame} (e : f ≡ top_frame r fs) where
  about_not : awaits Rdf f ≡ false → NotesAbout r fs w a r fs w
  about_not n = record { flags = refl; counts = refl; waits = λ y. differ y (rw (← e) n); none = λ _. (refl, refl, refl); same_words = refl; same_bytes = refl }

  pub no_rdf : same_kind f.kind Rdf ≡ false → NotesAbout r fs w a r fs w
  unfolding awaits
  no_rdf n = about_not (rw n)

  pub rdf-noted : same_kind f.kind Rdf ≡ true → (has f PART ≡ 1 → ⊥) → NotesAbout r fs w a r fs w
  unfolding awaits
  rdf-noted y n = about_not (rw (y, ne_eqb (has f PART) 1 n))

  pub about-noted : {c : std.Option Registers} {g : Registers} {gs v : List ℕ} → same_kind f.kind Rdf ≡ true → has f PART ≡ 1
      → Tails r fs w f (at f TAIL) 2 a c gs v → g ≡ noting_to (unwrap_or c r) (unwrap_or c r).store.top (length a) → NotesAbout r fs w a g gs v
  unfolding awaits
  about-noted {c} y q t d =
      let n : awaits Rdf f ≡ true = rw (y, eq-eqb (has f PART) 1 q) in
      let o = tail_others t in
      record {
        flags = ap (λ (z : Registers). z.flags) d ∙ o.0;
        counts = ap (λ (z : Registers). z.counts) d ∙ o.1;
        waits = λ _. rw (← e) (record { changed = c; tails = t; done = noted_tail t d });
        none = λ m. differ n (rw (← e) at m);
        same_words = t.same_words;
        same_bytes = t.same_bytes;
      }

-- what it means
about-part : (f : Frame) (w v a : List ℕ) → length f.at ≡ PLACES → length f.has ≡ MARKS → has f PART ≡ 1 → span v (at f TAIL) (at f TAIL + length a) ≡ a
    → part_of Rdf (tail_to f (at f TAIL + length a) 2) v ≡ note_about a (part_of Rdf f w)
unfolding part_of note_about
about-part f w v a p m e s =
    rw (
      get_or-set_same f.has PART 2 0 (omega arith),
      get_or-set_same f.at END (at f TAIL + length a) 0 (omega arith),
      get_or-set_other f.at END TAIL (at f TAIL + length a) 0 (λ i. omega arith),
      e,
      s,
    )

rdf_still : (f : Frame) (w : List ℕ) (a : Bytes) → (has f PART ≡ 1 → ⊥) → note_about a (part_of Rdf f w) ≡ part_of Rdf f w
unfolding part_of note_about
rdf_still f w a n = rw (ne_eqb (has f PART) 1 n) (go (eqb (has f PART) 0) _)
  where
    go : (x : Bool) (t : Bytes) → note_about a (pick x ordinary (top_level (pick false none (some t)))) ≡ pick x ordinary (top_level (pick false none (some t)))
    go true t = refl
    go false t = refl

node_still : (f : Frame) (w : List ℕ) (a : Bytes) → note_about a (part_of NodeElt f w) ≡ part_of NodeElt f w
unfolding part_of note_about
node_still f w a = go (eqb (has f PART) 0) _
  where
    go : (x : Bool) (o : Option Bool) → note_about a (pick x ordinary (alternatives o)) ≡ pick x ordinary (alternatives o)
    go true o = refl
    go false o = refl

about_still : (k : Kind) (f : Frame) (w : List ℕ) (a : Bytes) → (same_kind k Rdf && eqb (has f PART) 1) ≡ false → note_about a (part_of k f w) ≡ part_of k f w
unfolding part_of note_about
about_still Rdf f w a n = rdf_still f w a (eqb-false (has f PART) 1 n)
about_still NodeElt f w a n = node_still f w a
about_still PropertyElt f w a n = refl
about_still ParseTypeCollectionPropertyElt f w a n = refl
about_still ParseTypeLiteralPropertyElt f w a n = refl
about_still ParseTypeOtherPropertyElt f w a n = refl
about_still Wrapper f w a n = refl

is_rdf : (k : Kind) → same_kind k Rdf ≡ true → k ≡ Rdf
is_rdf Rdf e = refl
is_rdf NodeElt e = absurd (false≢true e)
is_rdf PropertyElt e = absurd (false≢true e)
is_rdf ParseTypeCollectionPropertyElt e = absurd (false≢true e)
is_rdf ParseTypeLiteralPropertyElt e = absurd (false≢true e)
is_rdf ParseTypeOtherPropertyElt e = absurd (false≢true e)
is_rdf Wrapper e = absurd (false≢true e)

-- rdf:RDF is the root or stands in the wrapper, which is the root: nothing is noted below it
none_below : (fs bs w : List ℕ) (base n top b : ℕ) → frames_ok fs bs w base n top b ≡ true → is_root_in fs n ≡ true → noted_in fs n ≡ 0
unfolding is_root_in is_wrapper noted_in noted_by stands
none_below fs bs w base zero top b h e = refl
none_below fs bs w base (suc n) top b h e =
    let k : (frame_at fs n).kind ≡ Wrapper = wraps (frame_at fs n).kind e in
    let s = top_sound fs bs w n top b base h in
    let z : n ≡ 0 = eqb-true n 0 (rw k at s.stood) in
    rw (k, z)
  where
    wraps : (k : Kind) → is_wrapper k ≡ true → k ≡ Wrapper
    wraps Rdf i = absurd (false≢true i)
    wraps NodeElt i = absurd (false≢true i)
    wraps PropertyElt i = absurd (false≢true i)
    wraps ParseTypeCollectionPropertyElt i = absurd (false≢true i)
    wraps ParseTypeLiteralPropertyElt i = absurd (false≢true i)
    wraps ParseTypeOtherPropertyElt i = absurd (false≢true i)
    wraps Wrapper i = refl

module _ {r : Registers} {fs bs is w a gs v : List ℕ} {q : Registers} (x : Valid r fs bs is w) (p : NotesAbout r fs w a q gs v)
    (room : r.store.top + length a ≤ r.store.low) where
  -- no frame is on top where nothing is open
  waiting_deep : has (top_frame r fs) PART ≡ 1 → 0 < r.counts.depth
  unfolding top_frame
  waiting_deep e =
      by (eqb r.counts.depth 0)
      (λ h. let n : ◌≡◌ {A = ℕ} 0 1 = rw h at e in absurd (omega arith))
      (λ h. positive r.counts.depth (eqb-false r.counts.depth 0 h))

  may_note : (y : awaits Rdf (top_frame r fs) ≡ true) (d : 0 < r.counts.depth) → may_tail r fs w (at (frame_at fs (r.counts.depth - 1)) TAIL) (length a) ≡ true
  unfolding may_tail L.all
  may_note y d =
      let t = topmost x d in
      let n : ℕ = r.counts.depth - 1 in
      let f : Frame = frame_at fs n in
      let tp = top_frame_lem x n t.depth in
      let u : Rising f = rising f tp.up in
      let o = Held.room x in
      rw (
        lt-ltb 0 r.counts.depth d,
        le-leb r.store.low 65_536 o.low,
        le-leb r.store.low (length w) (omega (arith, o.low, x.store)),
        le-leb (at f TAIL + length a) r.store.low (omega (arith, u.tail, tp.ends)),
        le-leb (n * FRAME + FRAME) (length fs) t.room,
      )

  waited_part : awaits Rdf (top_frame r fs) ≡ true → has (top_frame r fs) PART ≡ 1
  unfolding awaits
  waited_part y = eqb-true _ _ (and_right (same_kind (top_frame r fs).kind Rdf) _ y)

  -- the frame on top behind it
  noted-frame : (y : awaits Rdf (top_frame r fs) ≡ true) → frame_at gs (r.counts.depth - 1) ≡ tail_to (frame_at fs (r.counts.depth - 1)) (at (frame_at fs (r.counts.depth - 1)) TAIL + length a) 2
  noted-frame y =
      let d = waiting_deep (waited_part y) in
      let t = topmost x d in
      let n : ℕ = r.counts.depth - 1 in
      let f : Frame = frame_at fs n in
      let nt : NotesTail r fs w f a q gs v = rw t.frame at (p.waits y) in
      let al = tail_alike f (at f TAIL + length a) 2 (length_at fs n t.room) (length_has fs n t.room) in
      load_store (stored_frame n t.room al.places al.marks (nt.tails.stored (may_note y d))) t.room al.places al.marks

  waited : r.counts.inner ≡ 0 → length a ≤ 1_024 → awaits Rdf (top_frame r fs) ≡ true
      → Holds q gs bs is v r.mode (start_of r w) (note_part (note_about a) (elements_of r fs bs is w)) r.flags.rooted r.counts.labels
  unfolding awaits kind_ok what_of stands noted_by noted_in
  waited z short y =
      let e₁ = waited_part y in
      let d = waiting_deep e₁ in
      let t = topmost x d in
      let n : ℕ = r.counts.depth - 1 in
      let f : Frame = frame_at fs n in
      let e : top_frame r fs ≡ f = t.frame in
      let part_is_lem : has f PART ≡ 1 = rw e at e₁ in
      let kind : f.kind ≡ Rdf = is_rdf f.kind (rw e at (and_left (same_kind (top_frame r fs).kind Rdf) _ y)) in
      let to : ℕ = at f TAIL + length a in
      let la = length_at fs n t.room in
      let lh = length_has fs n t.room in
      let tp = top_frame_lem x n t.depth in
      let u : Rising f = rising f tp.up in
      let o = Held.room x in
      let nt : NotesTail r fs w f a q gs v = rw e at (p.waits y) in
      let m : may_tail r fs w (at f TAIL) (length a) ≡ true = may_note y d in
      let al = tail_alike f to 2 la lh in
      let te = tail_end f to 2 la lh in
      let wr : Wrote w v (at f TAIL) to a = record { room = omega (arith, u.tail, tp.ends, o.low, x.store); up = refl; eq = nt.tails.wrote m } in
      let st : StoredFrame fs n (tail_to f to 2) gs true = stored_frame n t.room al.places al.marks (nt.tails.stored m) in
      let kd : kind_ok f.kind (tail_to f to 2) v ≡ true =
      ap (λ (g : Kind). kind_ok g (tail_to f to 2) v) kind ∙ (rw (al.main, al.tail) (sym (ap (λ (g : Kind). kind_ok g f w) kind) ∙ tp.kind)) in
      let wt : (s : Subject) → what_of f.kind (tail_to f to 2) v s ≡ what_of f.kind f w s =
      λ s. ap (λ (g : Kind). what_of g (tail_to f to 2) v s) kind ∙ ap (λ (g : Kind). what_of g f w s) (sym kind) in
      let pt : part_of f.kind (tail_to f to 2) v ≡ note_about a (part_of f.kind f w) =
      ap (λ (g : Kind). part_of g (tail_to f to 2) v) kind ∙ (about-part f w v a la lh part_is_lem (stands-span to (stands_wrote wr) refl) ∙ ap (λ (g : Kind). note_about a (part_of g f w)) (sym kind)) in
      let root : is_root_in fs n ≡ true = sym (ap (λ (g : Kind). stands g fs n) kind) ∙ tp.stood in
      let zero-below = none_below fs bs w r.store.base n (at f NAME) (first f) (under x n t.depth) root in
      let all : r.store.noted ≡ noted_in fs n + noted_of f = rw t.depth at x.noted in
      let new : noted_of (tail_to f to 2) ≡ length a = ap (λ (g : Kind). noted_by g (tail_to f to 2)) kind ∙ omega (arith, te, al.tail) in
      let res = renoted x n t.depth (λ g. g) (note_about a) (length a) short (omega arith) al st (kept_less (kept_before wr) (omega arith) (omega arith))
      (kept_less (kept_behind 65_536 wr) (omega (arith, u.tail, tp.ends)) (omega arith)) nt.tails.same_bytes (omega (arith, te)) (omega (arith, te, u.tail, tp.ends)) kd wt pt in
      rw (nt.done (nt.tails.answer ∙ m), ← te, ← topped-noted x z n t.depth (note_about a)) res

  pub note_about-holds : r.counts.inner ≡ 0 → length a ≤ 1_024 → Holds q gs bs is v r.mode (start_of r w) (note_part (note_about a) (elements_of r fs bs is w)) r.flags.rooted r.counts.labels
  unfolding awaits
  note_about-holds z short =
      by (awaits Rdf (top_frame r fs))
      (waited z short)
      (λ n.
      let k = p.none n in
      let s : note_part (note_about a) (elements_of r fs bs is w) ≡ elements_of r fs bs is w =
      still_noted x z (note_about a)
      (λ i d.
      let t = topmost x (omega (arith, d)) in
      let j : r.counts.depth - 1 ≡ i = omega (arith, d) in
      about_still (frame_at fs i).kind (frame_at fs i) w a (rw (t.frame, j) at n)) in
      rw (k.0, k.1, k.2, s) (record { valid = x; chosen = refl; base = refl; elements = refl; root = refl; count = refl }))

-- ---- what stays of the element on top: its kind, and its subject

-- what may stand in an element depends on its kind
kinds_stand : (fs gs : List ℕ) (n : ℕ) → (frame_at gs n).kind ≡ (frame_at fs n).kind → (k : Kind) → stands k gs (suc n) ≡ stands k fs (suc n)
unfolding stands node_below is_root_in
kinds_stand fs gs n e Rdf = rw e
kinds_stand fs gs n e NodeElt = refl
kinds_stand fs gs n e PropertyElt = rw e
kinds_stand fs gs n e ParseTypeCollectionPropertyElt = rw e
kinds_stand fs gs n e ParseTypeLiteralPropertyElt = rw e
kinds_stand fs gs n e ParseTypeOtherPropertyElt = rw e
kinds_stand fs gs n e Wrapper = refl

pub record SameTop (r : Registers) (fs w gs v : List ℕ) : Type 0 where
  pub kind : 0 < r.counts.depth → (frame_at gs (r.counts.depth - 1)).kind ≡ (frame_at fs (r.counts.depth - 1)).kind
  pub subject : 0 < r.counts.depth → subject_of (frame_at gs (r.counts.depth - 1)) v ≡ subject_of (frame_at fs (r.counts.depth - 1)) w

pub same_top : (r : Registers) (fs w : List ℕ) → SameTop r fs w fs w
same_top r fs w = record { kind = λ d. refl; subject = λ d. refl }

pub same_then : {r : Registers} {fs w gs v hs u : List ℕ} → SameTop r fs w gs v → SameTop r gs v hs u → SameTop r fs w hs u
same_then s t = record { kind = λ d. t.kind d ∙ s.kind d; subject = λ d. t.subject d ∙ s.subject d }

module _ {r : Registers} {fs bs is w gs : List ℕ} {m v : ℕ} {b : Bool} (x : Valid r fs bs is w) (p : Marks r fs (top_frame r fs) m v b gs) (lo : 4 < m) (hi : m < 7) where
  pub same-marked : SameTop r fs w gs w
  unfolding subject_of
  same-marked =
      record {
        kind = λ d. rw (marked-frame x d p lo hi);
        subject = λ d. rw (marked-frame x d p lo hi, get_or-set_other (frame_at fs (r.counts.depth - 1)).has m BLANK v 0 (λ i. omega arith));
      }

pub same-rdf : {r : Registers} {fs bs is w gs : List ℕ} → Valid r fs bs is w → HasRdf r fs gs → SameTop r fs w gs w
same-rdf {r} {fs} {bs} {is} {w} {gs} x p =
    by (same_kind (top_frame r fs).kind Wrapper)
    (λ y. same-marked x (p.had y) (omega arith) (omega arith))
    (λ n. rw (p.none n) (same_top r fs w))

pub same-li : {r : Registers} {fs bs is w gs : List ℕ} {c : Bool} → Valid r fs bs is w → NotesLi r fs c gs → SameTop r fs w gs w
same-li {r} {fs} {bs} {is} {w} {gs} x p =
    by (awaits NodeElt (top_frame r fs))
    (λ y. same-marked x (p.waits y) (omega arith) (omega arith))
    (λ n. rw (p.none n) (same_top r fs w))

module _ {r : Registers} {fs bs is w a gs v : List ℕ} {q : Registers} (x : Valid r fs bs is w) (p : NotesAbout r fs w a q gs v) (room : r.store.top + length a ≤ r.store.low) where
  about-same : awaits Rdf (top_frame r fs) ≡ true → SameTop r fs w gs v
  unfolding subject_of
  about-same y =
      let d = waiting_deep x p room (waited_part x p room y) in
      let t = topmost x d in
      let n : ℕ = r.counts.depth - 1 in
      let f : Frame = frame_at fs n in
      let tp = top_frame_lem x n t.depth in
      let u : Rising f = rising f tp.up in
      let e = noted-frame x p room y in
      let al = tail_alike f (at f TAIL + length a) 2 (length_at fs n t.room) (length_has fs n t.room) in
      let nt : NotesTail r fs w f a q gs v = rw t.frame at (p.waits y) in
      let o = Held.room x in
      let wr : Wrote w v (at f TAIL) (at f TAIL + length a) a = record { room = omega (arith, u.tail, tp.ends, o.low, x.store); up = refl; eq = nt.tails.wrote (may_note x p room y d) } in
      record {
        kind = λ _. rw e;
        subject = λ _. rw (e, al.main, al.id, al.is_blank, span_kept (kept_before wr) (at f MAIN) (at f ID) (omega arith) (omega arith) (omega arith));
      }

  pub same-about : SameTop r fs w gs v
  same-about =
      by (awaits Rdf (top_frame r fs))
      about-same
      (λ n. let k = p.none n in rw (k.1, k.2) (same_top r fs w))

-- so any element may stand in it that might, and its subject is the same
module _ {r : Registers} {fs w gs v : List ℕ} (s : SameTop r fs w gs v) where
  pub same-stands : (k : Kind) → stands k gs r.counts.depth ≡ stands k fs r.counts.depth
  unfolding stands node_below is_root_in
  same-stands k = go r.counts.depth refl k
    where
      kept : (n : ℕ) → r.counts.depth ≡ suc n → (frame_at gs n).kind ≡ (frame_at fs n).kind
      kept n e = let j : r.counts.depth - 1 ≡ n = omega (arith, e) in rw j at (s.kind (omega (arith, e)))

      none : (k : Kind) → stands k gs 0 ≡ stands k fs 0
      none Rdf = refl
      none NodeElt = refl
      none PropertyElt = refl
      none ParseTypeCollectionPropertyElt = refl
      none ParseTypeLiteralPropertyElt = refl
      none ParseTypeOtherPropertyElt = refl
      none Wrapper = refl

      go : (d : ℕ) → r.counts.depth ≡ d → (k : Kind) → stands k gs d ≡ stands k fs d
      go zero e k = none k
      go (suc n) e k = kinds_stand fs gs n (kept n e) k

  pub same-below : subject_below gs v r.counts.depth ≡ subject_below fs w r.counts.depth
  unfolding subject_below
  same-below = go r.counts.depth refl
    where
      go : (d : ℕ) → r.counts.depth ≡ d → subject_below gs v d ≡ subject_below fs w d
      go zero e = refl
      go (suc n) e = let j : r.counts.depth - 1 ≡ n = omega (arith, e) in rw j at (s.subject (omega (arith, e)))

pub li-same : {r : Registers} {fs gs : List ℕ} {b : Bool} → CountsLi r fs b gs → b ≡ true → (w : List ℕ) → SameTop r fs w gs w
unfolding subject_of
li-same {r} {fs} p y w =
    let f : Frame = frame_at fs (r.counts.depth - 1) in
    record {
      kind = λ d. rw (li-frame p y);
      subject = λ d. rw (li-frame p y, get_or-set_other f.has COUNT BLANK (count f + 1) 0 (λ i. omega arith));
    }
