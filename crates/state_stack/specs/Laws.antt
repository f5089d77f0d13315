-- What the calls do to a valid state, said of the document that it means. These are the laws to cite.
use Prim.Native.Nat.{ℕ, suc, ◌+◌, ◌-◌, ◌*◌, ◌<◌, ◌≤◌}
use Rattle.std.specs.Prelude.{◌≡◌, refl, Option, is_some, unwrap_or, Bool, false, List, [], ◌∷◌, ◌++◌, eqb, leb, ltb}
use Rattle.std.proofs.Math.Path.{sym, ap}
use Rattle.std.proofs.Common.{◌∙◌, length-set, get_or-set_same, get_or-set_other, add-one}
use Rattle.std.proofs.Math.Bool.{true}
use Rattle.std.proofs.lemmas.Bool.{false≢true}
use native.Mathlib.Omega.{arith}
use Rattle.std.proofs.Math.ListN.{length, length-append}
use Rattle.std.proofs.Math.Seq.{take-length, take-append_seam, drop-append_seam}
use Rattle.std.proofs.Math.Nat.{add-zero}
use borrow.Author.Tests.{eqb-true, eqb-false, leb-true, ltb-true, eq-eqb, ne_eqb, le-leb, lt-ltb}
use Rattle.spec.specs.Limits as L
use Rattle.spec.specs.Bytes.{Bytes, when◌then◌else◌}
use Rattle.spec.specs.Limits.{most_labels}
use Rattle.spec.specs.Namespaces.{Binding}
use Rattle.spec.specs.NTriples.{Subject}
use Rattle.spec.specs.Document.{Value, Part, on_value, change_value}
use Rattle.spec.specs.Productions.{is_li}
use Rattle.spec.specs.Opening.{count_li}
use Rattle.spec.specs.Opening as G
use Rattle.spec.specs.XmlLiteral.{takes_xml}
use Rattle.spec.specs.RdfXml.{takes_text}
use Rattle.spec.proofs.Booleans.{and_left, and_right}
use Rattle.copy.specs.Copy.{part, stored_at, Wrote, part-inside, part_add, wrote_part, length_stored}
use Rattle.state_words.specs.Parts.{NAME, BINDINGS, BASE, TAG, MAIN, ID, DATATYPE, TAIL, END, PLACES, BASED, TAGGED, BLANK, IDENTIFIED, TYPED, PENDING, PART, COUNT, FIRST, MARKS, HEAD, FRAME, TABLE}
use Rattle.state_words.specs.declared.Kind.{Kind}
use Rattle.state_words.specs.declared.Kind.TheVariants.{Rdf, NodeElt, PropertyElt, ParseTypeCollectionPropertyElt, ParseTypeLiteralPropertyElt, ParseTypeOtherPropertyElt, Wrapper}
use Rattle.state_words.specs.declared.Frame.{Frame}
use Rattle.state_words.specs.Kept.{Kept, kept_all, kept_less, kept_before, kept_behind}
use Rattle.state_words.specs.Words.{frame_at, row_at, words_of, StoredFrame, load_frame_lem, load_store, frame_wrote, row_there, length-words}
use Rattle.state.specs.declared.Registers.{Registers}
use Rattle.state.specs.Meaning.{at, has, count, first, span, object_of, binding_of, bindings_of, subject_of, what_of, part_of, element_of, subject_below, frames_of, start_of, elements_of}
use Rattle.state.specs.Valid.{noted_by, noted_of, parts_ok, chained, kind_ok, empty_or, stands, Rising, Valid, rising, rises_up}
use Rattle.state.specs.Tests.{positive}
use Rattle.state.specs.Stay.{chained_on, chained_kept, bindings_kept, stands_kept, below_kept}
use Rattle.state_stack.specs.Change.{Holds, On, pushed, popped, top_frame_lem}
use Rattle.state_stack.specs.Calls.{Pushes, may_push, Pops, may_pop, Binds, may_bind, top_frame, same_kind, tail_to, counted, Tails, may_tail, Texts, Xmls, CountsLi, may_count}
use Rattle.state_stack.specs.Top.{Alike, alike_property, quiet, node_quiet, property_quiet, literal_quiet, retailed, as_it_was, topped_change, topped-same, topped_flat}

-- ---- bytes of a part among others

module _ {w v : List ℕ} {a to : ℕ} where
  pub front_of_lem : (p s : List ℕ) → Wrote w v a to (p ++ s) → part v a (length p) ≡ p
  unfolding part
  front_of_lem p s h =
      let l = length-append p s in
      let i : part (stored_at w a (p ++ s)) (a + 0) (length p) ≡ part (p ++ s) 0 (length p) = part-inside w a (p ++ s) 0 (length p) h.room (omega arith) in
      rw h.eq (rw add-zero at i ∙ take-append_seam p s)

  pub back_of_lem : (p s : List ℕ) → Wrote w v a to (p ++ s) → part v (a + length p) (length s) ≡ s
  unfolding part
  back_of_lem p s h =
      let l = length-append p s in
      rw h.eq (part-inside w a (p ++ s) (length p) (length s) h.room (omega arith) ∙ rw (drop-append_seam p s, take-length s))

  pub middle_of : (p s q : List ℕ) → Wrote w v a to (p ++ (s ++ q)) → part v (a + length p) (length s) ≡ s
  unfolding part
  middle_of p s q h =
      let l : length (p ++ (s ++ q)) ≡ length p + (length s + length q) = length-append p (s ++ q) ∙ ap (length p +◌) (length-append s q) in
      rw h.eq (part-inside w a (p ++ (s ++ q)) (length p) (length s) h.room (omega arith) ∙ rw (drop-append_seam p (s ++ q), take-append_seam s q))

-- ---- bindings

-- n bindings from b on: they lie end to end from `from` up to `to`, and are these, the last one first
pub record Bound (bs w : List ℕ) (b n from to : ℕ) (bound : List Binding) : Type 0 where
  pub chain : chained bs b n from to ≡ true
  pub are : bindings_of bs w b n ≡ bound

pub bound_none : {bs w : List ℕ} {b from : ℕ} → Bound bs w b 0 from from []
unfolding chained bindings_of
bound_none {bs} {w} {b} {from} = record { chain = eq-eqb from from refl; are = refl }

-- ---- where the binds of one start tag went: behind others' rows, and behind what is held below
pub record RowPut (w bs v cs : List ℕ) (a n : ℕ) (p s : Bytes) : Type 0 where
  pub bytes : Wrote w v a (a + (length p + length s)) (p ++ s)
  pub words : Wrote bs cs (n * 3) (n * 3 + 3) (a ∷ length p ∷ length s ∷ [])

pub bind_put : {w bs v cs : List ℕ} {a n : ℕ} {p s : Bytes} {r : Bool} → Binds w bs a n p s v cs r → r ≡ true → RowPut w bs v cs a n p s
unfolding L.all may_bind
bind_put {w} {bs} {v} {cs} {a} {n} {p} {s} {r} h y =
    let m : may_bind w bs a n p s ≡ true = sym h.answer ∙ y in
    let m1 = and_right (leb (length w) 65_536) _ m in
    let i : a + (length p + length s) ≤ length w = leb-true _ _ (and_left (leb (a + (length p + length s)) (length w)) _ m1) in
    let j : n * 3 + 3 ≤ length bs = leb-true _ _ (and_right (leb (a + (length p + length s)) (length w)) _ m1) in
    let e = h.wrote m in
    record {
      bytes = record { room = rw (length-append p s) i; up = rw (length-append p s); eq = e.0 };
      words = record { room = j; up = refl; eq = e.1 };
    }

-- one more binding of the same start tag
pub bound_more : {w bs v cs : List ℕ} {b n from a : ℕ} {p s : Bytes} {bound : List Binding} → Bound bs w b n from a bound → RowPut w bs v cs a (b + n) p s
    → Bound cs v b (suc n) from (a + (length p + length s)) ((p, s) ∷ bound)
unfolding bindings_of binding_of
bound_more {w} {bs} {v} {cs} {b} {n} {from} {a} {p} {s} {bound} h q =
    let row : row_at cs (b + n) ≡ record { at = a; name = length p; more = length s } = row_there (b + n) q.words in
    let kb : Kept bs cs 0 ((b + n) * 3) = kept_before q.words in
    let kw : Kept w v 0 a = kept_before q.bytes in
    let c : chained cs b n from a ≡ true = chained_kept kb b n from a (omega arith) (omega arith) h.chain in
    let x : part v a (length p) ≡ p = front_of_lem p s q.bytes in
    let y : part v (a + length p) (length s) ≡ s = back_of_lem p s q.bytes in
    record {
      chain = chained_on cs b n from (a + (length p + length s)) (record { ends = rw row (omega arith); rest = rw row c });
      are =
          rw (
            row,
            x,
            y,
            bindings_kept kb kw b n from a (omega arith) (omega arith) (omega arith) (omega arith) h.chain,
            h.are,
          );
    }

-- ---- a push

-- a new element, whose bytes, bindings and places are right
pub record New (r : Registers) (fs bs w cs v : List ℕ) (f : Frame) (b : ℕ) (bound : List Binding) : Type 0 where
  pub places : length f.at ≡ PLACES
  pub marks : length f.has ≡ MARKS
  pub words : Kept bs cs 0 (r.counts.outer * 3)
  pub bytes : Kept w v 0 r.store.top
  pub same_words : length cs ≡ length bs
  pub same_bytes : length v ≡ length w
  pub starts : at f NAME ≡ r.store.top
  pub ends : at f END ≤ r.store.low
  pub up : Rising f
  pub firsts : first f ≡ r.counts.outer
  pub least : r.counts.outer ≤ b
  pub most : b ≤ 128
  pub bindings : Bound cs v r.counts.outer (b - r.counts.outer) (at f BINDINGS) (at f BASE) bound
  pub parts : parts_ok f ≡ true
  pub kind : kind_ok f.kind f v ≡ true
  pub stood : stands f.kind fs r.counts.depth ≡ true
  pub nothing : noted_of f ≡ 0

pub record Flat (r : Registers) (fs : List ℕ) : Type 0 where
  pub inner : r.counts.inner ≡ 0
  pub depth : r.counts.depth < 64
  pub room : r.counts.depth * FRAME + FRAME ≤ length fs

may_push_lem : (r : Registers) (fs : List ℕ) → may_push r fs ≡ true → Flat r fs
unfolding L.all may_push
may_push_lem r fs m =
    let m1 = and_right (eqb r.counts.inner 0) _ m in
    record {
      inner = eqb-true _ _ (and_left (eqb r.counts.inner 0) _ m);
      depth = ltb-true _ _ (and_left (ltb r.counts.depth 64) _ m1);
      room = leb-true _ _ (and_right (ltb r.counts.depth 64) _ m1);
    }

pub push_holds : {r : Registers} {fs bs is w gs cs v : List ℕ} {f : Frame} {b : ℕ} {c : Option Registers} {bound : List Binding}
    → Valid r fs bs is w → Pushes r fs f b c gs → is_some c ≡ true → New r fs bs w cs v f b bound
    → Holds (unwrap_or c r) gs cs is v r.mode (start_of r w) (element_of f bound v (subject_below fs w r.counts.depth) ∷ elements_of r fs bs is w) true r.counts.labels
push_holds {r} {fs} {bs} {is} {w} {gs} {cs} {v} {f} {b} {c} {bound} x p y n =
    let m : may_push r fs ≡ true = sym p.answer ∙ y in
    let t = may_push_lem r fs m in
    let st : StoredFrame fs r.counts.depth f gs true = record { answer = sym (le-leb _ _ t.room); wrote = λ _. p.wrote m; kept = λ l. absurd (omega (arith, t.room)); same = p.same } in
    let kf : Kept fs gs 0 (r.counts.depth * FRAME) = kept_before (frame_wrote st t.room n.places n.marks) in
    let fst = n.firsts in
    let o : On fs gs bs cs w v f r.store.base r.counts.depth r.store.top r.counts.outer (at f END) b =
    record {
      rest = x.frames;
      frames = kf;
      there = load_store st t.room n.places n.marks;
      bindings = n.words;
      bytes = n.bytes;
      starts = n.starts;
      firsts = fst;
      sound =
          record {
            ends = refl;
            up = rises_up f n.up;
            parts = n.parts;
            least = omega (arith, n.least);
            bound = rw fst n.bindings.chain;
            kind = n.kind;
            stood = stands_kept r.counts.depth kf f.kind ∙ n.stood;
          };
    } in
    let h = pushed x t.inner o p.same n.same_words n.same_bytes t.depth n.most n.ends n.nothing in
    let s : subject_below gs v r.counts.depth ≡ subject_below fs w r.counts.depth = below_kept bs r.store.base r.counts.depth r.store.top r.counts.outer kf n.bytes x.frames in
    rw (p.moved m, ← s, ← n.bindings.are) h

-- ---- a pop

pub may_pop_lem : (r : Registers) → may_pop r ≡ true → (r.counts.inner ≡ 0) × (0 < r.counts.depth)
unfolding may_pop
may_pop_lem r m = (eqb-true _ _ (and_left (eqb r.counts.inner 0) _ m), ltb-true _ _ (and_right (eqb r.counts.inner 0) _ m))

-- the element on top, and the others
pub record Topmost (r : Registers) (fs bs is w : List ℕ) (n : ℕ) : Type 0 where
  pub depth : r.counts.depth ≡ suc n
  pub frame : top_frame r fs ≡ frame_at fs n
  pub room : n * FRAME + FRAME ≤ length fs

pub topmost : {r : Registers} {fs bs is w : List ℕ} → Valid r fs bs is w → 0 < r.counts.depth → Topmost r fs bs is w (r.counts.depth - 1)
unfolding top_frame
topmost {r} {fs} {bs} {is} {w} x h =
    let room : (r.counts.depth - 1) * FRAME + FRAME ≤ length fs = omega (arith, x.frame_words, x.deep) in
    record { depth = omega arith; frame = rw (ne_eqb r.counts.depth 0 (λ e. omega arith)) (load_frame_lem fs (r.counts.depth - 1) room); room = room }

pub pop_holds : {r : Registers} {fs bs is w : List ℕ} {c : Option Registers} → Valid r fs bs is w → Pops r fs c → is_some c ≡ true
    → Holds (unwrap_or c r) fs bs is w r.mode (start_of r w) (frames_of fs bs w (r.counts.depth - 1) (first (frame_at fs (r.counts.depth - 1)))) r.flags.rooted r.counts.labels
pop_holds {r} {fs} {bs} {is} {w} {c} x p y =
    let m : may_pop r ≡ true = sym p.answer ∙ y in
    let k = may_pop_lem r m in
    let t = topmost x k.1 in
    rw (p.moved m, load_frame_lem fs (r.counts.depth - 1) t.room) (popped x (r.counts.depth - 1) t.depth k.0)

-- ---- a tail

module _ (f : Frame) (to what : ℕ) (p : length f.at ≡ PLACES) (m : length f.has ≡ MARKS) where
  pub tail_alike : Alike f (tail_to f to what)
  tail_alike =
      record {
        kind = refl;
        name = get_or-set_other f.at END NAME to 0 (λ e. omega arith);
        bindings = get_or-set_other f.at END BINDINGS to 0 (λ e. omega arith);
        base = get_or-set_other f.at END BASE to 0 (λ e. omega arith);
        tag = get_or-set_other f.at END TAG to 0 (λ e. omega arith);
        main = get_or-set_other f.at END MAIN to 0 (λ e. omega arith);
        id = get_or-set_other f.at END ID to 0 (λ e. omega arith);
        type = get_or-set_other f.at END DATATYPE to 0 (λ e. omega arith);
        tail = get_or-set_other f.at END TAIL to 0 (λ e. omega arith);
        has_base = get_or-set_other f.has PENDING BASED what 0 (λ e. omega arith);
        has_tag = get_or-set_other f.has PENDING TAGGED what 0 (λ e. omega arith);
        is_blank = get_or-set_other f.has PENDING BLANK what 0 (λ e. omega arith);
        has_id = get_or-set_other f.has PENDING IDENTIFIED what 0 (λ e. omega arith);
        has_type = get_or-set_other f.has PENDING TYPED what 0 (λ e. omega arith);
        least = get_or-set_other f.has PENDING FIRST what 0 (λ e. omega arith);
        places = length-set f.at END to ∙ p;
        marks = length-set f.has PENDING what ∙ m;
      }

  pub tail_end : at (tail_to f to what) END ≡ to
  tail_end = get_or-set_same f.at END to 0 (omega arith)

  pub tail_what : has (tail_to f to what) PENDING ≡ what
  tail_what = get_or-set_same f.has PENDING what 0 (omega arith)

pub length_at : (fs : List ℕ) (n : ℕ) → n * FRAME + FRAME ≤ length fs → length (frame_at fs n).at ≡ PLACES
unfolding frame_at Rattle.state_words.specs.Words.frame_of
length_at fs n h = Rattle.copy.specs.Copy.length_part (part fs (n * FRAME) FRAME) 1 PLACES (omega (arith, Rattle.copy.specs.Copy.length_part fs (n * FRAME) FRAME h))

pub length_has : (fs : List ℕ) (n : ℕ) → n * FRAME + FRAME ≤ length fs → length (frame_at fs n).has ≡ MARKS
unfolding frame_at Rattle.state_words.specs.Words.frame_of
length_has fs n h = Rattle.copy.specs.Copy.length_part (part fs (n * FRAME) FRAME) HEAD MARKS (omega (arith, Rattle.copy.specs.Copy.length_part fs (n * FRAME) FRAME h))

pub record Tailed (r : Registers) (fs w : List ℕ) (from n : ℕ) : Type 0 where
  pub depth : 0 < r.counts.depth
  pub store : r.store.low ≤ length w
  pub room : from + n ≤ r.store.low

may_tail_lem : (r : Registers) (fs w : List ℕ) (from n : ℕ) → may_tail r fs w from n ≡ true → Tailed r fs w from n
unfolding L.all may_tail
may_tail_lem r fs w from n m =
    let m1 = and_right (ltb 0 r.counts.depth) _ m in
    let m2 = and_right (leb r.store.low 65_536) _ m1 in
    let m3 = and_right (leb r.store.low (length w)) _ m2 in
    record {
      depth = ltb-true _ _ (and_left (ltb 0 r.counts.depth) _ m);
      store = leb-true _ _ (and_left (leb r.store.low (length w)) _ m2);
      room = leb-true _ _ (and_left (leb (from + n) r.store.low) _ m3);
    }

-- a frame stored as a call answers it
pub stored_frame : {fs gs : List ℕ} (n : ℕ) {g : Frame} → n * FRAME + FRAME ≤ length fs → length g.at ≡ PLACES → length g.has ≡ MARKS → gs ≡ stored_at fs (n * FRAME) (words_of g) → StoredFrame fs n g gs true
stored_frame {fs} {gs} n {g} h a b e =
    let l = length-words g a b in
    record { answer = sym (le-leb (n * FRAME + FRAME) (length fs) h); wrote = λ _. e; kept = λ k. absurd (omega arith); same = ap length e ∙ length_stored fs (n * FRAME) (words_of g) (omega arith) }

-- a frame whose places go up, and which has all of them
pub record Fresh (f : Frame) : Type 0 where
  pub up : Rising f
  pub places : length f.at ≡ PLACES
  pub marks : length f.has ≡ MARKS

module _ {r : Registers} {fs bs is w s gs v : List ℕ} {from what : ℕ} {c : Option Registers} (x : Valid r fs bs is w) (h : Value → Value) where
  -- a new tail of the frame on top changes the value of the innermost element outside Literal content
  pub tail_holds : Tails r fs w (top_frame r fs) from what s c gs v → is_some c ≡ true → at (top_frame r fs) TAIL ≤ from → (q : Kind) → (top_frame r fs).kind ≡ q
      → (Fresh (top_frame r fs) → Wrote w v from (from + length s) s → kind_ok q (top_frame r fs) w ≡ true → kind_ok q (tail_to (top_frame r fs) (from + length s) what) v ≡ true)
      → (Fresh (top_frame r fs) → Wrote w v from (from + length s) s → (u : Subject)
      → what_of q (tail_to (top_frame r fs) (from + length s) what) v u ≡ on_value h (what_of q (top_frame r fs) w u))
      → ((f g : Frame) (u : List ℕ) → part_of q g v ≡ part_of q f u) → ((f : Frame) → noted_by q f ≡ 0)
      → Holds (unwrap_or c r) gs bs is v r.mode (start_of r w) (change_value h (elements_of r fs bs is w)) r.flags.rooted r.counts.labels
  tail_holds p y l q z ok eq plain none =
      let m : may_tail r fs w from (length s) ≡ true = sym p.answer ∙ y in
      let t = may_tail_lem r fs w from (length s) m in
      let to : ℕ = from + length s in
      let k = topmost x t.depth in
      let n : ℕ = r.counts.depth - 1 in
      let f : Frame = frame_at fs n in
      let e : top_frame r fs ≡ f = k.frame in
      let kind : f.kind ≡ q = rw e at z in
      let a = length_at fs n k.room in
      let b = length_has fs n k.room in
      let tp = top_frame_lem x n k.depth in
      let u : Rising f = rising f tp.up in
      let new : Fresh f = record { up = u; places = a; marks = b } in
      let al = tail_alike f to what a b in
      let te = tail_end f to what a b in
      let wr : Wrote w v from to s = record { room = omega (arith, t.room, t.store); up = refl; eq = p.wrote m } in
      let st : StoredFrame fs n (tail_to f to what) gs true =
      stored_frame n k.room al.places al.marks (p.stored m ∙ ap (λ (g : Frame). stored_at fs (n * FRAME) (words_of (tail_to g to what))) e) in
      let l' : at f TAIL ≤ from = rw e at l in
      let ok' : Fresh f → Wrote w v from to s → kind_ok q f w ≡ true → kind_ok q (tail_to f to what) v ≡ true = rw e at ok in
      let eq' : Fresh f → Wrote w v from to s → (o : Subject) → what_of q (tail_to f to what) v o ≡ on_value h (what_of q f w o) = rw e at eq in
      let kd : kind_ok f.kind (tail_to f to what) v ≡ true =
      ap (λ (g : Kind). kind_ok g (tail_to f to what) v) kind ∙ ok' new wr (sym (ap (λ (g : Kind). kind_ok g f w) kind) ∙ tp.kind) in
      let wt : (o : Subject) → what_of f.kind (tail_to f to what) v o ≡ on_value h (what_of f.kind f w o) =
      λ o. ap (λ (g : Kind). what_of g (tail_to f to what) v o) kind ∙ (eq' new wr o ∙ ap (λ (g : Kind). on_value h (what_of g f w o)) (sym kind)) in
      let pt : part_of f.kind (tail_to f to what) v ≡ part_of f.kind f w =
      ap (λ (g : Kind). part_of g (tail_to f to what) v) kind ∙ (plain f (tail_to f to what) w ∙ ap (λ (g : Kind). part_of g f w) (sym kind)) in
      let res = retailed x n k.depth (on_value h) as_it_was (quiet q kind none (tail_to f to what) f) al st (kept_less (kept_before wr) (omega arith) l') (kept_less (kept_behind 65_536 wr) t.room (omega arith)) p.same_bytes (omega (arith, te)) (omega (arith, te, t.room)) kd wt pt in
      rw (p.moved m, ← te, ← topped_change x n k.depth h) res

pub by : {A : Type 0} (b : Bool) → (b ≡ true → A) → (b ≡ false → A) → A
by true f g = f refl
by false f g = g refl

pub is_property_lem : (k : Kind) → same_kind k PropertyElt ≡ true → k ≡ PropertyElt
is_property_lem Rdf e = absurd (false≢true e)
is_property_lem NodeElt e = absurd (false≢true e)
is_property_lem PropertyElt e = refl
is_property_lem ParseTypeCollectionPropertyElt e = absurd (false≢true e)
is_property_lem ParseTypeLiteralPropertyElt e = absurd (false≢true e)
is_property_lem ParseTypeOtherPropertyElt e = absurd (false≢true e)
is_property_lem Wrapper e = absurd (false≢true e)

pub is_literal_lem : (k : Kind) → same_kind k ParseTypeLiteralPropertyElt ≡ true → k ≡ ParseTypeLiteralPropertyElt
is_literal_lem Rdf e = absurd (false≢true e)
is_literal_lem NodeElt e = absurd (false≢true e)
is_literal_lem PropertyElt e = absurd (false≢true e)
is_literal_lem ParseTypeCollectionPropertyElt e = absurd (false≢true e)
is_literal_lem ParseTypeLiteralPropertyElt e = refl
is_literal_lem ParseTypeOtherPropertyElt e = absurd (false≢true e)
is_literal_lem Wrapper e = absurd (false≢true e)

pub is_other_lem : (k : Kind) → same_kind k ParseTypeOtherPropertyElt ≡ true → k ≡ ParseTypeOtherPropertyElt
is_other_lem Rdf e = absurd (false≢true e)
is_other_lem NodeElt e = absurd (false≢true e)
is_other_lem PropertyElt e = absurd (false≢true e)
is_other_lem ParseTypeCollectionPropertyElt e = absurd (false≢true e)
is_other_lem ParseTypeLiteralPropertyElt e = absurd (false≢true e)
is_other_lem ParseTypeOtherPropertyElt e = refl
is_other_lem Wrapper e = absurd (false≢true e)

pub is_node_lem : (k : Kind) → same_kind k NodeElt ≡ true → k ≡ NodeElt
is_node_lem Rdf e = absurd (false≢true e)
is_node_lem NodeElt e = refl
is_node_lem PropertyElt e = absurd (false≢true e)
is_node_lem ParseTypeCollectionPropertyElt e = absurd (false≢true e)
is_node_lem ParseTypeLiteralPropertyElt e = absurd (false≢true e)
is_node_lem ParseTypeOtherPropertyElt e = absurd (false≢true e)
is_node_lem Wrapper e = absurd (false≢true e)

-- ---- text

module _ (f : Frame) (w t v : List ℕ) (n : Fresh f) (wr : Wrote w v (at f TAIL) (at f TAIL + length t) t) where
  text-kind : kind_ok PropertyElt (tail_to f (at f TAIL + length t) 3) v ≡ true
  unfolding kind_ok empty_or
  text-kind = rw (tail_what f (at f TAIL + length t) 3 n.places n.marks)

  text_what : (u : Subject) → what_of PropertyElt (tail_to f (at f TAIL + length t) 3) v u ≡ on_value (takes_text t) (what_of PropertyElt f w u)
  unfolding what_of on_value takes_text object_of span
  text_what u =
      let al = tail_alike f (at f TAIL + length t) 3 n.places n.marks in
      let up = n.up in
      let k : Kept w v 0 (at f TAIL) = kept_before wr in
      let d : at f TAIL + length t - at f TAIL ≡ length t = omega arith in
      rw (
        alike_property al up k u,
        al.has_type,
        al.type,
        al.tail,
        tail_what f (at f TAIL + length t) 3 n.places n.marks,
        tail_end f (at f TAIL + length t) 3 n.places n.marks,
        k.parts (at f DATATYPE) (at f TAIL - at f DATATYPE) (omega arith) (omega arith),
        d,
        wrote_part wr,
      )

pub text-holds : {r : Registers} {fs bs is w t gs v : List ℕ} {c : Option Registers} → Valid r fs bs is w → Texts r fs w t c gs v → is_some c ≡ true
    → Holds (unwrap_or c r) gs bs is v r.mode (start_of r w) (change_value (takes_text t) (elements_of r fs bs is w)) r.flags.rooted r.counts.labels
unfolding part_of
text-holds {r} {fs} {bs} {is} {w} {t} {gs} {v} {c} x p y =
    by (same_kind (top_frame r fs).kind PropertyElt)
    (λ q.
    tail_holds x (takes_text t) (p.tails q) y (omega arith) PropertyElt (is_property_lem (top_frame r fs).kind q)
    (λ n wr _. text-kind (top_frame r fs) w t v n wr)
    (λ n wr u. text_what (top_frame r fs) w t v n wr u)
    (λ f g u. refl)
    property_quiet)
    (λ q. absurd (false≢true (sym (p.kept q).ok ∙ y)))

-- ---- XML text

module _ (f : Frame) (w t v : List ℕ) (n : Fresh f) (wr : Wrote w v (at f END) (at f END + length t) t) where
  xml_kind : kind_ok ParseTypeLiteralPropertyElt f w ≡ true → kind_ok ParseTypeLiteralPropertyElt (tail_to f (at f END + length t) (has f PENDING)) v ≡ true
  unfolding kind_ok
  xml_kind h =
      let al = tail_alike f (at f END + length t) (has f PENDING) n.places n.marks in
      rw (al.type, al.tail) h

  xml_what : (u : Subject) → what_of ParseTypeLiteralPropertyElt (tail_to f (at f END + length t) (has f PENDING)) v u ≡ on_value (takes_xml t) (what_of ParseTypeLiteralPropertyElt f w u)
  unfolding what_of on_value takes_xml span
  xml_what u =
      let al = tail_alike f (at f END + length t) (has f PENDING) n.places n.marks in
      let up = n.up in
      let k : Kept w v 0 (at f END) = kept_before wr in
      let d : at f END + length t - at f TAIL ≡ at f END - at f TAIL + length t = omega arith in
      let j : at f TAIL + (at f END - at f TAIL) ≡ at f END = omega arith in
      rw (
        alike_property al up (kept_less k (omega arith) (omega arith)) u,
        al.tail,
        tail_end f (at f END + length t) (has f PENDING) n.places n.marks,
        d,
        part_add v (at f TAIL) (at f END - at f TAIL) (length t),
        k.parts (at f TAIL) (at f END - at f TAIL) (omega arith) (omega arith),
        j,
        wrote_part wr,
      )

-- a parseType other than Literal keeps no XML text
other-stays : (f : Frame) (w t : List ℕ) (u : Subject) → f.kind ≡ ParseTypeOtherPropertyElt → on_value (takes_xml t) (what_of f.kind f w u) ≡ what_of f.kind f w u
unfolding on_value takes_xml what_of
other-stays f w t u e = ap (λ (k : Kind). on_value (takes_xml t) (what_of k f w u)) e ∙ ap (λ (k : Kind). what_of k f w u) (sym e)

-- the kind of a frame that is there
pub top_deep : (r : Registers) (fs : List ℕ) → ((top_frame r fs).kind ≡ Rdf → ⊥) → 0 < r.counts.depth
unfolding top_frame
top_deep r fs h =
    by (eqb r.counts.depth 0)
    (λ e. absurd (h (rw e)))
    (λ e. positive r.counts.depth (eqb-false r.counts.depth 0 e))

pub xml_holds : {r : Registers} {fs bs is w t gs v : List ℕ} {c : Option Registers} → Valid r fs bs is w → Xmls r fs w t c gs v → is_some c ≡ true
    → Holds (unwrap_or c r) gs bs is v r.mode (start_of r w) (change_value (takes_xml t) (elements_of r fs bs is w)) r.flags.rooted r.counts.labels
unfolding part_of
xml_holds {r} {fs} {bs} {is} {w} {t} {gs} {v} {c} x p y =
    by (same_kind (top_frame r fs).kind ParseTypeLiteralPropertyElt)
    (λ q.
    tail_holds x (takes_xml t) (p.tails q) y (places q) ParseTypeLiteralPropertyElt (is_literal_lem (top_frame r fs).kind q)
    (λ n wr h. xml_kind (top_frame r fs) w t v n wr h)
    (λ n wr u. xml_what (top_frame r fs) w t v n wr u)
    (λ f g u. refl)
    literal_quiet)
    (λ q.
    by (same_kind (top_frame r fs).kind ParseTypeOtherPropertyElt)
    (λ o. dropped o)
    (λ o. absurd (false≢true (sym (p.kept q o).ok ∙ y))))
  where
    deep : (k : Kind) → (top_frame r fs).kind ≡ k → (k ≡ Rdf → ⊥) → 0 < r.counts.depth
    deep k e z = top_deep r fs (λ i. z (sym e ∙ i))

    places : same_kind (top_frame r fs).kind ParseTypeLiteralPropertyElt ≡ true → at (top_frame r fs) TAIL ≤ at (top_frame r fs) END
    places q =
        let k = topmost x (top_deep r fs (λ i. false≢true (ap (λ (g : Kind). same_kind g ParseTypeLiteralPropertyElt) (sym i) ∙ q))) in
        let u = rising (frame_at fs (r.counts.depth - 1)) (top_frame_lem x (r.counts.depth - 1) k.depth).up in
        rw k.frame u.tail

    dropped : same_kind (top_frame r fs).kind ParseTypeOtherPropertyElt ≡ true
        → Holds (unwrap_or c r) gs bs is v r.mode (start_of r w) (change_value (takes_xml t) (elements_of r fs bs is w)) r.flags.rooted r.counts.labels
    dropped o =
        let k = topmost x (top_deep r fs (λ i. false≢true (ap (λ (g : Kind). same_kind g ParseTypeOtherPropertyElt) (sym i) ∙ o))) in
        let n : ℕ = r.counts.depth - 1 in
        let e : (frame_at fs n).kind ≡ ParseTypeOtherPropertyElt = is_other_lem (frame_at fs n).kind (ap (λ (g : Frame). same_kind g.kind ParseTypeOtherPropertyElt) (sym k.frame) ∙ o) in
        let d = p.dropped o in
        let same : change_value (takes_xml t) (elements_of r fs bs is w) ≡ elements_of r fs bs is w =
        sym (topped_change x n k.depth (takes_xml t)) ∙ topped-same x n k.depth (on_value (takes_xml t)) (other-stays (frame_at fs n) w t (subject_below fs w n) e) in
        rw (d.0, d.1, d.2, same) (record { valid = x; chosen = refl; base = refl; elements = refl; root = refl; count = refl })

-- ---- rdf:li

counted_alike : (f : Frame) → length f.at ≡ PLACES → length f.has ≡ MARKS → Alike f (counted f)
counted_alike f a b =
    record {
      kind = refl;
      name = refl;
      bindings = refl;
      base = refl;
      tag = refl;
      main = refl;
      id = refl;
      type = refl;
      tail = refl;
      has_base = get_or-set_other f.has COUNT BASED (count f + 1) 0 (λ e. omega arith);
      has_tag = get_or-set_other f.has COUNT TAGGED (count f + 1) 0 (λ e. omega arith);
      is_blank = get_or-set_other f.has COUNT BLANK (count f + 1) 0 (λ e. omega arith);
      has_id = get_or-set_other f.has COUNT IDENTIFIED (count f + 1) 0 (λ e. omega arith);
      has_type = get_or-set_other f.has COUNT TYPED (count f + 1) 0 (λ e. omega arith);
      least = get_or-set_other f.has COUNT FIRST (count f + 1) 0 (λ e. omega arith);
      places = a;
      marks = length-set f.has COUNT (count f + 1) ∙ b;
    }

module _ (f : Frame) (w : List ℕ) (a : length f.at ≡ PLACES) (b : length f.has ≡ MARKS) where
  more : count (counted f) ≡ suc (count f)
  more = get_or-set_same f.has COUNT (count f + 1) 0 (omega arith) ∙ add-one (count f)

  li-kind : count f < 99_999_999 → kind_ok NodeElt f w ≡ true → kind_ok NodeElt (counted f) w ≡ true
  unfolding kind_ok most_labels
  li-kind l h = rw (and_left (eqb (at f ID) (at f END)) _ h, more, le-leb (suc (count f)) 99_999_999 l)

  li_what : (i : Bytes) → is_li i ≡ true → (s : Subject) → what_of NodeElt (counted f) w s ≡ G.counted i (what_of NodeElt f w s)
  unfolding what_of G.counted subject_of when◌then◌else◌
  li_what i e s = rw (e, more, (counted_alike f a b).is_blank)

-- nothing is noted of it in a packet
part-counted : (f : Frame) (w : List ℕ) (q : Kind) → part_of q (counted f) w ≡ part_of q f w
unfolding part_of
part-counted f w Rdf = rw (get_or-set_other f.has COUNT PART (count f + 1) 0 (λ e. omega arith))
part-counted f w NodeElt = rw (get_or-set_other f.has COUNT PART (count f + 1) 0 (λ e. omega arith))
part-counted f w PropertyElt = refl
part-counted f w ParseTypeCollectionPropertyElt = refl
part-counted f w ParseTypeLiteralPropertyElt = refl
part-counted f w ParseTypeOtherPropertyElt = refl
part-counted f w Wrapper = refl

record Counted (r : Registers) (fs : List ℕ) : Type 0 where
  node : same_kind (top_frame r fs).kind NodeElt ≡ true
  depth : 0 < r.counts.depth
  few : count (top_frame r fs) < 99_999_999
  room : (r.counts.depth - 1) * FRAME + FRAME ≤ length fs

may_count_lem : (r : Registers) (fs : List ℕ) → may_count r fs ≡ true → Counted r fs
unfolding L.all may_count
may_count_lem r fs m =
    let m1 = and_right (same_kind (top_frame r fs).kind NodeElt) _ m in
    let m2 = and_right (ltb 0 r.counts.depth) _ m1 in
    record {
      node = and_left (same_kind (top_frame r fs).kind NodeElt) _ m;
      depth = ltb-true _ _ (and_left (ltb 0 r.counts.depth) _ m1);
      few = ltb-true _ _ (and_left (ltb (count (top_frame r fs)) 99_999_999) _ m2);
      room = leb-true _ _ (and_right (ltb (count (top_frame r fs)) 99_999_999) _ m2);
    }

-- a node on top that has not had its last rdf:li
pub record Numbered (r : Registers) (fs : List ℕ) : Type 0 where
  pub kind : (top_frame r fs).kind ≡ NodeElt
  pub few : count (top_frame r fs) < 99_999_999

pub li_may : (r : Registers) (fs : List ℕ) → Numbered r fs → r.counts.depth ≤ 64 → length fs ≡ TABLE → may_count r fs ≡ true
unfolding L.all may_count
li_may r fs n d l =
    let k : 0 < r.counts.depth = top_deep r fs (λ i. node-differs (sym n.kind ∙ i)) in
    rw (n.kind, lt-ltb 0 r.counts.depth k, lt-ltb (count (top_frame r fs)) 99_999_999 n.few, le-leb ((r.counts.depth - 1) * FRAME + FRAME) (length fs) (omega arith))
  where
    node-differs : NodeElt ≡ Rdf → ⊥
    node-differs e = false≢true (ap (λ (g : Kind). same_kind g NodeElt) (sym e))

pub li-holds : {r : Registers} {fs bs is w gs : List ℕ} {b : Bool} → Valid r fs bs is w → r.counts.inner ≡ 0 → CountsLi r fs b gs → b ≡ true → (i : Bytes) → is_li i ≡ true
    → (h : Part → Part) → ((p : Part) → h p ≡ p) → Holds r gs bs is w r.mode (start_of r w) (count_li i h (elements_of r fs bs is w)) r.flags.rooted r.counts.labels
li-holds {r} {fs} {bs} {is} {w} {gs} {b} x z p y i li note o =
    let m : may_count r fs ≡ true = sym p.answer ∙ y in
    let t = may_count_lem r fs m in
    let k = topmost x t.depth in
    let n : ℕ = r.counts.depth - 1 in
    let f : Frame = frame_at fs n in
    let e : top_frame r fs ≡ f = k.frame in
    let kind : f.kind ≡ NodeElt = is_node_lem f.kind (rw e at t.node) in
    let few : count f < 99_999_999 = rw e at t.few in
    let a = length_at fs n k.room in
    let h = length_has fs n k.room in
    let tp = top_frame_lem x n k.depth in
    let u : Rising f = rising f tp.up in
    let al = counted_alike f a h in
    let st : StoredFrame fs n (counted f) gs true =
    stored_frame n k.room al.places al.marks (p.stored m ∙ ap (λ (g : Frame). stored_at fs (n * FRAME) (words_of (counted g))) e) in
    let kd : kind_ok f.kind (counted f) w ≡ true =
    ap (λ (g : Kind). kind_ok g (counted f) w) kind ∙ li-kind f w a h few (sym (ap (λ (g : Kind). kind_ok g f w) kind) ∙ tp.kind) in
    let wt : (s : Subject) → what_of f.kind (counted f) w s ≡ G.counted i (what_of f.kind f w s) =
    λ s. ap (λ (g : Kind). what_of g (counted f) w s) kind ∙ (li_what f w a h i li s ∙ ap (λ (g : Kind). G.counted i (what_of g f w s)) (sym kind)) in
    let pt : part_of f.kind (counted f) w ≡ note (part_of f.kind f w) = part-counted f w f.kind ∙ sym (o (part_of f.kind f w)) in
    let res = retailed x n k.depth (G.counted i) note (quiet NodeElt kind node_quiet (counted f) f) al st kept_all kept_all refl u.tail (omega (arith, tp.ends, x.apart)) kd wt pt in
    rw (← topped_flat x n k.depth z i note) (rw tp.ends at res)

-- the frame on top behind one more rdf:li
module _ {r : Registers} {fs gs : List ℕ} {b : Bool} (p : CountsLi r fs b gs) (y : b ≡ true) where
  pub li-frame : frame_at gs (r.counts.depth - 1) ≡ counted (frame_at fs (r.counts.depth - 1))
  unfolding top_frame
  li-frame =
      let m : may_count r fs ≡ true = sym p.answer ∙ y in
      let t = may_count_lem r fs m in
      let n : ℕ = r.counts.depth - 1 in
      let h : n * FRAME + FRAME ≤ length fs = t.room in
      let e : top_frame r fs ≡ frame_at fs n = rw (ne_eqb r.counts.depth 0 (λ z. omega (arith, t.depth))) (load_frame_lem fs n h) in
      let al = counted_alike (frame_at fs n) (length_at fs n h) (length_has fs n h) in
      load_store (stored_frame n h al.places al.marks (p.stored m ∙ ap (λ (g : Frame). stored_at fs (n * FRAME) (words_of (counted g))) e)) h al.places al.marks
