-- Held bytes are stored bytes but for those that are noted, and open elements are counted by the registers.
use Rattle.std.specs.Prelude.{ℕ, zero, suc, ◌+◌, ◌-◌, ◌≤◌, ◌≡◌, refl, Bool, true, false, List, [], ◌∷◌, ◌++◌, eqb, length, get_or}
use Rattle.std.proofs.Common.{sym, ap, length-append}
use Rattle.std.proofs.Math.Option.{none, some}
use native.Mathlib.Omega.{arith}
use borrow.Author.Tests.{eqb-true}
use Rattle.spec.specs.Limits.{work_store_bytes}
use Rattle.spec.specs.Bytes.{Bytes, total, size_of}
use Rattle.spec.specs.Namespaces.{Binding}
use Rattle.spec.specs.XmlLang.{unsaid, own_bytes}
use Rattle.spec.specs.NTriples.{Subject, named, blank}
use Rattle.spec.specs.Document.{Frame as Element, no_object, node_object, text_object, subject_bytes, object_bytes, value_bytes, kind_bytes, binding_bytes, frame_bytes, held_bytes}
use Rattle.spec.proofs.Booleans.{and_left, and_right}
use Rattle.copy.specs.Copy.{part, length_part}
use Rattle.state_words.specs.Parts.{NAME, BINDINGS, BASE, TAG, MAIN, ID, DATATYPE, TAIL, END, BASED, TAGGED, BLANK, IDENTIFIED, TYPED, PENDING}
use Rattle.state_words.specs.declared.Kind.{Kind}
use Rattle.state_words.specs.declared.Kind.TheVariants.{Rdf, NodeElt, PropertyElt, ParseTypeCollectionPropertyElt, ParseTypeLiteralPropertyElt, ParseTypeOtherPropertyElt, Wrapper}
use Rattle.state_words.specs.declared.Frame.{Frame}
use Rattle.state_words.specs.Words.{pick, frame_at, row_at}
use Rattle.state.specs.Language.{said_as, own_in, bytes_said}
use Rattle.state.specs.declared.Registers.{Registers}
use Rattle.state.specs.Meaning.{at, has, count, first, span, optional, node_of, object_of, child_size, child_from, child_of, children_of, binding_of, bindings_of, subject_of, property_of, what_of, element_of, subject_below, frames_of, inner_of, inners_of, start_of, elements_of, doc_of}
use Rattle.state.specs.Valid.{noted_by, noted_of, noted_in, empty_or, parts_ok, chained, children_ok, kind_ok, frames_ok, inners_ok, ceiling, Rising, Valid, rising, top_sound, rest_ok, top_inside, inners_rest}
use Rattle.state.specs.Stay.{last-bound, chained_up, last-child, collected, inners_up}

-- ---- parts

length-span : (w : List ℕ) (a b : ℕ) → a ≤ b → b ≤ length w → a + length (span w a b) ≡ b
unfolding span
length-span w a b h l = omega (arith, length_part w a (b - a) (omega arith))

size-node : (h : ℕ) (s : Bytes) → subject_bytes (node_of h s) ≡ length s
unfolding node_of subject_bytes
size-node h s = go (eqb h 0)
  where
    go : (t : Bool) → subject_bytes (pick t (named s) (blank s)) ≡ length s
    go true = refl
    go false = refl

size-optional : (w : List ℕ) (h a b : ℕ) → empty_or h a b ≡ true → a ≤ b → b ≤ length w → a + size_of (optional h (span w a b)) ≡ b
unfolding optional empty_or size_of
size-optional w h a b e u l = go (eqb h 0) e
  where
    go : (t : Bool) → pick t (eqb a b) true ≡ true → a + size_of (pick t none (some (span w a b))) ≡ b
    go true x = omega (arith, eqb-true a b x)
    go false x = length-span w a b u l

size_own : (w : List ℕ) (h a b : ℕ) → empty_or h a b ≡ true → a ≤ b → b ≤ length w → a + own_bytes (own_in h (span w a b)) ≡ b
unfolding own_in empty_or own_bytes
size_own w h a b e u l = go (eqb h 0) e
  where
    go : (t : Bool) → pick t (eqb a b) true ≡ true → a + own_bytes (pick t unsaid (said_as (span w a b))) ≡ b
    go true x = omega (arith, eqb-true a b x)
    go false x = omega (arith, bytes_said (span w a b), length-span w a b u l)

size-object : (w : List ℕ) (h a b : ℕ) → empty_or h a b ≡ true → a ≤ b → b ≤ length w → a + object_bytes (object_of h (span w a b)) ≡ b
unfolding object_of empty_or object_bytes subject_bytes
size-object w h a b e u l = go (eqb h 0) (eqb h 1) (eqb h 2) e
  where
    go : (t : Bool) (x y : Bool) → pick t (eqb a b) true ≡ true → a + object_bytes (pick t no_object (pick x (node_object (named (span w a b))) (pick y (node_object (blank (span w a b))) (text_object (span w a b))))) ≡ b
    go true x y z = omega (arith, eqb-true a b z)
    go false true y z = length-span w a b u l
    go false false true z = length-span w a b u l
    go false false false z = length-span w a b u l

pub size_bindings : (bs w : List ℕ) (b n from to : ℕ) → chained bs b n from to ≡ true → to ≤ length w → from + total binding_bytes (bindings_of bs w b n) ≡ to
unfolding bindings_of binding_of total binding_bytes chained
size_bindings bs w b zero from to h l = omega (arith, eqb-true from to h)
size_bindings bs w b (suc n) from to h l =
    let p = last-bound bs b n from to h in
    let e = p.ends in
    let i = size_bindings bs w b n from (row_at bs (b + n)).at p.rest (omega arith) in
    omega (
      arith,
      length_part w (row_at bs (b + n)).at (row_at bs (b + n)).name (omega arith),
      length_part w ((row_at bs (b + n)).at + (row_at bs (b + n)).name) (row_at bs (b + n)).more (omega arith),
    )

size-children : (w : List ℕ) (from n e : ℕ) → children_ok w from n e ≡ true → e ≤ length w → from + total (λ c. subject_bytes c + 4) (children_of w n e) ≡ e
unfolding children_of child_of total children_ok
size-children w from zero e h l = omega (arith, eqb-true from e h)
size-children w from (suc n) e h l =
    let p = last-child w from n e h in
    let f = p.fits in
    let i = size-children w from n (child_from w e) p.rest (omega arith) in
    omega (
      arith,
      size-node (get_or (part w (e - 4) 4) 2 0) (part w (child_from w e) (child_size w e)),
      length_part w (child_from w e) (child_size w e) (omega arith),
    )

-- ---- elements

pub record Parts (f : Frame) : Type 0 where
  pub base : empty_or (has f BASED) (at f BASE) (at f TAG) ≡ true
  pub tag : empty_or (has f TAGGED) (at f TAG) (at f MAIN) ≡ true
  pub id : empty_or (has f IDENTIFIED) (at f ID) (at f DATATYPE) ≡ true
  pub type : empty_or (has f TYPED) (at f DATATYPE) (at f TAIL) ≡ true

pub parts_of_lem : (f : Frame) → parts_ok f ≡ true → Parts f
unfolding parts_ok
parts_of_lem f h =
    let h1 = and_right (empty_or (has f BASED) (at f BASE) (at f TAG)) _ h in
    let h2 = and_right (empty_or (has f TAGGED) (at f TAG) (at f MAIN)) _ h1 in
    record { base = and_left _ _ h; tag = and_left _ _ h1; id = and_left _ _ h2; type = and_right (empty_or (has f IDENTIFIED) (at f ID) (at f DATATYPE)) _ h2 }

module _ (w : List ℕ) (f : Frame) (r : Rising f) (p : Parts f) (l : at f END ≤ length w) where
  size-kind : (q : Kind) (s : Subject) → kind_ok q f w ≡ true → at f MAIN + kind_bytes (what_of q f w s) + noted_by q f ≡ at f END
  unfolding what_of kind_ok kind_bytes value_bytes property_of subject_of noted_by
  size-kind Rdf s h = omega (arith, eqb-true (at f MAIN) (at f TAIL) h)
  size-kind Wrapper s h = omega (arith, eqb-true (at f MAIN) (at f END) h)
  size-kind NodeElt s h =
      omega (
        arith,
        eqb-true (at f ID) (at f END) (and_left (eqb (at f ID) (at f END)) _ h),
        size-node (has f BLANK) (span w (at f MAIN) (at f ID)),
        length-span w (at f MAIN) (at f ID) (omega arith) (omega arith),
      )
  size-kind PropertyElt s h =
      omega (
        arith,
        length-span w (at f MAIN) (at f ID) (omega arith) (omega arith),
        size-optional w (has f IDENTIFIED) (at f ID) (at f DATATYPE) p.id (omega arith) (omega arith),
        size-optional w (has f TYPED) (at f DATATYPE) (at f TAIL) p.type (omega arith) (omega arith),
        size-object w (has f PENDING) (at f TAIL) (at f END) h (omega arith) (omega arith),
      )
  size-kind ParseTypeCollectionPropertyElt s h =
      let c = collected f w h in
      omega (
        arith,
        length-span w (at f MAIN) (at f ID) (omega arith) (omega arith),
        size-optional w (has f IDENTIFIED) (at f ID) (at f DATATYPE) p.id (omega arith) (omega arith),
        size-children w (at f TAIL) (count f) (at f END) c.children (omega arith),
        c.typed,
      )
  size-kind ParseTypeLiteralPropertyElt s h =
      omega (
        arith,
        length-span w (at f MAIN) (at f ID) (omega arith) (omega arith),
        size-optional w (has f IDENTIFIED) (at f ID) (at f DATATYPE) p.id (omega arith) (omega arith),
        length-span w (at f TAIL) (at f END) (omega arith) (omega arith),
        eqb-true (at f DATATYPE) (at f TAIL) h,
      )
  size-kind ParseTypeOtherPropertyElt s h =
      omega (
        arith,
        length-span w (at f MAIN) (at f ID) (omega arith) (omega arith),
        size-optional w (has f IDENTIFIED) (at f ID) (at f DATATYPE) p.id (omega arith) (omega arith),
        eqb-true (at f DATATYPE) (at f END) h,
      )

  size_element : (bound : List Binding) (s : Subject) → at f BINDINGS + total binding_bytes bound ≡ at f BASE → kind_ok f.kind f w ≡ true
      → at f NAME + frame_bytes (element_of f bound w s) + noted_of f ≡ at f END
  unfolding element_of frame_bytes
  size_element bound s e h =
      omega (
        arith,
        length-span w (at f NAME) (at f BINDINGS) (omega arith) (omega arith),
        size-optional w (has f BASED) (at f BASE) (at f TAG) p.base (omega arith) (omega arith),
        size_own w (has f TAGGED) (at f TAG) (at f MAIN) p.tag (omega arith) (omega arith),
        size-kind f.kind s h,
      )

size_frames : (fs bs w : List ℕ) (base n top b : ℕ) → frames_ok fs bs w base n top b ≡ true → top ≤ length w → base + total frame_bytes (frames_of fs bs w n b) + noted_in fs n ≡ top
unfolding frames_of total frames_ok noted_in
size_frames fs bs w base zero top b h l = omega (arith, eqb-true base top (and_left (eqb base top) _ h))
size_frames fs bs w base (suc n) top b h l =
    let s = top_sound fs bs w n top b base h in
    let e = s.ends in
    let r = rising (frame_at fs n) s.up in
    let c : at (frame_at fs n) BINDINGS + total binding_bytes (bindings_of bs w (first (frame_at fs n)) (b - first (frame_at fs n))) ≡ at (frame_at fs n) BASE =
    size_bindings bs w (first (frame_at fs n)) (b - first (frame_at fs n)) (at (frame_at fs n) BINDINGS) (at (frame_at fs n) BASE) s.bound (omega arith) in
    omega (
      arith,
      size_element w (frame_at fs n) r (parts_of_lem (frame_at fs n) s.parts) (omega arith) (bindings_of bs w (first (frame_at fs n)) (b - first (frame_at fs n))) (subject_below fs w n) c s.kind,
      size_frames fs bs w base n (at (frame_at fs n) NAME) (first (frame_at fs n)) (rest_ok fs bs w n top b base h) (omega arith),
    )

size_inners : (is bs w : List ℕ) (outer n low b : ℕ) → inners_ok is bs outer n low b ≡ true → length w ≡ 65_536 → low + total frame_bytes (inners_of is bs w n b) ≡ 65_536
unfolding inners_of inner_of total frame_bytes kind_bytes size_of own_bytes inners_ok work_store_bytes
size_inners is bs w outer zero low b h l = omega (arith, eqb-true low 65_536 (and_left (eqb low 65_536) _ h))
size_inners is bs w outer (suc n) low b h l =
    let s = top_inside is bs outer n low b h in
    let z = s.starts in
    let rest = inners_rest is bs outer n low b h in
    let i = inners_up is bs outer n (ceiling is n) (row_at is n).more rest in
    let u = chained_up bs (row_at is n).more (b - (row_at is n).more) ((row_at is n).at + (row_at is n).name) (ceiling is n) s.bound in
    omega (
      arith,
      i.0,
      length_part w (row_at is n).at (row_at is n).name (omega (arith, i.0)),
      size_bindings bs w (row_at is n).more (b - (row_at is n).more) ((row_at is n).at + (row_at is n).name) (ceiling is n) s.bound (omega (arith, i.0)),
      size_inners is bs w outer n (ceiling is n) (row_at is n).more rest l,
    )

-- ---- the document

total-append : (xs ys : List Element) → total frame_bytes (xs ++ ys) ≡ total frame_bytes xs + total frame_bytes ys
unfolding total
total-append [] ys = omega arith
total-append (x ∷ xs) ys = omega (arith, total-append xs ys)

pub record Room (r : Registers) : Type 0 where
  pub low : r.store.low ≤ 65_536
  pub outer : r.counts.outer ≤ r.counts.bindings
  pub base : r.store.base ≤ r.store.top
  pub noted : r.store.noted ≤ r.store.top

pub frames_base : (fs bs w : List ℕ) (base n top b : ℕ) → frames_ok fs bs w base n top b ≡ true → base ≤ top
unfolding frames_ok
frames_base fs bs w base zero top b h = omega (arith, eqb-true base top (and_left (eqb base top) _ h))
frames_base fs bs w base (suc n) top b h =
    let s = top_sound fs bs w n top b base h in
    let e = s.ends in
    let r = rising (frame_at fs n) s.up in
    omega (arith, frames_base fs bs w base n (at (frame_at fs n) NAME) (first (frame_at fs n)) (rest_ok fs bs w n top b base h))

-- what else is known of the registers of a valid state
pub room : {r : Registers} {fs bs is w : List ℕ} → Valid r fs bs is w → Room r
room {r} {fs} {bs} {is} {w} v =
    let i = inners_up is bs r.counts.outer r.counts.inner r.store.low r.counts.bindings v.inners in
    let a = v.apart in
    let b = v.store in
    let n = v.noted in
    record {
      low = i.0;
      outer = i.1;
      base = frames_base fs bs w r.store.base r.counts.depth r.store.top r.counts.outer v.frames;
      noted = omega (arith, i.0, size_frames fs bs w r.store.base r.counts.depth r.store.top r.counts.outer v.frames (omega (arith, i.0)));
    }

size_start : (r : Registers) (w : List ℕ) → pick r.flags.based true (eqb r.store.base 0) ≡ true → r.store.base ≤ length w → size_of (start_of r w) ≡ r.store.base
unfolding start_of size_of
size_start r w h l = go r.flags.based h
  where
    go : (t : Bool) → pick t true (eqb r.store.base 0) ≡ true → size_of (pick t (some (part w 0 r.store.base)) none) ≡ r.store.base
    go true x = length_part w 0 r.store.base (omega arith)
    go false x = sym (eqb-true r.store.base 0 x)

-- what is noted is stored, and not held
pub held : {r : Registers} {fs bs is w : List ℕ} → Valid r fs bs is w → (ids : List Bytes) → held_bytes (doc_of r fs bs is w ids) ≡ r.store.top - r.store.noted + (65_536 - r.store.low)
unfolding held_bytes doc_of elements_of
held {r} {fs} {bs} {is} {w} v ids =
    let m = room v in
    let a = v.apart in
    let b = v.store in
    let n = v.noted in
    omega (
      arith,
      total-append (inners_of is bs w r.counts.inner r.counts.bindings) (frames_of fs bs w r.counts.depth r.counts.outer),
      size_inners is bs w r.counts.outer r.counts.inner r.store.low r.counts.bindings v.inners b,
      size_frames fs bs w r.store.base r.counts.depth r.store.top r.counts.outer v.frames (omega arith),
      size_start r w v.based (omega arith),
    )

length_frames : (fs bs w : List ℕ) (n b : ℕ) → length (frames_of fs bs w n b) ≡ n
unfolding frames_of
length_frames fs bs w zero b = refl
length_frames fs bs w (suc n) b = ap suc (length_frames fs bs w n (first (frame_at fs n)))

length_inners : (is bs w : List ℕ) (n b : ℕ) → length (inners_of is bs w n b) ≡ n
unfolding inners_of
length_inners is bs w zero b = refl
length_inners is bs w (suc n) b = ap suc (length_inners is bs w n (row_at is n).more)

pub depth : (r : Registers) (fs bs is w : List ℕ) → length (elements_of r fs bs is w) ≡ r.counts.depth + r.counts.inner
unfolding elements_of
depth r fs bs is w =
    omega (
      arith,
      length-append (inners_of is bs w r.counts.inner r.counts.bindings) (frames_of fs bs w r.counts.depth r.counts.outer),
      length_frames fs bs w r.counts.depth r.counts.outer,
      length_inners is bs w r.counts.inner r.counts.bindings,
    )
