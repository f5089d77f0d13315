-- What the calls do to a valid state, and what they read of it, said of the document that it means.
use Prim.Native.Nat.{ℕ, zero, suc, ◌+◌, ◌-◌, ◌*◌, ◌<◌, ◌≤◌}
use Rattle.std.specs.Prelude.{◌≡◌, Bool, List, [], ◌∷◌, ◌++◌, eqb, leb, ltb, length, take, drop}
use Rattle.std.proofs.Math.Path.{refl, sym, ap}
use Rattle.std.proofs.Common.{◌∙◌}
use Rattle.std.proofs.Math.Bool.{true, false}
use Rattle.std.proofs.Math.Option.{Option, none, some}
use native.Mathlib.Omega.{arith}
use borrow.Author.Tests.{eqb-true, eqb-false, leb-true, ltb-true, eq-eqb, ne_eqb}
use Rattle.std.specs.Option.{option_or}
use Rattle.std.specs.Bool.{then_some}
use Rattle.spec.specs.Limits as L
use Rattle.spec.proofs.Booleans.{and_left, and_right}
use Rattle.spec.specs.Bytes.{Bytes, or_else}
use Rattle.spec.specs.Namespaces.{Binding}
use Rattle.spec.specs.Document.{Frame as Element, ordinary, xml_element, language_in_force, base_in_force, held_bytes}
use Rattle.copy.specs.Copy.{part, Wrote}
use Rattle.state_words.specs.Parts.{BASE, TAG, MAIN, BASED, TAGGED, FRAME}
use Rattle.state_words.specs.declared.Row.{Row}
use Rattle.state_words.specs.Kept.{Kept, kept_before}
use Rattle.state_words.specs.Words.{pick, frame_at, row_at, load_frame_lem, load_row_lem, row_there, row_kept}
use Rattle.state.specs.declared.Registers.{Registers}
use Rattle.state.specs.Meaning.{at, has, first, span, optional, element_of, frames_of, inner_of, inners_of, start_of, elements_of, doc_of}
use Rattle.state.specs.Valid.{ceiling, Valid, top_inside}
use Rattle.state.specs.Tests.{positive}
use Rattle.spec.specs.Limits.{work_store_bytes}
use Rattle.state.specs.Held.{room}
use Rattle.state.specs.Held as Held
use Rattle.spec.specs.XmlLang.{unsaid, in_force}
use Rattle.state.specs.Language.{said_as, own_in, language_of, bytes_found, tag_of_language, in_force_said}
use Rattle.state.specs.declared.Span.{Span}
use Rattle.std.specs.declared.option.Option as std
use Rattle.std.specs.Prelude.{Some, None, is_some, unwrap_or}
use Rattle.state_stack.specs.Change.{Holds, flat, inside-opened, inside-closed, inside_element}
use Rattle.state_stack.specs.Laws.{Bound, by}
use Rattle.state_inner.specs.Calls.{Opens, may_open, Closes, ceiling_in, stretch, name_in, innermost_in, base_in, tag_found, language_in, held_in, held_is}

-- the bytes that were found
unfoldable pub found : std.Option Span → List ℕ → Option Bytes
found None w = none
found (Some s) w = some (part w s.at s.len)

-- ---- reads

tag-found : (w : List ℕ) (f : std.Option Span) → tag_of_language (tag_found f) w ≡ bytes_found f w
unfolding tag_found bytes_found part
tag-found w None = refl
tag-found w (Some s) = go (eqb s.len 0) refl
  where
    go : (t : Bool) → eqb s.len 0 ≡ t → bytes_found (pick t None (Some s)) w ≡ take s.len (drop s.at w)
    go true e = rw (eqb-true s.len 0 e)
    go false e = refl

module _ (fs bs w : List ℕ) where
  -- own xml:base of the innermost of n elements that has one
  base_frames : (n b : ℕ) (start : Option Bytes) → n * FRAME ≤ length fs
      → or_else (found (innermost_in fs BASED BASE n) w) start ≡ base_in_force start (frames_of fs bs w n b)
  unfolding innermost_in found or_else base_in_force frames_of element_of optional span
  base_frames zero b start h = refl
  base_frames (suc n) b start h =
      rw (load_frame_lem fs n (omega arith)) (go (eqb (has (frame_at fs n) BASED) 0) (base_frames n (first (frame_at fs n)) start (omega arith)))
    where
      go : (t : Bool) → or_else (found (innermost_in fs BASED BASE n) w) start ≡ base_in_force start (frames_of fs bs w n (first (frame_at fs n)))
          → or_else (found (pick t (innermost_in fs BASED BASE n) (Some (stretch (at (frame_at fs n) BASE) (at (frame_at fs n) TAG)))) w) start
          ≡ or_else (pick t none (some (part w (at (frame_at fs n) BASE) (at (frame_at fs n) TAG - at (frame_at fs n) BASE)))) (base_in_force start (frames_of fs bs w n (first (frame_at fs n))))
      go true e = e
      go false e = refl

  tag_frames : (n b : ℕ) → n * FRAME ≤ length fs
      → language_of (bytes_found (innermost_in fs TAGGED TAG n) w) ≡ language_in_force (frames_of fs bs w n b)
  unfolding innermost_in bytes_found language_of in_force own_in span language_in_force frames_of element_of
  tag_frames zero b h = refl
  tag_frames (suc n) b h =
      rw (load_frame_lem fs n (omega arith)) (go (eqb (has (frame_at fs n) TAGGED) 0) (tag_frames n (first (frame_at fs n)) (omega arith)))
    where
      go : (t : Bool) → language_of (bytes_found (innermost_in fs TAGGED TAG n) w) ≡ language_in_force (frames_of fs bs w n (first (frame_at fs n)))
          → language_of (bytes_found (pick t (innermost_in fs TAGGED TAG n) (Some (stretch (at (frame_at fs n) TAG) (at (frame_at fs n) MAIN)))) w)
          ≡ in_force (pick t unsaid (said_as (part w (at (frame_at fs n) TAG) (at (frame_at fs n) MAIN - at (frame_at fs n) TAG)))) (language_in_force (frames_of fs bs w n (first (frame_at fs n))))
      go true e = e
      go false e = sym (in_force_said (part w (at (frame_at fs n) TAG) (at (frame_at fs n) MAIN - at (frame_at fs n) TAG)) _)

-- elements inside Literal content say nothing of base and language
base_inners : (is bs w : List ℕ) (n b : ℕ) (start : Option Bytes) (es : List Element) → base_in_force start (inners_of is bs w n b ++ es) ≡ base_in_force start es
unfolding base_in_force inners_of inner_of or_else
base_inners is bs w zero b start es = refl
base_inners is bs w (suc n) b start es = base_inners is bs w n (row_at is n).more start es

tag_inners : (is bs w : List ℕ) (n b : ℕ) (es : List Element) → language_in_force (inners_of is bs w n b ++ es) ≡ language_in_force es
unfolding language_in_force inners_of inner_of in_force
tag_inners is bs w zero b es = refl
tag_inners is bs w (suc n) b es = tag_inners is bs w n (row_at is n).more es

started : (t : Bool) (w : List ℕ) (n : ℕ) → found (then_some t (record { at = 0; len = n })) w ≡ pick t (some (part w 0 n)) none
unfolding found
started true w n = refl
started false w n = refl

chosen : (r : Registers) (w : List ℕ) (f : std.Option Span) → found (option_or f (then_some r.flags.based (record { at = 0; len = r.store.base }))) w ≡ or_else (found f w) (start_of r w)
unfolding found or_else start_of
chosen r w None = started r.flags.based w r.store.base
chosen r w (Some s) = refl

module _ {r : Registers} {fs bs is w : List ℕ} (x : Valid r fs bs is w) where
  tables : r.counts.depth * FRAME ≤ length fs
  tables = omega (arith, x.frame_words, x.deep)

  pub base_read : found (base_in r fs) w ≡ base_in_force (start_of r w) (elements_of r fs bs is w)
  unfolding base_in elements_of
  base_read =
      rw (base_inners is bs w r.counts.inner r.counts.bindings (start_of r w) (frames_of fs bs w r.counts.depth r.counts.outer), ← base_frames fs bs w r.counts.depth r.counts.outer (start_of r w) tables)
      (chosen r w (innermost_in fs BASED BASE r.counts.depth))

  pub language_read : language_of (tag_of_language (language_in r fs) w) ≡ language_in_force (elements_of r fs bs is w)
  unfolding language_in elements_of
  language_read = ap language_of (tag-found w (innermost_in fs TAGGED TAG r.counts.depth)) ∙ rw (tag_inners is bs w r.counts.inner r.counts.bindings (frames_of fs bs w r.counts.depth r.counts.outer)) (tag_frames fs bs w r.counts.depth r.counts.outer tables)

  pub held_read : (ids : List Bytes) → held_in r ≡ held_bytes (doc_of r fs bs is w ids)
  held_read ids = sym (held_is r (room x).low x.apart) ∙ sym (Held.held x ids)

-- ---- the name of the innermost open element

-- the first of some elements' names
unfoldable pub first_name : List Element → Option Bytes
first_name [] = none
first_name (e ∷ es) = some e.name

module _ {r : Registers} {fs bs is w : List ℕ} (x : Valid r fs bs is w) where
  name_of_inner : (n : ℕ) → r.counts.inner ≡ suc n → found (name_in r fs is) w ≡ first_name (elements_of r fs bs is w)
  unfolding found name_in first_name inner_of
  name_of_inner n d =
      let e : r.counts.inner - 1 ≡ n = omega arith in
      rw (ne_eqb r.counts.inner 0 (λ z. omega arith), e, load_row_lem is n (omega (arith, x.inner_words, x.deep)), inside_element x n d)

  name_of_frame : r.counts.inner ≡ 0 → (n : ℕ) → r.counts.depth ≡ suc n → found (name_in r fs is) w ≡ first_name (elements_of r fs bs is w)
  unfolding found name_in first_name elements_of inners_of frames_of element_of span
  name_of_frame z n d =
      let e : r.counts.depth - 1 ≡ n = omega arith in
      rw (eq-eqb r.counts.inner 0 z, ne_eqb r.counts.depth 0 (λ q. omega arith), e, load_frame_lem fs n (omega (arith, x.frame_words, x.deep)), z, d)

  name_of_none : r.counts.inner ≡ 0 → r.counts.depth ≡ 0 → found (name_in r fs is) w ≡ first_name (elements_of r fs bs is w)
  unfolding found name_in first_name elements_of inners_of frames_of
  name_of_none z d = rw (eq-eqb r.counts.inner 0 z, eq-eqb r.counts.depth 0 d, z, d)

  pub name_read : found (name_in r fs is) w ≡ first_name (elements_of r fs bs is w)
  name_read =
      by (eqb r.counts.inner 0)
      (λ z.
      by (eqb r.counts.depth 0)
      (λ d. name_of_none (eqb-true r.counts.inner 0 z) (eqb-true r.counts.depth 0 d))
      (λ d. name_of_frame (eqb-true r.counts.inner 0 z) (r.counts.depth - 1) (omega (arith, positive r.counts.depth (eqb-false r.counts.depth 0 d)))))
      (λ z. name_of_inner (r.counts.inner - 1) (omega (arith, positive r.counts.inner (eqb-false r.counts.inner 0 z))))

-- ---- one more element inside Literal content, and one less

record Openable (r : Registers) (is : List ℕ) : Type 0 where
  deep : r.counts.depth + r.counts.inner < 64
  room : r.counts.inner * 3 + 3 ≤ length is

openable : (r : Registers) (is : List ℕ) (a n : ℕ) → may_open r is a n ≡ true → Openable r is
unfolding L.all may_open
openable r is a n m =
    let m1 = and_right (ltb (r.counts.depth + r.counts.inner) 64) _ m in
    let m2 = and_right (leb a 65_536) _ m1 in
    let m3 = and_right (leb n 65_536) _ m2 in
    record { deep = ltb-true _ _ (and_left (ltb (r.counts.depth + r.counts.inner) 64) _ m); room = leb-true _ _ (and_right (leb r.counts.bindings 128) _ m3) }

ceiling_low : {r : Registers} {fs bs is w : List ℕ} → Valid r fs bs is w → ceiling is r.counts.inner ≡ r.store.low
unfolding ceiling work_store_bytes
ceiling_low {r} {fs} {bs} {is} {w} x = go r.counts.inner refl
  where
    go : (n : ℕ) → r.counts.inner ≡ n → ceiling is n ≡ r.store.low
    go zero e = sym (flat x e).low
    go (suc n) e = (top_inside is bs r.counts.outer n r.store.low r.counts.bindings (rw e at x.inners)).starts

kept_ceiling : {is js : List ℕ} (n : ℕ) → Kept is js 0 (n * 3) → ceiling js n ≡ ceiling is n
unfolding ceiling
kept_ceiling zero k = refl
kept_ceiling (suc n) k = ap (λ (q : Row). q.at) (row_kept k n (omega arith) (omega arith))

-- its bytes and bindings are written: name from a on, bindings behind it up to low
pub record Written (r : Registers) (bs w cs v : List ℕ) (a n b : ℕ) (name : Bytes) (bound : List Binding) : Type 0 where
  pub words : Kept bs cs 0 (r.counts.bindings * 3)
  pub below : Kept w v 0 r.store.top
  pub above : Kept w v r.store.low 65_536
  pub same_words : length cs ≡ length bs
  pub same_bytes : length v ≡ length w
  pub clear : r.store.top ≤ a
  pub least : r.counts.bindings ≤ b
  pub most : b ≤ 128
  pub named : part v a n ≡ name
  pub bindings : Bound cs v r.counts.bindings (b - r.counts.bindings) (a + n) r.store.low bound

pub open_holds : {r : Registers} {fs bs is w js cs v : List ℕ} {a n b : ℕ} {c : std.Option Registers} {name : Bytes} {bound : List Binding}
    → Valid r fs bs is w → Opens r is a n b c js → is_some c ≡ true → Written r bs w cs v a n b name bound
    → Holds (unwrap_or c r) fs cs js v r.mode (start_of r w) (record { name = name; bindings = bound; own_base = none; own_tag = unsaid; kind = xml_element; part = ordinary } ∷ elements_of r fs bs is w) r.flags.rooted r.counts.labels
unfolding inner_of
open_holds {r} {fs} {bs} {is} {w} {js} {cs} {v} {a} {n} {b} {c} {name} {bound} x p y q =
    let m : may_open r is a n ≡ true = sym p.answer ∙ y in
    let o = openable r is a n m in
    let row : Row = record { at = a; name = n; more = r.counts.bindings } in
    let wr : Wrote is js (r.counts.inner * 3) (r.counts.inner * 3 + 3) (a ∷ n ∷ r.counts.bindings ∷ []) = record { room = o.room; up = refl; eq = p.stored m } in
    let k : Kept is js 0 (r.counts.inner * 3) = kept_before wr in
    let e : row_at js r.counts.inner ≡ row = row_there r.counts.inner wr in
    let ce : ceiling js r.counts.inner ≡ r.store.low = kept_ceiling r.counts.inner k ∙ ceiling_low x in
    let h = inside-opened x {cs = cs} {js = js} {v = v} {q = row} {b = b} k e q.words q.below q.above
    (record { starts = refl; least = q.least; bound = rw ce q.bindings.chain }) refl ce q.same_words p.same q.same_bytes o.deep q.most q.clear in
    rw (p.moved m, ← q.named, ← q.bindings.are) h

suc_pred : (n : ℕ) → suc n - 1 ≡ n
suc_pred n = omega arith

ceiling-same : (is : List ℕ) (n : ℕ) → n * 3 ≤ length is → ceiling_in is n ≡ ceiling is n
unfolding L.all ceiling_in ceiling work_store_bytes
ceiling-same is zero h = refl
ceiling-same is (suc n) h = rw (ne_eqb (suc n) 0 (λ e. omega arith), suc_pred n, load_row_lem is n (omega arith))

pub close-holds : {r : Registers} {fs bs is w : List ℕ} {c : std.Option Registers} → Valid r fs bs is w → Closes r is c → is_some c ≡ true
    → Holds (unwrap_or c r) fs bs is w r.mode (start_of r w) (inners_of is bs w (r.counts.inner - 1) (row_at is (r.counts.inner - 1)).more ++ frames_of fs bs w r.counts.depth r.counts.outer) r.flags.rooted r.counts.labels
close-holds {r} {fs} {bs} {is} {w} {c} x p y =
    let d : 0 < r.counts.inner = ltb-true 0 r.counts.inner (sym p.answer ∙ y) in
    let room : (r.counts.inner - 1) * 3 + 3 ≤ length is = omega (arith, x.inner_words, x.deep) in
    let ce : ceiling_in is (r.counts.inner - 1) ≡ ceiling is (r.counts.inner - 1) = ceiling-same is (r.counts.inner - 1) (omega arith) in
    rw (p.moved d, ce, load_row_lem is (r.counts.inner - 1) room) (inside-closed x (r.counts.inner - 1) (omega arith))
