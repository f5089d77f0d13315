-- What the calls answer and change.
use Rattle.std.specs.Prelude.{Option, Some, None, is_some, unwrap_or, ℕ, ◌+◌, ◌-◌, ◌*◌, ◌/◌, ◌%◌, ◌<◌, ◌≤◌, ◌≡◌, ◌&&◌, not, List, [], ◌∷◌, ◌++◌, eqb, leb, ltb, length, get_or, set}
use Rattle.std.proofs.Math.Path.{refl, sym}
use Rattle.std.proofs.Common.{append_assoc, ◌∙◌, arith}
use Rattle.std.proofs.Math.Bool.{Bool, true, false}
use Rattle.std.proofs.lemmas.Bool.{false≢true}
use borrow.Author.Tests.{leb-true, ltb-true, eq-eqb, ne_eqb, lt-ltb, le-ltb, lt-leb, le-leb}
use Rattle.std.specs.List.{copy_within}
use Rattle.spec.specs.Limits as L
use Rattle.spec.specs.Limits.{work_store_bytes}
use Rattle.spec.proofs.Booleans.{and_left, and_right}
use Rattle.copy.specs.Copy.{part, stored_at, Put, length_part, put-fits, wrote_same, Wrote, then}
use Rattle.state_words.specs.Parts.{MAIN, ID, TAIL, END, BLANK, PENDING, COUNT, FRAME}
use Rattle.state_words.specs.declared.Kind.TheVariants.{NodeElt, PropertyElt, ParseTypeCollectionPropertyElt}
use Rattle.state_words.specs.declared.Frame.{Frame}
use Rattle.state_words.specs.Words.{pick, words_of, load_frame, StoredFrame}
use Rattle.state.specs.declared.Registers.{Registers}
use Rattle.state.specs.Meaning.{at, has, count}
use Rattle.state_stack.specs.Change.{topped_to, popped_to}
use Rattle.state_stack.specs.Calls.{none_keeps, top_frame, same_kind, tail_to, Pops, may_pop}
use Rattle.state_stack.specs.declared.nodes.Child.{Child}

unfoldable pub may_take : Registers → ℕ → ℕ → ℕ → ℕ → ℕ → Bool
may_take r words from to len end =
    leb to from && (leb (from + len) work_store_bytes && (leb end r.store.low && (leb r.store.low work_store_bytes && (ltb 0 r.counts.depth && leb r.counts.depth (words / FRAME)))))

unfoldable pub object_word : ℕ → ℕ
object_word blank = pick (eqb blank 0) 1 2

unfoldable pub blank_byte : ℕ → ℕ
blank_byte blank = pick (eqb blank 0) 0 1

-- the length of a node's subject
abbrev pub main_size : Frame → ℕ
main_size n = at n ID - at n MAIN

abbrev pub object_frame : Frame → Frame → Frame
object_frame f n = tail_to f (at f TAIL + main_size n) (object_word (has n BLANK))

abbrev pub child_frame : Frame → Frame → Frame
child_frame f n = record { kind = f.kind; at = set f.at END (at f END + main_size n + 4); has = set f.has COUNT (count f + 1) }

abbrev pub mark_of : ℕ → ℕ → List ℕ
mark_of len blank = len % 256 ∷ len / 256 ∷ blank_byte blank ∷ 0 ∷ []

-- nothing was done
pub record Kept (r : Registers) (fs w : List ℕ) (c : Option Registers) (gs v : List ℕ) : Type 0 where
  pub ok : is_some c ≡ false
  pub registers : unwrap_or c r ≡ r
  pub words : gs ≡ fs
  pub bytes : v ≡ w

-- frame g is stored on top, s moved down to `to`, and what is held ends at `end`
pub record Taken (r : Registers) (fs w : List ℕ) (g : Frame) (to end : ℕ) (s : List ℕ) (c : Option Registers) (gs v : List ℕ) : Type 0 where
  pub ok : is_some c ≡ true
  pub stored : gs ≡ stored_at fs ((r.counts.depth - 1) * FRAME) (words_of g)
  pub wrote : Wrote w v to end s
  pub moved : unwrap_or c r ≡ topped_to r end

pub record TakesObject (r : Registers) (fs w : List ℕ) (f n : Frame) (c : Option Registers) (gs v : List ℕ) : Type 0 where
  pub takes : may_take r (length fs) (at n MAIN) (at f TAIL) (main_size n) (at f TAIL + main_size n) ≡ true
      → Taken r fs w (object_frame f n) (at f TAIL) (at f TAIL + main_size n) (part w (at n MAIN) (main_size n)) c gs v
  pub kept : may_take r (length fs) (at n MAIN) (at f TAIL) (main_size n) (at f TAIL + main_size n) ≡ false → Kept r fs w c gs v

-- a Collection has fewer children than the store has bytes
unfoldable pub may_child : Registers → ℕ → Frame → Frame → Bool
may_child r words f n = may_take r words (at n MAIN) (at f END) (main_size n) (at f END + main_size n + 4) && ltb (count f) work_store_bytes

pub record TakesChild (r : Registers) (fs w : List ℕ) (f n : Frame) (c : Option Registers) (gs v : List ℕ) : Type 0 where
  pub takes : may_child r (length fs) f n ≡ true
      → Taken r fs w (child_frame f n) (at f END) (at f END + main_size n + 4) (part w (at n MAIN) (main_size n) ++ mark_of (main_size n) (has n BLANK)) c gs v
  pub kept : may_child r (length fs) f n ≡ false → Kept r fs w c gs v

-- by the element around it
unfoldable pub may_take_node : Registers → ℕ → Frame → Frame → Bool
may_take_node r words f n =
    pick (same_kind f.kind PropertyElt) (may_take r words (at n MAIN) (at f TAIL) (main_size n) (at f TAIL + main_size n))
    (pick (same_kind f.kind ParseTypeCollectionPropertyElt) (may_child r words f n) true)

pub record TakesNode (r : Registers) (fs w : List ℕ) (n : Frame) (c : Option Registers) (gs v : List ℕ) : Type 0 where
  pub answer : is_some c ≡ may_take_node r (length fs) (top_frame r fs) n
  pub object : same_kind (top_frame r fs).kind PropertyElt ≡ true → TakesObject r fs w (top_frame r fs) n c gs v
  pub child : same_kind (top_frame r fs).kind PropertyElt ≡ false → same_kind (top_frame r fs).kind ParseTypeCollectionPropertyElt ≡ true → TakesChild r fs w (top_frame r fs) n c gs v
  pub none : same_kind (top_frame r fs).kind PropertyElt ≡ false → same_kind (top_frame r fs).kind ParseTypeCollectionPropertyElt ≡ false
      → (unwrap_or c r ≡ r) × (gs ≡ fs) × (v ≡ w)
  pub kept : is_some c ≡ false → Kept r fs w c gs v

-- without the node on top
abbrev pub without : Registers → List ℕ → Registers
without r fs = popped_to r (load_frame fs (r.counts.depth - 1))

unfoldable pub may_close : Registers → List ℕ → List ℕ → Bool
may_close r fs w =
    eqb (length w) work_store_bytes
    && (same_kind (top_frame r fs).kind NodeElt
    && (may_pop r && may_take_node (without r fs) (length fs) (top_frame (without r fs) fs) (top_frame r fs)))

pub record ClosesNode (r : Registers) (fs w : List ℕ) (c : Option Registers) (gs v : List ℕ) : Type 0 where
  pub answer : is_some c ≡ may_close r fs w
  pub takes : may_close r fs w ≡ true → TakesNode (without r fs) fs w (top_frame r fs) c gs v
  pub kept : may_close r fs w ≡ false → Kept r fs w c gs v

-- the child that ends at e
unfoldable pub child_in : List ℕ → ℕ → Child
child_in w e =
    pick (leb 4 e && leb e (length w))
    (record { at = e - 4 - (get_or w (e - 4) 0 + 256 * get_or w (e - 3) 0); len = get_or w (e - 4) 0 + 256 * get_or w (e - 3) 0; blank = not (eqb (get_or w (e - 2) 0) 0) })
    (record { at = 0; len = 0; blank = false })

-- ---- bytes that move down

pub moved_down : (w : List ℕ) (from n to : ℕ) → from + n ≤ length w → copy_within w from (from + n) to ≡ stored_at w to (part w from n)
unfolding stored_at part
moved_down w from n to h = let e : from + n - from ≡ n = omega arith in rw (e, length_part w from n h, append_assoc)

-- ---- how the calls come to their answers

pub record Movable (r : Registers) (words from to len end : ℕ) : Type 0 where
  pub down : to ≤ from
  pub fits : from + len ≤ 65_536
  pub below : end ≤ r.store.low
  pub low : r.store.low ≤ 65_536
  pub deep : 0 < r.counts.depth
  pub table : (r.counts.depth - 1) * FRAME + FRAME ≤ words

pub movable : (r : Registers) (words from to len end : ℕ) → may_take r words from to len end ≡ true → Movable r words from to len end
unfolding L.all may_take
movable r words from to len end m =
    let m1 = and_right (leb to from) _ m in
    let m2 = and_right (leb (from + len) 65_536) _ m1 in
    let m3 = and_right (leb end r.store.low) _ m2 in
    let m4 = and_right (leb r.store.low 65_536) _ m3 in
    let d : 0 < r.counts.depth = ltb-true 0 r.counts.depth (and_left (ltb 0 r.counts.depth) _ m4) in
    let t : r.counts.depth ≤ words / FRAME = leb-true r.counts.depth (words / FRAME) (and_right (ltb 0 r.counts.depth) _ m4) in
    record {
      down = leb-true _ _ (and_left (leb to from) _ m);
      fits = leb-true _ _ (and_left (leb (from + len) 65_536) _ m1);
      below = leb-true _ _ (and_left (leb end r.store.low) _ m2);
      low = leb-true _ _ (and_left (leb r.store.low 65_536) _ m3);
      deep = d;
      table = omega arith;
    }

by : {A : Type 0} (b : Bool) → (b ≡ true → A) → (b ≡ false → A) → A
by true f g = f refl
by false f g = g refl

differ : {A : Type 0} {b : Bool} → b ≡ true → b ≡ false → A
differ p q = absurd (false≢true (sym q ∙ p))

pub kept_whole : {r : Registers} {fs w : List ℕ} → Kept r fs w None fs w
kept_whole = record { ok = refl; registers = refl; words = refl; bytes = refl }

module _ {r : Registers} {fs w : List ℕ} {f n : Frame} where
  pub object-refused : may_take r (length fs) (at n MAIN) (at f TAIL) (main_size n) (at f TAIL + main_size n) ≡ false → TakesObject r fs w f n None fs w
  object-refused h = record { takes = λ y. differ y h; kept = λ _. kept_whole }

  pub object_done : {gs v : List ℕ} {q : Bool} {r' : Registers} → length w ≡ 65_536 → may_take r (length fs) (at n MAIN) (at f TAIL) (main_size n) (at f TAIL + main_size n) ≡ true
      → StoredFrame fs (r.counts.depth - 1) (object_frame f n) gs q → v ≡ stored_at w (at f TAIL) (part w (at n MAIN) (main_size n)) → r' ≡ topped_to r (at f TAIL + main_size n)
      → TakesObject r fs w f n (Some r') gs v
  object_done {gs} {v} {q} l m s e k =
      let t = movable r (length fs) (at n MAIN) (at f TAIL) (main_size n) (at f TAIL + main_size n) m in
      let d = t.down in
      let x = t.fits in
      let z = length_part w (at n MAIN) (main_size n) (omega arith) in
      record {
        takes = λ _. record { ok = refl; stored = s.wrote t.table; wrote = record { room = omega arith; up = omega arith; eq = e }; moved = k };
        kept = λ h. differ m h;
      }

  child-refused : may_child r (length fs) f n ≡ false → TakesChild r fs w f n None fs w
  child-refused h = record { takes = λ y. differ y h; kept = λ _. kept_whole }

  pub child_no_room : may_take r (length fs) (at n MAIN) (at f END) (main_size n) (at f END + main_size n + 4) ≡ false → TakesChild r fs w f n None fs w
  unfolding L.all may_child
  child_no_room h = child-refused (rw h)

  module _ (m : may_take r (length fs) (at n MAIN) (at f END) (main_size n) (at f END + main_size n + 4) ≡ true) where
    pub child_too_many : 65_536 ≤ count f → TakesChild r fs w f n None fs w
    unfolding L.all may_child
    child_too_many h = child-refused (rw (m, le-ltb (count f) 65_536 h))

    pub child_done : {gs u v : List ℕ} {q y : Bool} {r' : Registers} → length w ≡ 65_536 → count f < 65_536
        → StoredFrame fs (r.counts.depth - 1) (child_frame f n) gs q → u ≡ stored_at w (at f END) (part w (at n MAIN) (main_size n))
        → Put u (at f END + main_size n) (mark_of (main_size n) (has n BLANK)) v y → r' ≡ topped_to r (at f END + main_size n + 4)
        → TakesChild r fs w f n (Some r') gs v
    unfolding L.all may_child
    child_done {gs} {u} {v} {q} l c s e p k =
        let t = movable r (length fs) (at n MAIN) (at f END) (main_size n) (at f END + main_size n + 4) m in
        let d = t.down in
        let x = t.fits in
        let b = t.below in
        let o = t.low in
        let z = length_part w (at n MAIN) (main_size n) (omega arith) in
        let one : Wrote w u (at f END) (at f END + main_size n) (part w (at n MAIN) (main_size n)) = record { room = omega arith; up = omega arith; eq = e } in
        let two = put-fits p (omega (arith, wrote_same one)) in
        let all = then one two in
        let good : may_child r (length fs) f n ≡ true = rw (m, lt-ltb (count f) 65_536 c) in
        record {
          takes = λ _. record { ok = refl; stored = s.wrote t.table; wrote = all; moved = k };
          kept = λ h. differ good h;
        }

-- ---- the same of the code's own numbers

module _ {r : Registers} {fs w : List ℕ} {f n : Frame} {from to len : ℕ} (a : from ≡ at n MAIN) (l : len ≡ main_size n) where
  pub object_none : to ≡ at f TAIL → may_take r (length fs) from to len (to + len) ≡ false → TakesObject r fs w f n None fs w
  object_none b h = object-refused (rw (a, b, l) at h)

  pub object-made : {gs v : List ℕ} {q : Bool} {r' : Registers} {word : ℕ} → to ≡ at f TAIL → word ≡ object_word (has n BLANK) → length w ≡ 65_536 → may_take r (length fs) from to len (to + len) ≡ true
      → StoredFrame fs (r.counts.depth - 1) (record { kind = f.kind; at = set f.at END (to + len); has = set f.has PENDING word }) gs q
      → v ≡ stored_at w to (part w from len) → r' ≡ topped_to r (to + len) → TakesObject r fs w f n (Some r') gs v
  object-made b o z m s e k = object_done z (rw (a, b, l) at m) (rw (b, l, o) at s) (rw (a, b, l) at e) (rw (b, l) at k)

  pub child_none : to ≡ at f END → may_take r (length fs) from to len (to + len + 4) ≡ false → TakesChild r fs w f n None fs w
  child_none b h = child_no_room (rw (a, b, l) at h)

  pub child-many : to ≡ at f END → may_take r (length fs) from to len (to + len + 4) ≡ true → 65_536 ≤ count f → TakesChild r fs w f n None fs w
  child-many b m h = child_too_many (rw (a, b, l) at m) h

  pub child-made : {gs u v : List ℕ} {q y : Bool} {r' : Registers} {word : ℕ} → to ≡ at f END → word ≡ blank_byte (has n BLANK) → length w ≡ 65_536 → may_take r (length fs) from to len (to + len + 4) ≡ true
      → count f < 65_536
      → StoredFrame fs (r.counts.depth - 1) (record { kind = f.kind; at = set f.at END (to + len + 4); has = set f.has COUNT (count f + 1) }) gs q
      → u ≡ stored_at w to (part w from len) → Put u (to + len) (len % 256 ∷ len / 256 ∷ word ∷ 0 ∷ []) v y → r' ≡ topped_to r (to + len + 4)
      → TakesChild r fs w f n (Some r') gs v
  child-made b o z m c s e p k = child_done (rw (a, b, l) at m) z c (rw (b, l) at s) (rw (a, b, l) at e) (rw (b, l, o) at p) (rw (b, l) at k)

-- ---- a node that closes

module _ {r : Registers} {fs w : List ℕ} {n f : Frame} (e : f ≡ top_frame r fs) where
  pub took_object : {c : Option Registers} {gs v : List ℕ} → same_kind f.kind PropertyElt ≡ true → TakesObject r fs w f n c gs v → TakesNode r fs w n c gs v
  unfolding L.all may_take_node
  took_object {c} {gs} {v} y t =
      let m : Bool = may_take r (length fs) (at n MAIN) (at f TAIL) (main_size n) (at f TAIL + main_size n) in
      let a : may_take_node r (length fs) (top_frame r fs) n ≡ m = rw (← e, y) in
      record {
        answer = by m (λ h. (t.takes h).ok ∙ sym (a ∙ h)) (λ h. (t.kept h).ok ∙ sym (a ∙ h));
        object = λ _. rw (← e) t;
        child = λ h _. differ y (rw (← e) at h);
        none = λ h _. differ y (rw (← e) at h);
        kept = λ h. by m (λ g. differ (t.takes g).ok h) (λ g. t.kept g);
      }

  module _ (o : same_kind f.kind PropertyElt ≡ false) where
    pub took_child : {c : Option Registers} {gs v : List ℕ} → same_kind f.kind ParseTypeCollectionPropertyElt ≡ true → TakesChild r fs w f n c gs v → TakesNode r fs w n c gs v
    unfolding L.all may_take_node
    took_child {c} {gs} {v} y t =
        let a : may_take_node r (length fs) (top_frame r fs) n ≡ may_child r (length fs) f n = rw (← e, o, y) in
        record {
          answer = by (may_child r (length fs) f n) (λ h. (t.takes h).ok ∙ sym (a ∙ h)) (λ h. (t.kept h).ok ∙ sym (a ∙ h));
          object = λ h. differ (rw (← e) at h) o;
          child = λ _ _. rw (← e) t;
          none = λ _ h. differ y (rw (← e) at h);
          kept = λ h. by (may_child r (length fs) f n) (λ g. differ (t.takes g).ok h) (λ g. t.kept g);
        }

    pub took_none : same_kind f.kind ParseTypeCollectionPropertyElt ≡ false → TakesNode r fs w n (Some r) fs w
    unfolding L.all may_take_node
    took_none y =
        record {
          answer = rw (← e, o, y);
          object = λ h. differ (rw (← e) at h) o;
          child = λ _ h. differ (rw (← e) at h) y;
          none = λ _ _. (refl, refl, refl);
          kept = λ h. absurd (false≢true (sym h));
        }

module _ {r : Registers} {fs w : List ℕ} where
  close-refused : {gs v : List ℕ} → may_close r fs w ≡ false → gs ≡ fs → v ≡ w → ClosesNode r fs w None gs v
  close-refused h p q = record { answer = sym h; takes = λ y. differ y h; kept = λ _. record { ok = refl; registers = refl; words = p; bytes = q } }

  pub close_store : (length w ≡ 65_536 → ⊥) → ClosesNode r fs w None fs w
  unfolding L.all may_close
  close_store h = close-refused (rw (ne_eqb (length w) 65_536 h)) refl refl

  module _ (l : length w ≡ 65_536) {n : Frame} (e : n ≡ top_frame r fs) where
    pub close_other : same_kind n.kind NodeElt ≡ false → ClosesNode r fs w None fs w
    unfolding L.all may_close
    close_other h = close-refused (rw (eq-eqb (length w) 65_536 l, ← e, h)) refl refl

    module _ (k : same_kind n.kind NodeElt ≡ true) where
      pub close_none : Pops r fs None → ClosesNode r fs w None fs w
      unfolding L.all may_close
      close_none o = close-refused (rw (eq-eqb (length w) 65_536 l, ← e, k, ← o.answer)) refl refl

      pub close_done : {q : Registers} {t : Option Registers} {gs v : List ℕ} → Pops r fs (Some q) → TakesNode q fs w n t gs v → ClosesNode r fs w t gs v
      unfolding L.all may_close
      close_done {q} {t} o x =
          let y : may_pop r ≡ true = sym o.answer in
          let a : may_close r fs w ≡ is_some t = rw (eq-eqb (length w) 65_536 l, ← e, k, y, ← o.moved y) (sym x.answer) in
          record {
            answer = sym a;
            takes = λ _. rw (← e, ← o.moved y) x;
            kept =
                λ n.
                let z : is_some t ≡ false = sym a ∙ n in
                let m = x.kept z in
                record { ok = z; registers = none_keeps t r z; words = m.words; bytes = m.bytes };
          }

-- ---- the child that ends at a place

module _ (w : List ℕ) (e : ℕ) where
  pub no_child-below : e < 4 → record { at = 0; len = 0; blank = false } ≡ child_in w e
  unfolding child_in
  no_child-below h = rw (lt-leb 4 e h)

  pub no_child-above : 4 ≤ e → length w < e → record { at = 0; len = 0; blank = false } ≡ child_in w e
  unfolding child_in
  no_child-above h k = rw (le-leb 4 e h, lt-leb e (length w) k)

  pub a_child : {len from : ℕ} → 4 ≤ e → e ≤ length w → len ≡ get_or w (e - 4) 0 + 256 * get_or w (e - 3) 0 → from ≡ e - 4 - len
      → record { at = from; len = len; blank = not (eqb (get_or w (e - 2) 0) 0) } ≡ child_in w e
  unfolding child_in
  a_child h k l f = rw (le-leb 4 e h, le-leb e (length w) k, f, l)
