-- What the calls answer and change, on every input.
use Rattle.std.specs.Prelude.{ℕ, ◌+◌, ◌-◌, ◌*◌, ◌<◌, ◌≤◌, ◌≡◌, Option, Some, None, is_some, unwrap_or, Bool, ◌&&◌, List, [], ◌∷◌, ◌++◌, eqb, ltb, set}
use Rattle.std.proofs.Math.Path.{refl, sym}
use Rattle.std.proofs.Common.{ap, ◌∙◌, arith}
use Rattle.std.proofs.Math.Bool.{true, false}
use Rattle.std.proofs.lemmas.Bool.{false≢true}
use Rattle.std.proofs.Math.Dec.{leb}
use Rattle.std.proofs.Math.ListN.{length}
use borrow.Author.Tests.{leb-true, leb-false, eq-eqb, ne_eqb, le-leb, lt-leb, lt-ltb, le-ltb}
use denote.Enum.Bare.{sameb}
use Rattle.std.specs.Prelude.{not}
use Rattle.spec.specs.Limits as L
use Rattle.spec.specs.Limits.{most_open_elements, work_store_bytes, most_labels}
use Rattle.copy.specs.Copy.{stored_at, Put, then, put-fits, wrote_same}
use Rattle.state_words.specs.Parts.{TAIL, END, PENDING, COUNT, FRAME}
use Rattle.state_words.specs.contracts.Kind.{the_type}
use Rattle.state_words.specs.declared.Kind.{Kind}
use Rattle.state_words.specs.declared.Kind.TheVariants.{Rdf, NodeElt, PropertyElt, ParseTypeCollectionPropertyElt, ParseTypeLiteralPropertyElt, ParseTypeOtherPropertyElt, Wrapper}
use Rattle.state_words.specs.declared.Frame.{Frame}
use Rattle.state_words.specs.Words.{pick, kind_number, kind_eq, no_frame, load_frame, words_of, StoredFrame, StoredRow}
use Rattle.state.specs.declared.Registers.{Registers}
use Rattle.state.specs.Meaning.{at, has, count}
use Rattle.state.specs.Tests.{positive}
use Rattle.state_stack.specs.Change.{pushed_to, popped_to, topped_to}

-- ---- what a change answers: the registers behind it, or none

-- where it is none, what is held behind it is what was held before
pub none_keeps : (c : Option Registers) (r : Registers) → is_some c ≡ false → unwrap_or c r ≡ r
none_keeps None r h = refl
none_keeps (Some q) r h = absurd (false≢true (sym h))

-- where there are some, it does not matter what was held before
pub some_stays : (c : Option Registers) (q r : Registers) → is_some c ≡ true → unwrap_or c q ≡ unwrap_or c r
some_stays None q r h = absurd (false≢true h)
some_stays (Some p) q r h = refl

-- ---- push

abbrev pub frame_of : Kind → List ℕ → List ℕ → Frame
frame_of k at' has' = record { kind = k; at = at'; has = has' }

unfoldable pub may_push : Registers → List ℕ → Bool
may_push r fs = eqb r.counts.inner 0 && (ltb r.counts.depth most_open_elements && leb (r.counts.depth * FRAME + FRAME) (length fs))

pub record Pushes (r : Registers) (fs : List ℕ) (f : Frame) (b : ℕ) (c : Option Registers) (gs : List ℕ) : Type 0 where
  pub answer : is_some c ≡ may_push r fs
  pub wrote : may_push r fs ≡ true → gs ≡ stored_at fs (r.counts.depth * FRAME) (words_of f)
  pub moved : may_push r fs ≡ true → unwrap_or c r ≡ pushed_to r (at f END) b
  pub kept : may_push r fs ≡ false → (gs ≡ fs) × (unwrap_or c r ≡ r)
  pub same : length gs ≡ length fs

-- ---- pop

unfoldable pub may_pop : Registers → Bool
may_pop r = eqb r.counts.inner 0 && ltb 0 r.counts.depth

pub record Pops (r : Registers) (fs : List ℕ) (c : Option Registers) : Type 0 where
  pub answer : is_some c ≡ may_pop r
  pub moved : may_pop r ≡ true → unwrap_or c r ≡ popped_to r (load_frame fs (r.counts.depth - 1))
  pub kept : may_pop r ≡ false → unwrap_or c r ≡ r

-- ---- bind

unfoldable pub may_bind : List ℕ → List ℕ → ℕ → ℕ → List ℕ → List ℕ → Bool
may_bind w bs a n p s = leb (length w) work_store_bytes && (leb (a + (length p + length s)) (length w) && leb (n * 3 + 3) (length bs))

pub record Binds (w bs : List ℕ) (a n : ℕ) (p s v cs : List ℕ) (r : Bool) : Type 0 where
  pub answer : r ≡ may_bind w bs a n p s
  pub wrote : may_bind w bs a n p s ≡ true → (v ≡ stored_at w a (p ++ s)) × (cs ≡ stored_at bs (n * 3) (a ∷ length p ∷ length s ∷ []))
  pub kept : may_bind w bs a n p s ≡ false → (v ≡ w) × (cs ≡ bs)
  pub same_bytes : length v ≡ length w
  pub same_words : length cs ≡ length bs

-- ---- the frame on top

unfoldable pub top_frame : Registers → List ℕ → Frame
top_frame r fs = pick (eqb r.counts.depth 0) no_frame (load_frame fs (r.counts.depth - 1))

abbrev pub same_kind : Kind → Kind → Bool
same_kind a b = eqb (kind_number a) (kind_number b)

-- by `==` and by `!=`
pub is_kind : (a b : Kind) {r t : Bool} → r ≡ sameb the_type a b → r ≡ t → same_kind a b ≡ t
is_kind a b e h = sym (e ∙ kind_eq a b) ∙ h

pub not_kind : (a b : Kind) {r t : Bool} → r ≡ not (sameb the_type a b) → r ≡ t → same_kind a b ≡ not t
not_kind a b {r} {t} e h = go (same_kind a b) (sym h ∙ (e ∙ ap not (kind_eq a b)))
  where
    go : (q : Bool) → t ≡ not q → q ≡ not t
    go true x = rw x
    go false x = rw x

-- the frame with another tail, which ends at `to`
abbrev pub tail_to : Frame → ℕ → ℕ → Frame
tail_to f to what = record { kind = f.kind; at = set f.at END to; has = set f.has PENDING what }

-- the frame with one more rdf:li
abbrev pub counted : Frame → Frame
counted f = record { kind = f.kind; at = f.at; has = set f.has COUNT (count f + 1) }

unfoldable pub may_tail : Registers → List ℕ → List ℕ → ℕ → ℕ → Bool
may_tail r fs w from n =
    ltb 0 r.counts.depth
    && (leb r.store.low work_store_bytes && (leb r.store.low (length w) && (leb (from + n) r.store.low && leb ((r.counts.depth - 1) * FRAME + FRAME) (length fs))))

pub record Tails (r : Registers) (fs w : List ℕ) (f : Frame) (from what : ℕ) (s : List ℕ) (c : Option Registers) (gs v : List ℕ) : Type 0 where
  pub answer : is_some c ≡ may_tail r fs w from (length s)
  pub stored : may_tail r fs w from (length s) ≡ true → gs ≡ stored_at fs ((r.counts.depth - 1) * FRAME) (words_of (tail_to f (from + length s) what))
  pub wrote : may_tail r fs w from (length s) ≡ true → v ≡ stored_at w from s
  pub moved : may_tail r fs w from (length s) ≡ true → unwrap_or c r ≡ topped_to r (from + length s)
  pub kept : may_tail r fs w from (length s) ≡ false → (gs ≡ fs) × (v ≡ w) × (unwrap_or c r ≡ r)
  pub same_words : length gs ≡ length fs
  pub same_bytes : length v ≡ length w

-- nothing was done
pub record Nothing (r : Registers) (fs w : List ℕ) (c : Option Registers) (gs v : List ℕ) : Type 0 where
  pub ok : is_some c ≡ false
  pub registers : unwrap_or c r ≡ r
  pub words : gs ≡ fs
  pub bytes : v ≡ w

pub record Texts (r : Registers) (fs w t : List ℕ) (c : Option Registers) (gs v : List ℕ) : Type 0 where
  pub tails : same_kind (top_frame r fs).kind PropertyElt ≡ true → Tails r fs w (top_frame r fs) (at (top_frame r fs) TAIL) 3 t c gs v
  pub kept : same_kind (top_frame r fs).kind PropertyElt ≡ false → Nothing r fs w c gs v

pub record Xmls (r : Registers) (fs w t : List ℕ) (c : Option Registers) (gs v : List ℕ) : Type 0 where
  pub tails : same_kind (top_frame r fs).kind ParseTypeLiteralPropertyElt ≡ true → Tails r fs w (top_frame r fs) (at (top_frame r fs) END) (has (top_frame r fs) PENDING) t c gs v
  pub dropped : same_kind (top_frame r fs).kind ParseTypeOtherPropertyElt ≡ true → (c ≡ Some r) × (gs ≡ fs) × (v ≡ w)
  pub kept : same_kind (top_frame r fs).kind ParseTypeLiteralPropertyElt ≡ false → same_kind (top_frame r fs).kind ParseTypeOtherPropertyElt ≡ false → Nothing r fs w c gs v

unfoldable pub may_count : Registers → List ℕ → Bool
may_count r fs =
    same_kind (top_frame r fs).kind NodeElt && (ltb 0 r.counts.depth && (ltb (count (top_frame r fs)) most_labels && leb ((r.counts.depth - 1) * FRAME + FRAME) (length fs)))

pub record CountsLi (r : Registers) (fs : List ℕ) (b : Bool) (gs : List ℕ) : Type 0 where
  pub answer : b ≡ may_count r fs
  pub stored : may_count r fs ≡ true → gs ≡ stored_at fs ((r.counts.depth - 1) * FRAME) (words_of (counted (top_frame r fs)))
  pub kept : may_count r fs ≡ false → gs ≡ fs
  pub same : length gs ≡ length fs

-- ---- how the calls come to their answers

differ : {A : Type 0} {b : Bool} → b ≡ true → b ≡ false → A
differ p q = absurd (false≢true (sym q ∙ p))

module _ {r : Registers} {fs : List ℕ} {f : Frame} {b : ℕ} where
  push_refused : {gs : List ℕ} → may_push r fs ≡ false → gs ≡ fs → Pushes r fs f b None gs
  push_refused n e = record { answer = sym n; wrote = λ y. differ y n; moved = λ y. differ y n; kept = λ _. (e, refl); same = ap length e }

  pub push_inside : (r.counts.inner ≡ 0 → ⊥) → Pushes r fs f b None fs
  unfolding L.all may_push
  push_inside h = push_refused (rw (ne_eqb r.counts.inner 0 h)) refl

  pub push_deep : r.counts.inner ≡ 0 → 64 ≤ r.counts.depth → Pushes r fs f b None fs
  unfolding L.all may_push
  push_deep z h = push_refused (rw (eq-eqb r.counts.inner 0 z, le-ltb r.counts.depth 64 h)) refl

  module _ {gs : List ℕ} {q : Bool} (z : r.counts.inner ≡ 0) (d : r.counts.depth < 64) (s : StoredFrame fs r.counts.depth f gs q) where
    pub push_short : q ≡ false → Pushes r fs f b None gs
    unfolding L.all may_push
    push_short n =
        let l : leb (r.counts.depth * FRAME + FRAME) (length fs) ≡ false = sym s.answer ∙ n in
        push_refused (rw (eq-eqb r.counts.inner 0 z, lt-ltb r.counts.depth 64 d, l)) (s.kept (leb-false (r.counts.depth * FRAME + FRAME) (length fs) l))

    pub push_done : q ≡ true → Pushes r fs f b (Some (pushed_to r (at f END) b)) gs
    unfolding L.all may_push
    push_done y =
        let l : leb (r.counts.depth * FRAME + FRAME) (length fs) ≡ true = sym s.answer ∙ y in
        let m : may_push r fs ≡ true = rw (eq-eqb r.counts.inner 0 z, lt-ltb r.counts.depth 64 d, l) in
        record {
          answer = sym m;
          wrote = λ _. s.wrote (leb-true (r.counts.depth * FRAME + FRAME) (length fs) l);
          moved = λ _. refl;
          kept = λ n. differ m n;
          same = s.same;
        }

module _ {r : Registers} {fs : List ℕ} where
  pop_refused : may_pop r ≡ false → Pops r fs None
  pop_refused n = record { answer = sym n; moved = λ y. differ y n; kept = λ _. refl }

  pub pop_inside : (r.counts.inner ≡ 0 → ⊥) → Pops r fs None
  unfolding may_pop
  pop_inside h = pop_refused (rw (ne_eqb r.counts.inner 0 h))

  pub pop_empty : r.counts.inner ≡ 0 → r.counts.depth ≡ 0 → Pops r fs None
  unfolding may_pop
  pop_empty z d = pop_refused (rw (eq-eqb r.counts.inner 0 z, le-ltb 0 r.counts.depth (omega arith)))

  pub pop_done : {f : Frame} → r.counts.inner ≡ 0 → (r.counts.depth ≡ 0 → ⊥) → f ≡ load_frame fs (r.counts.depth - 1) → Pops r fs (Some (popped_to r f))
  unfolding may_pop
  pop_done {f} z d e =
      let m : may_pop r ≡ true = rw (eq-eqb r.counts.inner 0 z, lt-ltb 0 r.counts.depth (positive r.counts.depth d)) in
      record { answer = sym m; moved = λ _. rw (← e); kept = λ n. differ m n }

module _ {w bs : List ℕ} {a n : ℕ} {p s : List ℕ} where
  bind_refused : {cs : List ℕ} → may_bind w bs a n p s ≡ false → cs ≡ bs → Binds w bs a n p s w cs false
  bind_refused f e = record { answer = sym f; wrote = λ y. differ y f; kept = λ _. (refl, e); same_bytes = refl; same_words = ap length e }

  pub bind_large : 65_536 < length w → Binds w bs a n p s w bs false
  unfolding L.all may_bind
  bind_large h = bind_refused (rw (lt-leb (length w) 65_536 h)) refl

  module _ (l : length w ≤ 65_536) where
    pub bind_full : length w < a + (length p + length s) → Binds w bs a n p s w bs false
    unfolding L.all may_bind
    bind_full h = bind_refused (rw (le-leb (length w) 65_536 l, lt-leb (a + (length p + length s)) (length w) h)) refl

    module _ {cs : List ℕ} {q : Bool} (m : a + (length p + length s) ≤ length w) (t : StoredRow bs n (record { at = a; name = length p; more = length s }) cs q) where
      pub bind_short : q ≡ false → Binds w bs a n p s w cs false
      unfolding L.all may_bind
      bind_short f =
          let x : leb (n * 3 + 3) (length bs) ≡ false = sym t.answer ∙ f in
          bind_refused (rw (le-leb (length w) 65_536 l, le-leb (a + (length p + length s)) (length w) m, x)) (t.kept (leb-false (n * 3 + 3) (length bs) x))

      pub bind_done : {u v : List ℕ} {y z : Bool} → q ≡ true → Put w a p u y → Put u (a + length p) s v z → Binds w bs a n p s v cs true
      unfolding L.all may_bind
      bind_done g i j =
          let x : leb (n * 3 + 3) (length bs) ≡ true = sym t.answer ∙ g in
          let b : may_bind w bs a n p s ≡ true = rw (le-leb (length w) 65_536 l, le-leb (a + (length p + length s)) (length w) m, x) in
          let one = put-fits i (omega arith) in
          let both = then one (put-fits j (omega (arith, wrote_same one))) in
          record {
            answer = sym b;
            wrote = λ _. (both.eq, t.wrote (leb-true (n * 3 + 3) (length bs) x));
            kept = λ f. differ b f;
            same_bytes = wrote_same both;
            same_words = t.same;
          }

module _ (r : Registers) (fs : List ℕ) where
  pub top_none : r.counts.depth ≡ 0 → no_frame ≡ top_frame r fs
  unfolding top_frame
  top_none z = rw (eq-eqb r.counts.depth 0 z)

  pub top_there : (r.counts.depth ≡ 0 → ⊥) → load_frame fs (r.counts.depth - 1) ≡ top_frame r fs
  unfolding top_frame
  top_there z = rw (ne_eqb r.counts.depth 0 z)

module _ {r : Registers} {fs w : List ℕ} {f : Frame} {from what : ℕ} {s : List ℕ} where
  tail_refused : {gs : List ℕ} → may_tail r fs w from (length s) ≡ false → gs ≡ fs → Tails r fs w f from what s None gs w
  tail_refused n e =
      record {
        answer = sym n;
        stored = λ y. differ y n;
        wrote = λ y. differ y n;
        moved = λ y. differ y n;
        kept = λ _. (e, refl, refl);
        same_words = ap length e;
        same_bytes = refl;
      }

  pub tail_empty : r.counts.depth ≡ 0 → Tails r fs w f from what s None fs w
  unfolding L.all may_tail
  tail_empty z = tail_refused (rw (le-ltb 0 r.counts.depth (omega arith))) refl

  module _ (d : r.counts.depth ≡ 0 → ⊥) where
    pub tail_large : 65_536 < r.store.low → Tails r fs w f from what s None fs w
    unfolding L.all may_tail
    tail_large h = tail_refused (rw (lt-ltb 0 r.counts.depth (positive r.counts.depth d), lt-leb r.store.low 65_536 h)) refl

    module _ (l : r.store.low ≤ 65_536) where
      pub tail_beyond : length w < r.store.low → Tails r fs w f from what s None fs w
      unfolding L.all may_tail
      tail_beyond h = tail_refused (rw (lt-ltb 0 r.counts.depth (positive r.counts.depth d), le-leb r.store.low 65_536 l, lt-leb r.store.low (length w) h)) refl

      module _ (m : r.store.low ≤ length w) where
        pub tail_full : r.store.low < from + length s → Tails r fs w f from what s None fs w
        unfolding L.all may_tail
        tail_full h = tail_refused (rw (lt-ltb 0 r.counts.depth (positive r.counts.depth d), le-leb r.store.low 65_536 l, le-leb r.store.low (length w) m, lt-leb (from + length s) r.store.low h)) refl

        module _ {gs : List ℕ} {q : Bool} (k : from + length s ≤ r.store.low) (t : StoredFrame fs (r.counts.depth - 1) (tail_to f (from + length s) what) gs q) where
          pub tail_short : q ≡ false → Tails r fs w f from what s None gs w
          unfolding L.all may_tail
          tail_short n =
              let x : leb ((r.counts.depth - 1) * FRAME + FRAME) (length fs) ≡ false = sym t.answer ∙ n in
              tail_refused (rw (lt-ltb 0 r.counts.depth (positive r.counts.depth d), le-leb r.store.low 65_536 l, le-leb r.store.low (length w) m, le-leb (from + length s) r.store.low k, x)) (t.kept (leb-false ((r.counts.depth - 1) * FRAME + FRAME) (length fs) x))

          pub tail_done : {v : List ℕ} {z : Bool} {r' : Registers} → q ≡ true → Put w from s v z → r' ≡ topped_to r (from + length s)
              → Tails r fs w f from what s (Some r') gs v
          unfolding L.all may_tail
          tail_done y i e =
              let x : leb ((r.counts.depth - 1) * FRAME + FRAME) (length fs) ≡ true = sym t.answer ∙ y in
              let b : may_tail r fs w from (length s) ≡ true = rw (lt-ltb 0 r.counts.depth (positive r.counts.depth d), le-leb r.store.low 65_536 l, le-leb r.store.low (length w) m, le-leb (from + length s) r.store.low k, x) in
              let p = put-fits i (omega arith) in
              record {
                answer = sym b;
                stored = λ _. t.wrote (leb-true ((r.counts.depth - 1) * FRAME + FRAME) (length fs) x);
                wrote = λ _. p.eq;
                moved = λ _. e;
                kept = λ n. differ b n;
                same_words = t.same;
                same_bytes = wrote_same p;
              }

two_kinds : (k : Kind) → same_kind k ParseTypeLiteralPropertyElt ≡ true → same_kind k ParseTypeOtherPropertyElt ≡ true → ⊥
two_kinds Rdf p q = false≢true p
two_kinds NodeElt p q = false≢true p
two_kinds PropertyElt p q = false≢true p
two_kinds ParseTypeCollectionPropertyElt p q = false≢true p
two_kinds ParseTypeLiteralPropertyElt p q = false≢true q
two_kinds ParseTypeOtherPropertyElt p q = false≢true p
two_kinds Wrapper p q = false≢true p

pub nothing : {r : Registers} {fs w : List ℕ} → Nothing r fs w None fs w
nothing = record { ok = refl; registers = refl; words = refl; bytes = refl }

module _ {r : Registers} {fs w t : List ℕ} {f : Frame} (e : f ≡ top_frame r fs) where
  pub text-other : same_kind f.kind PropertyElt ≡ false → Texts r fs w t None fs w
  text-other n = record { tails = λ y. differ (rw (← e) at y) n; kept = λ _. nothing }

  pub text_done : {c : Option Registers} {gs v : List ℕ} → same_kind f.kind PropertyElt ≡ true → Tails r fs w f (at f TAIL) 3 t c gs v → Texts r fs w t c gs v
  text_done y p = record { tails = λ _. rw (← e) p; kept = λ n. differ y (rw (← e) at n) }

  pub xml_dropped : same_kind f.kind ParseTypeOtherPropertyElt ≡ true → Xmls r fs w t (Some r) fs w
  xml_dropped y =
      record {
        tails = λ l. absurd (two_kinds f.kind (rw (← e) at l) y);
        dropped = λ _. (refl, refl, refl);
        kept = λ _ n. differ y (rw (← e) at n);
      }

  pub xml_other : same_kind f.kind ParseTypeOtherPropertyElt ≡ false → same_kind f.kind ParseTypeLiteralPropertyElt ≡ false → Xmls r fs w t None fs w
  xml_other n m = record { tails = λ l. differ (rw (← e) at l) m; dropped = λ y. differ (rw (← e) at y) n; kept = λ _ _. nothing }

  pub xml_done : {c : Option Registers} {gs v : List ℕ} → same_kind f.kind ParseTypeOtherPropertyElt ≡ false → same_kind f.kind ParseTypeLiteralPropertyElt ≡ true → Tails r fs w f (at f END) (has f PENDING) t c gs v → Xmls r fs w t c gs v
  xml_done n y p = record { tails = λ _. rw (← e) p; dropped = λ z. differ (rw (← e) at z) n; kept = λ z _. differ y (rw (← e) at z) }

module _ {r : Registers} {fs : List ℕ} {f : Frame} (e : f ≡ top_frame r fs) where
  count-refused : {gs : List ℕ} → may_count r fs ≡ false → gs ≡ fs → CountsLi r fs false gs
  count-refused n q = record { answer = sym n; stored = λ y. differ y n; kept = λ _. q; same = ap length q }

  pub count-other : same_kind f.kind NodeElt ≡ false → CountsLi r fs false fs
  unfolding L.all may_count
  count-other n = count-refused (rw (← e, n)) refl

  module _ (y : same_kind f.kind NodeElt ≡ true) where
    pub count-empty : r.counts.depth ≡ 0 → CountsLi r fs false fs
    unfolding L.all may_count
    count-empty z = count-refused (rw (← e, y, le-ltb 0 r.counts.depth (omega arith))) refl

    module _ (d : r.counts.depth ≡ 0 → ⊥) where
      pub count-spent : 99_999_999 ≤ count f → CountsLi r fs false fs
      unfolding L.all may_count
      count-spent h = count-refused (rw (← e, y, lt-ltb 0 r.counts.depth (positive r.counts.depth d), le-ltb (count f) 99_999_999 h)) refl

      pub count_done : {gs : List ℕ} {q : Bool} → count f < 99_999_999 → StoredFrame fs (r.counts.depth - 1) (counted f) gs q → CountsLi r fs q gs
      unfolding L.all may_count
      count_done {gs} {q} h s =
          let m : may_count r fs ≡ leb ((r.counts.depth - 1) * FRAME + FRAME) (length fs) = rw (← e, y, lt-ltb 0 r.counts.depth (positive r.counts.depth d), lt-ltb (count f) 99_999_999 h) in
          record {
            answer = s.answer ∙ sym m;
            stored = λ u. rw (← e) (s.wrote (leb-true ((r.counts.depth - 1) * FRAME + FRAME) (length fs) (sym m ∙ u)));
            kept = λ u. s.kept (leb-false ((r.counts.depth - 1) * FRAME + FRAME) (length fs) (sym m ∙ u));
            same = s.same;
          }
