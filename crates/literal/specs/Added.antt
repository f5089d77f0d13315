-- What `add` does: XML text behind what the Literal property around has so far, or 7.
use Rattle.std.specs.Prelude.{ℕ, ◌+◌, ◌-◌, ◌*◌, ◌<◌, ◌≤◌, ◌≡◌, refl, Bool, true, false, List, leb, drop}
use Rattle.std.proofs.Math.Path.{sym}
use Rattle.std.proofs.Common.{ap, ◌∙◌}
use Rattle.std.proofs.lemmas.Bool.{false≢true}
use native.Mathlib.Omega.{arith}
use Rattle.std.proofs.Math.ListN.{length, take}
use borrow.Author.Tests.{leb-true, leb-false, le-leb, lt-leb, lt-ltb}
use Rattle.spec.specs.Limits as L
use Rattle.spec.specs.Limits.{most_held_bytes}
use Rattle.spec.specs.Bytes.{Bytes}
use Rattle.spec.specs.declared.Refusal.{Refusal}
use Rattle.spec.specs.declared.Refusal.TheVariants.{OverLimit}
use Rattle.spec.specs.Pyx.{Event}
use Rattle.spec.specs.Document.{Frame as Element, change_value}
use Rattle.spec.specs.XmlLiteral.{takes_xml}
use Rattle.copy.specs.Copy.{part, wrote_part}
use Rattle.writer.specs.Put.{Put, most, counted, put_wrote}
use Rattle.state_words.specs.Parts.{END, FRAME}
use Rattle.state_words.specs.declared.Kind.{Kind}
use Rattle.state_words.specs.declared.Kind.TheVariants.{ParseTypeLiteralPropertyElt, ParseTypeOtherPropertyElt}
use Rattle.state_words.specs.Words.{pick}
use Rattle.state.specs.declared.Registers.{Registers}
use Rattle.state.specs.Meaning.{at, start_of, elements_of}
use Rattle.state.specs.Valid.{Valid}
use Rattle.state.specs.Held.{room}
use Rattle.state_stack.specs.Calls.{top_frame, same_kind, Xmls, may_tail}
use Rattle.state_stack.specs.Change.{Holds, topped_to, top_frame_lem}
use Rattle.state_stack.specs.Laws.{by, xml_holds, topmost, top_deep}
use Rattle.state_inner.specs.Calls.{held_in, held_is}
use Rattle.event.specs.declared.Done.{Done}
use Rattle.event.specs.Result.{Asks}
use Rattle.literal.specs.Quiet.{Quiet, Quietly, held_with, held_with_lem, holds_self, holds_as, quiet_over, quiet_done}
use Rattle.literal.specs.Xml.{adds_nothing, adds_bytes, keeps_read}
use Rattle.std.specs.Prelude.{Option, unwrap_or, Result, Ok, Err}

-- n is a writer's count of x, whose bytes, if they have room, are the first of `area`
pub record XmlIn (area : List ℕ) (n : ℕ) (x : Bytes) : Type 0 where
  pub counts : n ≡ counted 0 (length x)
  pub there : length x ≤ length area → part area 0 (length x) ≡ x

pub xml_in : {on : Bool} {d e x : List ℕ} {n : ℕ} → Put on d e 0 n x → on ≡ true → length d ≤ most → XmlIn e n x
xml_in {on} {d} {e} {x} p t l =
    record { counts = p.up; there = λ h. wrote_part (put_wrote p t l (omega (arith, p.same))) }

-- the elements behind it
abbrev pub with_xml : Registers → List ℕ → List ℕ → List ℕ → List ℕ → Bytes → List Element
with_xml r fs bs is w x = change_value (takes_xml x) (elements_of r fs bs is w)

-- 7, and nothing changed: `more` bytes are to be held besides
pub record Over (r : Registers) (fs bs is w : List ℕ) (x : Bytes) (more : ℕ) (n : Refusal) (fs' w' : List ℕ) : Type 0 where
  pub number : n ≡ OverLimit
  pub over : 49_152 < held_with (start_of r w) (with_xml r fs bs is w x) + more
  pub frames : fs' ≡ fs
  pub work : w' ≡ w

-- added
pub record Grown (r : Registers) (fs bs is w : List ℕ) (x : Bytes) (more : ℕ) (d : Done) (fs' w' : List ℕ) : Type 0 where
  pub top : ℕ
  pub moved : d ≡ record { written = 0; registers = topped_to r top }
  pub holds : Holds (topped_to r top) fs' bs is w' r.mode (start_of r w) (with_xml r fs bs is w x) r.flags.rooted r.counts.labels
  pub fits : held_with (start_of r w) (with_xml r fs bs is w x) + more ≤ 49_152

abbrev pub Grows : Result Done Refusal → Registers → List ℕ → List ℕ → List ℕ → List ℕ → Bytes → ℕ → List ℕ → List ℕ → Type 0
Grows (Err n) r fs bs is w x more fs' w' = Over r fs bs is w x more n fs' w'
Grows (Ok d) r fs bs is w x more fs' w' = Grown r fs bs is w x more d fs' w'

-- what `add` does to a valid state, whatever XML text stands in `area`
pub record Adds (r : Registers) (fs w area : List ℕ) (n more : ℕ) (o : Result Done Refusal) (fs' w' : List ℕ) : Type 0 where
  pub grows : (bs is : List ℕ) (x : Bytes) → Valid r fs bs is w → XmlIn area n x → Grows o r fs bs is w x more fs' w'

-- how much of n bytes of XML text is kept
unfoldable pub kept_of : Registers → List ℕ → ℕ → ℕ
kept_of r fs n = pick (same_kind (top_frame r fs).kind ParseTypeLiteralPropertyElt) n 0

module _ (r : Registers) (fs : List ℕ) (n : ℕ) where
  pub kept_all : same_kind (top_frame r fs).kind ParseTypeLiteralPropertyElt ≡ true → n ≡ kept_of r fs n
  unfolding kept_of
  kept_all h = rw h

  pub kept_none : same_kind (top_frame r fs).kind ParseTypeLiteralPropertyElt ≡ false → 0 ≡ kept_of r fs n
  unfolding kept_of
  kept_none h = rw h

-- the tests of `has_room`
module _ (r : Registers) (size more : ℕ) {h : ℕ} (e : h ≡ held_in r) where
  pub room-spent : 49_152 < h → false ≡ leb (held_in r + size + more) most_held_bytes
  unfolding L.all
  room-spent l = sym (lt-leb (held_in r + size + more) 49_152 (omega arith))

  pub room_short : 49_152 - h < size → false ≡ leb (held_in r + size + more) most_held_bytes
  unfolding L.all
  room_short l = sym (lt-leb (held_in r + size + more) 49_152 (omega arith))

  pub room-rest : h ≤ 49_152 → size ≤ 49_152 - h → leb more (49_152 - h - size) ≡ leb (held_in r + size + more) most_held_bytes
  unfolding L.all
  room-rest l m =
      by (leb more (49_152 - h - size))
      (λ y. y ∙ sym (le-leb (held_in r + size + more) 49_152 (omega (arith, leb-true more (49_152 - h - size) y))))
      (λ z. z ∙ sym (lt-leb (held_in r + size + more) 49_152 (omega (arith, leb-false more (49_152 - h - size) z))))

-- what is held with it
module _ {r : Registers} {fs bs is w : List ℕ} (v : Valid r fs bs is w) (x : Bytes) where
  pub held_more : held_with (start_of r w) (with_xml r fs bs is w x) ≡ held_in r + kept_of r fs (length x)
  unfolding held_with kept_of
  held_more =
      let h = held_with_lem (holds_self v) in
      by (same_kind (top_frame r fs).kind ParseTypeLiteralPropertyElt)
      (λ y. rw y (omega (arith, adds_bytes x (elements_of r fs bs is w) (keeps_read v ∙ y), h)))
      (λ z. rw (z, adds_nothing x (elements_of r fs bs is w) (keeps_read v ∙ z)) (omega (arith, h)))

-- ---- how `add` comes to its answer

-- a count is at most what was counted, and exact below `most`
kept_count : (r : Registers) (fs : List ℕ) {area : List ℕ} {n : ℕ} {x : Bytes} → XmlIn area n x → kept_of r fs n ≤ kept_of r fs (length x)
unfolding kept_of
kept_count r fs {n = n} {x = x} i = go (same_kind (top_frame r fs).kind ParseTypeLiteralPropertyElt)
  where
    go : (t : Bool) → pick t n 0 ≤ pick t (length x) 0
    go true = omega (arith, i.counts)
    go false = omega arith

pub add_over : {r : Registers} {fs w area : List ℕ} {n more g : ℕ} → g ≡ kept_of r fs n → 49_152 < held_in r + g + more → Adds r fs w area n more (Err OverLimit) fs w
add_over {r} {fs} {w} {area} {n} {more} {g} k l =
    record { grows = λ bs is x v i. record { number = refl; over = omega (arith, held_more v x, kept_count r fs i, k); frames = refl; work = refl } }

-- the tail of the Literal property on top has room
literal-room : {r : Registers} {fs bs is w : List ℕ} → Valid r fs bs is w → same_kind (top_frame r fs).kind ParseTypeLiteralPropertyElt ≡ true
    → (n : ℕ) → held_in r + n ≤ 49_152 → may_tail r fs w (at (top_frame r fs) END) n ≡ true
unfolding may_tail L.all
literal-room {r} {fs} {bs} {is} {w} v y n h =
    let d : 0 < r.counts.depth = top_deep r fs (λ i. false≢true (ap (λ (g : Kind). same_kind g ParseTypeLiteralPropertyElt) (sym i) ∙ y)) in
    let t = topmost v d in
    let e : at (top_frame r fs) END ≡ r.store.top = rw t.frame (top_frame_lem v (r.counts.depth - 1) t.depth).ends in
    let o = room v in
    let s = held_is r o.low v.apart in
    rw (
      lt-ltb 0 r.counts.depth d,
      le-leb r.store.low 65_536 o.low,
      le-leb r.store.low (length w) (omega (arith, o.low, v.store)),
      e,
      le-leb (r.store.top + n) r.store.low (omega (arith, o.low, v.apart)),
      le-leb ((r.counts.depth - 1) * FRAME + FRAME) (length fs) t.room,
    )

-- nothing changes where nothing is kept
unchanged : {r : Registers} {fs w t : List ℕ} {c : Option Registers} {fs' w' : List ℕ} → Xmls r fs w t c fs' w' → same_kind (top_frame r fs).kind ParseTypeLiteralPropertyElt ≡ false
    → (unwrap_or c r ≡ r) × (fs' ≡ fs) × (w' ≡ w)
unchanged {r} {fs} p z =
    by (same_kind (top_frame r fs).kind ParseTypeOtherPropertyElt)
    (λ o. (ap (λ d. unwrap_or d r) (p.dropped o).0, (p.dropped o).1, (p.dropped o).2))
    (λ o. ((p.kept z o).registers, (p.kept z o).words, (p.kept z o).bytes))

module _ {r : Registers} {fs w area : List ℕ} {n more g : ℕ} {c : Option Registers} {fs' w' : List ℕ} (k : g ≡ kept_of r fs n) (l : held_in r + g + more ≤ 49_152) (a : 49_152 ≤ length area)
    (p : Xmls r fs w (take (g - 0) (drop 0 area)) c fs' w') {bs is : List ℕ} {x : Bytes} (v : Valid r fs bs is w) (i : XmlIn area n x) where
  grown_none : same_kind (top_frame r fs).kind ParseTypeLiteralPropertyElt ≡ false → Grown r fs bs is w x more (record { written = 0; registers = unwrap_or c r }) fs' w'
  grown_none z =
      let u = unchanged p z in
      record {
        top = r.store.top;
        moved = rw u.0;
        holds = rw (u.1, u.2, adds_nothing x (elements_of r fs bs is w) (keeps_read v ∙ z)) (holds_self v);
        fits = omega (arith, held_more v x, kept_none r fs (length x) z, kept_none r fs n z);
      }

  grown-literal : same_kind (top_frame r fs).kind ParseTypeLiteralPropertyElt ≡ true → Grown r fs bs is w x more (record { written = 0; registers = unwrap_or c r }) fs' w'
  unfolding part
  grown-literal y =
      let kn = kept_all r fs n y in
      let e : n ≡ length x = omega (arith, i.counts) in
      let m = literal-room v y (length x) (omega (arith)) in
      let size : g - 0 ≡ length x = omega arith in
      let text : take (g - 0) (drop 0 area) ≡ x = rw size (i.there (omega arith)) in
      let q : Xmls r fs w x c fs' w' = rw text at p in
      let t = q.tails y in
      let h = xml_holds v q (t.answer ∙ m) in
      record {
        top = at (top_frame r fs) END + length x;
        moved = rw (t.moved m);
        holds = rw (t.moved m) at h;
        fits = omega (arith, held_more v x, kept_all r fs (length x) y);
      }

pub add_done : {r : Registers} {fs w area : List ℕ} {n more g : ℕ} {c : Option Registers} {fs' w' : List ℕ} → g ≡ kept_of r fs n → held_in r + g + more ≤ 49_152 → 49_152 ≤ length area
    → Xmls r fs w (take (g - 0) (drop 0 area)) c fs' w' → Adds r fs w area n more (Ok (record { written = 0; registers = unwrap_or c r })) fs' w'
add_done {r} {fs} k l a p =
    record { grows = λ bs is x v i. by (same_kind (top_frame r fs).kind ParseTypeLiteralPropertyElt) (grown-literal k l a p v i) (grown_none k l a p v i) }

-- ---- an event that only adds XML text

-- e is handled in state r₀; what it leaves open but for the XML text is what state r holds
pub adds_quietly : {e : Event} {r₀ r : Registers} {fs bs is w area : List ℕ} {n : ℕ} {x : Bytes} {es : List Element} {o : Result Done Refusal} {fs' w' : List ℕ}
    → Asks r₀ fs bs is w → r.flags.closed ≡ false → Holds r fs bs is w r₀.mode (start_of r₀ w) es r₀.flags.rooted r₀.counts.labels → Quiet e r₀ fs bs is w (change_value (takes_xml x) es)
    → Adds r fs w area n 0 o fs' w' → XmlIn area n x → Quietly e r₀ o fs bs is w fs' bs is w'
adds_quietly {e} {r₀} {r} {fs} {bs} {is} {w} {area} {n} {x} {es} {o} {fs'} {w'} a m h q p i = go o (p.grows bs is x h.valid i)
  where
    go : (o : Result Done Refusal) → Grows o r fs bs is w x 0 fs' w' → Quietly e r₀ o fs bs is w fs' bs is w'
    go (Err k) g =
        let l : 49_152 < held_with (start_of r w) (with_xml r fs bs is w x) = omega (arith, g.over) in
        rw (g.number, g.frames, g.work) (quiet_over q (rw (h.base, h.elements) at l))
    go (Ok d) g =
        let l : held_with (start_of r w) (with_xml r fs bs is w x) ≤ 49_152 = omega (arith, g.fits) in
        rw g.moved (quiet_done q a (rw (h.base, h.elements) at l) (holds_as g.holds h.chosen h.base (ap (change_value (takes_xml x)) h.elements) h.root h.count) m)
