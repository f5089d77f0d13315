-- Every end tag that a document accepts closes an element of the document's own events.
use Rattle.std.specs.Prelude.{◌≡◌, refl, Bool, true, false, List, [], ◌∷◌, ◌++◌, ℕ, suc, ◌≤◌, ◌<◌, leb, length}
use Rattle.std.proofs.Common.{sym, ◌∙◌, append-nil, append_assoc, arith, leb-true, leb-false}
use Rattle.std.proofs.Math.Path.{ap}
use Rattle.std.proofs.Math.Option.{Option}
use Rattle.spec.specs.Bytes.{Bytes}
use Rattle.spec.specs.Numbers.{good}
use Rattle.spec.specs.Pyx.{Event, opening, closing, text, instruction}
use Rattle.spec.specs.NTriples.{Triple}
use Rattle.spec.specs.declared.Mode.{Mode}
use Rattle.spec.specs.Document.{Frame, Doc, fresh}
use Rattle.spec.specs.RdfXml.{next}
use Rattle.spec.specs.Lists.{After, here, event}
use Rattle.spec.specs.Inside.{Begun, Element, lines_in}
use Rattle.theorems.specs.Always.{always_good}
use Rattle.theorems.specs.Frames.{value-length, left-length, Move, instructs, leaves, adds, closes, Moved, moves, on_top}
use Rattle.reader_theorems.specs.Events.{events_of, events_in}

-- ---- how many elements are open

-- a start tag opens one more, an end tag closes one
abbrev Turn : Event → ℕ → ℕ → Type 0
Turn (opening n as') k k' = k' ≡ suc k
Turn (closing n) k k' = k ≡ suc k'
Turn (text s) k k' = k' ≡ k
Turn instruction k k' = k' ≡ k

turns : {e : Event} {fs fs' : List Frame} → Move e fs fs' → Turn e (length fs) (length fs')
turns {e = opening n as'} m = let o = on_top m in ap length o.2 ∙ ap suc o.3
turns {e = closing n} (closes {f = f} {fs = fs}) = ap suc (sym (left-length f.kind n fs))
turns {e = text s} leaves = refl
turns {e = text s} (adds {fs = fs} m) = value-length _ fs
turns {e = instruction} instructs = refl

pub turn : (e : Event) (d d' : Doc) {us : List Triple} → next e d ≡ good (us, d') → Turn e (length d.frames) (length d'.frames)
turn e d d' q = turns (always_good (Moved d e) (moves e d) q).0

-- ---- an element that is open

-- the one with k others around it: the events before its start tag, its start tag and those since are all events
record Since {d₀ d : Doc} {ts : List Triple} (k : ℕ) (a : After d₀ d ts) : Type 0 where
  before : Doc
  earlier : List Triple
  prior : After d₀ before earlier
  begun : Begun before d
  around : length before.frames ≡ k
  events : events_of a ≡ events_of prior ++ (opening begun.name begun.attributes ∷ events_of begun.inside)
  lines : ts ≡ earlier ++ (begun.start_lines ++ begun.inner_lines)

module _ {d₀ d : Doc} {ts : List Triple} (k : ℕ) (a : After d₀ d ts) (d' : Doc) (us : List Triple) (hi : k < length d'.frames) where
  -- an event inside it
  since_more : (e : Event) (q : next e d ≡ good (us, d')) → Since k a → Since k (event a e d' us q)
  unfolding events_of
  since_more e q s =
      let b = s.begun in
      record {
        before = s.before;
        earlier = s.earlier;
        prior = s.prior;
        begun = record {
          name = b.name;
          attributes = b.attributes;
          start_lines = b.start_lines;
          first = b.first;
          starts = b.starts;
          inner_lines = b.inner_lines ++ us;
          inside = event b.inside e d' us q;
          stays = (b.stays, rw s.around hi);
        };
        around = s.around;
        events = rw (s.events, append_assoc) refl;
        lines = rw s.lines (simp append_assoc);
      }

  -- its start tag
  since_start : (e : Event) (q : next e d ≡ good (us, d')) → length d.frames ≤ k → Since k (event a e d' us q)
  unfolding events_of
  since_start (opening n as') q lo =
      record {
        before = d;
        earlier = ts;
        prior = a;
        begun = record { name = n; attributes = as'; start_lines = us; first = d'; starts = q; inner_lines = []; inside = here; stays = tt };
        around = omega (arith, turn (opening n as') d d' q);
        events = refl;
        lines = ap (ts ++◌) (sym (append-nil us));
      }
  since_start (closing n) q lo = absurd (omega (arith, turn (closing n) d d' q))
  since_start (text s) q lo = absurd (omega (arith, turn (text s) d d' q))
  since_start instruction q lo = absurd (omega (arith, turn instruction d d' q))

since : {d₀ d : Doc} {ts : List Triple} (k : ℕ) (a : After d₀ d ts) → length d₀.frames ≤ k → k < length d.frames → Since k a
since k here lo hi = absurd (omega arith)
since k (event {d = d} a e d' us q) lo hi = go (leb (suc k) (length d.frames)) refl (λ h. since k a lo h)
  where
    go : (b : Bool) → leb (suc k) (length d.frames) ≡ b → (k < length d.frames → Since k a) → Since k (event a e d' us q)
    go true h f = since_more k a d' us hi e q (f (leb-true (suc k) (length d.frames) h))
    go false h f = since_start k a d' us hi e q (let le : length d.frames < suc k = leb-false (suc k) (length d.frames) h in omega arith)

-- ---- its end tag

-- an element of a document's own events, of which its end tag is the last: those before its start tag and its own are all
pub record Closed (mode : Mode) (b : Option Bytes) (d' : Doc) (es : List Event) (ts : List Triple) : Type 0 where
  pub before : Doc
  pub earlier : List Triple
  pub prior : After (fresh mode b) before earlier
  pub element : Element before d'
  pub events : es ≡ events_of prior ++ events_in element
  pub lines : ts ≡ earlier ++ lines_in element

pub closed : {mode : Mode} {b : Option Bytes} {d : Doc} {ts : List Triple} (a : After (fresh mode b) d ts) (n : Bytes)
    (us : List Triple) (d' : Doc) → next (closing n) d ≡ good (us, d')
    → (c : Closed mode b d' (events_of a ++ (closing n ∷ [])) (ts ++ us)) × (c.element.last ≡ d)
    × (c.element.end_lines ≡ us)
unfolding fresh events_in lines_in
closed {mode} {b} {d} {ts} a n us d' q =
    go (since (length d'.frames) a (omega arith) (omega (arith, turn (closing n) d d' q)))
  where
    go : Since (length d'.frames) a → (c : Closed mode b d' (events_of a ++ (closing n ∷ [])) (ts ++ us)) × (c.element.last ≡ d) × (c.element.end_lines ≡ us)
    go s = (
      record {
        before = s.before;
        earlier = s.earlier;
        prior = s.prior;
        element = record { last = d; begun = s.begun; name = n; end_lines = us; ends = q; closes = sym s.around };
        events = rw (s.events, append_assoc) refl;
        lines = rw s.lines (simp append_assoc);
      },
      refl,
      refl,
    )
