-- Events one after another: what `feed` does.
use Rattle.std.specs.Prelude.{ℕ, suc, ◌+◌, ◌*◌, ◌-◌, ◌≤◌, ◌<◌, ◌≡◌, refl, Bool, false, List, [], ◌++◌, length, take, drop, Result, Ok, Err}
use Rattle.std.proofs.Common.{ap, ◌∙◌, add-one, add-zero, arith, length-append, length-take, take-append-drop}
use Rattle.std.proofs.Math.ListN.{length-drop}
use Rattle.spec.specs.Limits.{program_room}
use Rattle.spec.specs.Bytes.{Bytes}
use Rattle.spec.specs.Numbers.{Answer, refuse, good}
use Rattle.spec.specs.declared.Refusal.{Refusal}
use Rattle.spec.specs.Document.{Doc}
use Rattle.spec.specs.Calls.{Accepted}
use Rattle.copy.specs.Copy.{Wrote, part, length_part, then, wrote_none, wrote_same, part_of, rest_of, lent_back, stored_within}
use Rattle.state.specs.declared.Registers.{Registers}
use Rattle.event.specs.declared.Advance.{Advance}
use Rattle.event.specs.Progress.{Lent, lent, doc_in, Lawful}
use Rattle.reader.specs.Asked.{Asks, Roomy, Areas}
use Rattle.reader.specs.declared.stream.Taken.{Taken}
use Rattle.reader.specs.Core.{first_accepted, Accepts, Takes}
use Rattle.reader_contract.specs.declared.fed.Fed.{Fed}
use Rattle.reader_contract.specs.Fed.{nothing, further, Sums, stopped}
use Rattle.std.specs.Prelude.{Option, None, Some}

-- k events from the front of s, one behind the other, each done within its room: n bytes of s, output o, from the document d to d'
pub data Does (last : Bool) (s : Bytes) (d : Doc) : ℕ → ℕ → Bytes → Doc → Type 0 where
  none : Does last s d 0 0 [] d
  one : {k n : ℕ} {o : Bytes} {d' : Doc} → Does last s d k n o d' → (a : Accepted) → first_accepted last (drop n s) program_room d' ≡ good a
      → Does last s d (suc k) (n + a.size) (o ++ a.lines) a.behind

-- why no further event was done, in a document d, with the input s and `free` bytes of output left
abbrev pub Ends : Bool → Bytes → Doc → ℕ → Option Refusal → Type 0
Ends last s d free None = free < program_room
Ends last s d free (Some n) = first_accepted last s program_room d ≡ refuse n

-- k events of n bytes were done, from the registers r with i rdf:IDs on, to r' with i', whose bytes are the first u of their store: the m bytes
-- written are theirs, and all is lawful and means the document behind them
pub record Went (last : Bool) (s : Bytes) (k n m : ℕ) (r : Registers) (i : ℕ) (r' : Registers) (i' u : ℕ) (l l' : Lent) : Type 0 where
  pub frame_words : length l'.frames ≡ length l.frames
  pub binding_words : length l'.bindings ≡ length l.bindings
  pub inner_words : length l'.inners ≡ length l.inners
  pub store : length l'.work ≡ length l.work
  pub place_words : length l'.places ≡ length l.places
  pub size_words : length l'.sizes ≡ length l.sizes
  pub id_store : length l'.ids ≡ length l.ids
  pub room : length l'.out ≡ length l.out
  pub output : Bytes
  pub does : Does last s (doc_in r i l) k n output (doc_in r' i' l')
  pub within : n ≤ length s
  pub fewer : k ≤ n
  pub wrote : Wrote l.out l'.out 0 m output
  pub lawful : Lawful r' i' u l'
  pub mark : r'.flags.closed ≡ false

abbrev pub WentTo : Bool → Bytes → Registers → ℕ → Fed → Lent → Lent → Type 0
WentTo last s r count f l l' = Went last s f.events f.consumed f.written r count f.registers f.count f.used l l'

-- and no further one was
pub record Goes (last : Bool) (s : Bytes) (r : Registers) (count : ℕ) (f : Fed) (l l' : Lent) : Type 0 where
  pub went : WentTo last s r count f l l'
  pub ends : Ends last (drop f.consumed s) (doc_in f.registers f.count l') (length l.out - f.written) f.refusal

-- ---- scratch is as long as it was

pub areas_then : {e v a e' v' a' e'' v'' a'' : List ℕ} → Areas e v a e' v' a' → Areas e' v' a' e'' v'' a'' → Areas e v a e'' v'' a''
areas_then p q = record { scratch = q.scratch ∙ p.scratch; spans = q.spans ∙ p.spans; area = q.area ∙ p.area }

pub still_roomy : {e v a e' v' a' : List ℕ} → Areas e v a e' v' a' → Roomy e v a → Roomy e' v' a'
still_roomy p h = record { scratch = p.scratch ∙ h.scratch; spans = p.spans ∙ h.spans; area = omega (arith, p.area, h.area); most = omega (arith, p.area, h.most) }

-- ---- the loop: so many events, and no reason yet to end

pub record Going (last : Bool) (s : Bytes) (r : Registers) (count : ℕ) (f : Fed) (l l' : Lent) : Type 0 where
  pub went : WentTo last s r count f l l'
  pub full : f.refusal ≡ None

-- from `f`, which nothing is done to yet
pub going_begins : {last : Bool} {s : Bytes} {r : Registers} {count used : ℕ} {l : Lent} {f : Fed} → f ≡ nothing r count used → Lawful r count used l → r.flags.closed ≡ false
    → Going last s f.registers f.count f l l
going_begins {l = l} e w m =
    rw e
    (record {
      went = record {
        frame_words = refl;
        binding_words = refl;
        inner_words = refl;
        store = refl;
        place_words = refl;
        size_words = refl;
        id_store = refl;
        room = refl;
        output = [];
        does = none;
        within = omega arith;
        fewer = omega arith;
        wrote = wrote_none (omega arith);
        lawful = w;
        mark = m;
      };
      full = refl;
    })

pub goes_full : {last : Bool} {s : Bytes} {r : Registers} {count : ℕ} {f : Fed} {l l' : Lent} → Going last s r count f l l' → length l.out - f.written < 65_536 → Goes last s r count f l l'
unfolding program_room
goes_full g h = record { went = g.went; ends = rw g.full h }

-- the next event may be asked for, with whatever output
pub going_asks : {last : Bool} {s : Bytes} {r : Registers} {count : ℕ} {f : Fed} {l : Lent} {fs bs is w ia il st out : List ℕ} (y : List ℕ)
    → Going last s r count f l (lent fs bs is w ia il st out) → Asks f.registers f.count f.used (lent fs bs is w ia il st y)
going_asks y g = let h = g.went in record { lawful = record { valid = h.lawful.valid; table = h.lawful.table }; mark = h.mark }

pub goes_from : {last : Bool} {s : Bytes} {r : Registers} {count used : ℕ} {g f : Fed} {l l' : Lent} → g ≡ nothing r count used → Goes last s g.registers g.count f l l' → Goes last s r count f l l'
goes_from e h = rw e at h

-- ---- one event more, over the parts of input and output that are lent for it

-- a part that was lent and comes back as it was
lent_same : (w : List ℕ) (at n : ℕ) → take at w ++ (part w at n ++ drop (at + n - at) (drop at w)) ≡ w
unfolding part
lent_same w at n = let e : at + n - at ≡ n = omega arith in rw (e, take-append-drop n (drop at w), take-append-drop at w)

-- a write at its front, seen from the whole
wrote_back : (d : List ℕ) (at n : ℕ) {y : List ℕ} {to : ℕ} {s : List ℕ} → at + n ≤ length d → Wrote (part d at n) y 0 to s
    → Wrote d (take at d ++ (y ++ drop (at + n - at) (drop at d))) at (at + to) s
wrote_back d at n {y} {to} {s} h w =
    let k : length (part d at n) ≡ n = length_part d at n h in
    let e : at + n - at ≡ n = omega arith in
    record {
      room = omega (arith, w.room);
      up = omega (arith, w.up);
      eq = rw e (lent_back d at n y (wrote_same w ∙ k) ∙ rw w.eq (rw add-zero at (stored_within d at n 0 s h (omega (arith, w.room)))));
    }

module _ {last : Bool} {s : Bytes} {r : Registers} {count : ℕ} {f : Fed} {l : Lent} {fs bs is w ia il st out : List ℕ} (g : Going last s r count f l (lent fs bs is w ia il st out))
    (fits : f.written + 65_536 ≤ length out) {o : Result Taken Refusal} {fs' bs' is' w' ia' il' st' y : List ℕ}
    (t : Takes last (take (length s - f.consumed) (drop f.consumed s)) f.registers f.count o
    (lent fs bs is w ia il st (take (f.written + 65_536 - f.written) (drop f.written out))) (lent fs' bs' is' w' ia' il' st' y)) where
  abbrev rest : Bytes
  rest = drop f.consumed s

  abbrev free : List ℕ
  free = part out f.written 65_536

  -- what the definitions answer of the next event
  abbrev answer : Answer Accepted
  answer = first_accepted last rest program_room (doc_in f.registers f.count (lent fs bs is w ia il st out))

  -- the output behind it
  abbrev back : List ℕ
  back = take f.written out ++ (y ++ drop (f.written + 65_536 - f.written) (drop f.written out))

  parts : Takes last rest f.registers f.count o (lent fs bs is w ia il st free) (lent fs' bs' is' w' ia' il' st' y)
  parts = rw (rest_of s f.consumed, part_of out f.written 65_536) at t

  given : first_accepted last rest (length free) (doc_in f.registers f.count (lent fs bs is w ia il st free)) ≡ answer
  unfolding doc_in program_room
  given = rw (length_part out f.written 65_536 fits)

  done : {d : Taken} → o ≡ Ok d → Accepts answer rest d.consumed d.behind (lent fs bs is w ia il st free) (lent fs' bs' is' w' ia' il' st' y)
  done q = rw given at (rw q at parts.cases)

  undone : {n : Refusal} → o ≡ Err n → (answer ≡ refuse n) × (lent fs' bs' is' w' ia' il' st' y ≡ lent fs bs is w ia il st free)
  undone q = rw given at (rw q at parts.cases)

  pub back_room : length back ≡ length l.out
  back_room =
      let k : length y ≡ 65_536 = parts.room ∙ length_part out f.written 65_536 fits in
      simp (length-append, length-take, length-drop) (omega (arith, g.went.room))

  pub goes_stop : {n : Refusal} {f' : Fed} → o ≡ Err n → f' ≡ stopped f n → Goes last s r count f' l (lent fs' bs' is' w' ia' il' st' back)
  goes_stop q e =
      let x = undone q in
      let same : lent fs' bs' is' w' ia' il' st' back ≡ lent fs bs is w ia il st out =
      ap (λ (m : Lent). lent m.frames m.bindings m.inners m.work m.places m.sizes m.ids (take f.written out ++ (m.out ++ drop (f.written + 65_536 - f.written) (drop f.written out)))) x.1
      ∙ ap (lent fs bs is w ia il st) (lent_same out f.written 65_536) in
      rw (e, same) (record { went = g.went; ends = x.0 })

  further_went : {n : ℕ} {a : Advance} → Accepts answer rest n a (lent fs bs is w ia il st free) (lent fs' bs' is' w' ia' il' st' y) → WentTo last s r count (further f n a) l (lent fs' bs' is' w' ia' il' st' back)
  unfolding doc_in
  further_went x =
      let h = g.went in
      record {
        frame_words = t.frame_words ∙ h.frame_words;
        binding_words = t.binding_words ∙ h.binding_words;
        inner_words = t.inner_words ∙ h.inner_words;
        store = t.store ∙ h.store;
        place_words = t.place_words ∙ h.place_words;
        size_words = t.size_words ∙ h.size_words;
        id_store = t.id_store ∙ h.id_store;
        room = back_room;
        output = h.output ++ x.what.lines;
        does = rw (add-one f.events, x.consumed, x.doc) (one h.does x.what x.answer);
        within = omega (arith, h.within, x.within, length-drop f.consumed s);
        fewer = omega (arith, h.fewer, x.some);
        wrote = then h.wrote (wrote_back out f.written 65_536 fits x.wrote);
        lawful = record { valid = x.lawful.valid; table = x.lawful.table };
        mark = x.mark;
      }

  pub going_further : {d : Taken} {f' : Fed} → o ≡ Ok d → f' ≡ further f d.consumed d.behind → Going last s r count f' l (lent fs' bs' is' w' ia' il' st' back)
  going_further q e = rw e (record { went = further_went (done q); full = refl })

  pub further_counts : {d : Taken} → o ≡ Ok d → length s * 1 < 9_223_372_036_854_775_808 → length l.out * 1 < 9_223_372_036_854_775_808 → Sums f d.consumed d.behind
  further_counts q h k =
      let x = further_went (done q) in
      record {
        events = omega (arith, x.fewer, x.within);
        consumed = omega (arith, x.within);
        written = omega (arith, x.wrote.up, x.wrote.room);
        size = omega (arith, x.within);
        lines = omega (arith, x.wrote.up, x.wrote.room);
      }

  pub further_less : {d : Taken} {f' : Fed} → o ≡ Ok d → f' ≡ further f d.consumed d.behind → length s - f'.consumed < length s - f.consumed
  further_less q e = let x = done q in rw e (omega (arith, x.some, x.within, length-drop f.consumed s))
