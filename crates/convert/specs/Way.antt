-- Where a program stands on its way, in the definitions' words, and how it gets on: what is printed in the end is what document 01's program prints.
use Rattle.std.specs.Prelude.{ℕ, ◌+◌, ◌≤◌, ◌<◌, ◌≡◌, refl, Bool, true, false, List, [], ◌∷◌, ◌++◌, length, take, drop}
use Rattle.std.proofs.Common.{sym, append_assoc, arith, length-append, length-take-le}
use Rattle.std.proofs.Math.Option.{Option, none}
use Rattle.spec.specs.Limits.{program_room}
use Rattle.spec.specs.Bytes.{Bytes, is_empty, concat}
use Rattle.spec.specs.Numbers.{number, refuse}
use Rattle.spec.specs.declared.Refusal.{Refusal}
use Rattle.spec.specs.declared.Refusal.TheVariants.{Incomplete}
use Rattle.spec.specs.declared.Mode.{Mode}
use Rattle.spec.specs.Modes.{base_mode}
use Rattle.spec.specs.Document.{Doc, fresh}
use Rattle.spec.specs.Calls.{is_open, call_finish}
use Rattle.spec.specs.Pyx2nt.{last_line, pyx2nt}
use Rattle.theorems.specs.Division.{print_all}
use Rattle.state.specs.declared.Registers.{Registers}
use Rattle.event.specs.Progress.{Lent, doc_in}
use Rattle.reader.specs.Core.{first_accepted}
use Rattle.reader_contract.specs.declared.fed.Fed.{Fed}
use Rattle.reader.specs.Goes.{Goes}
use Rattle.reader.specs.Prints.{Prints, reads, refused, over, goes_on_lem, prints_all, prints_pyx2nt}

-- the number of the next event, how many bytes of lines were taken, whether no more input follows, the rest at hand, and the document
pub record Spot : Type 0 where
  pub event : ℕ
  pub bytes : ℕ
  pub last : Bool
  pub rest : Bytes
  pub doc : Doc

abbrev pub spot : ℕ → ℕ → Bool → Bytes → Doc → Spot
spot k b last rest d = record { event = k; bytes = b; last = last; rest = rest; doc = d }

-- before the first event of a document; and where a document starts, in a mode, with a base or without
abbrev pub beginning : Doc → Spot
beginning d = spot 1 0 false [] d

abbrev pub start : Mode → Option Bytes → Spot
start mode base = beginning (fresh mode base)

-- from one to another: some pieces were read, some bytes printed, and all of these were taken
pub record Leads (s t : Spot) : Type 0 where
  pub pieces : List Bytes
  pub printed : Bytes
  pub more : (ps : List Bytes) → is_empty ps ≡ t.last → is_empty (pieces ++ ps) ≡ s.last
  pub way : (ps : List Bytes) (w : Bytes) → is_empty ps ≡ t.last → Prints t.event t.rest ps t.doc w → Prints s.event s.rest (pieces ++ ps) s.doc (printed ++ w)
  pub taken : t.bytes ≡ s.bytes + length printed
  pub later : s.event ≤ t.event

-- to the end, and its last line: what a refusal at event k is given for. Of the lines before it b bytes were taken: all
pub record Ended (s : Spot) (n k b : ℕ) : Type 0 where
  pub pieces : List Bytes
  pub printed : Bytes
  pub more : is_empty pieces ≡ s.last
  pub way : Prints s.event s.rest pieces s.doc (printed ++ last_line n k)
  pub taken : b ≡ s.bytes + length printed
  pub later : s.event ≤ k

-- to a write that failed: all lines before event k were taken, and some of the bytes of the lines behind them, not all
pub record Cut (s : Spot) (k b : ℕ) : Type 0 where
  pub whole : Spot
  pub next : Spot
  pub way : Leads s whole
  pub lines : Leads whole next
  pub event : k ≡ whole.event
  pub least : whole.bytes ≤ b
  pub fewer : b < next.bytes

-- to a read that failed: all lines before event k were taken, which are b bytes
pub record Unfinished (s : Spot) (k b : ℕ) : Type 0 where
  pub whole : Spot
  pub way : Leads s whole
  pub event : k ≡ whole.event
  pub bytes : b ≡ whole.bytes

-- All that a program printed that started and came to its end is what document 01's program prints of all that it read: in any
-- mode, with a start base or without.
pub ended_all_lem : (mode : Mode) (base : Option Bytes) {n k b : ℕ} (e : Ended (start mode base) n k b)
    → e.printed ++ last_line n k ≡ print_all (concat e.pieces) (fresh mode base)
ended_all_lem mode base e = prints_all e.way

pub ended-pyx2nt : {n k b : ℕ} (e : Ended (start base_mode none) n k b)
    → e.printed ++ last_line n k ≡ pyx2nt (concat e.pieces)
ended-pyx2nt e = prints_pyx2nt e.way

-- ---- one behind the other

pub leads_here : {s : Spot} → Leads s s
leads_here = record { pieces = []; printed = []; more = λ ps e. e; way = λ ps w e h. h; taken = omega arith; later = omega arith }

pub leads_then : {s t u : Spot} → Leads s t → Leads t u → Leads s u
leads_then p q =
    record {
      pieces = p.pieces ++ q.pieces;
      printed = p.printed ++ q.printed;
      more = λ ps e. rw append_assoc (p.more (q.pieces ++ ps) (q.more ps e));
      way = λ ps w e h. simp append_assoc (p.way (q.pieces ++ ps) (q.printed ++ w) (q.more ps e) (q.way ps w e h));
      taken = rw length-append (omega (arith, p.taken, q.taken));
      later = omega (arith, p.later, q.later);
    }

pub leads_end : {s t : Spot} {n k b : ℕ} → Leads s t → Ended t n k b → Ended s n k b
leads_end p q =
    record {
      pieces = p.pieces ++ q.pieces;
      printed = p.printed ++ q.printed;
      more = p.more q.pieces q.more;
      way = rw append_assoc (p.way q.pieces (q.printed ++ _) q.more q.way);
      taken = rw length-append (omega (arith, p.taken, q.taken));
      later = omega (arith, p.later, q.later);
    }

pub leads_cut : {s t : Spot} {k b : ℕ} → Leads s t → Cut t k b → Cut s k b
leads_cut p q =
    record {
      whole = q.whole;
      next = q.next;
      way = leads_then p q.way;
      lines = q.lines;
      event = q.event;
      least = q.least;
      fewer = q.fewer;
    }

pub leads_unfinished : {s t : Spot} {k b : ℕ} → Leads s t → Unfinished t k b → Unfinished s k b
leads_unfinished p q = record { whole = q.whole; way = leads_then p q.way; event = q.event; bytes = q.bytes }

-- ---- what a program does

-- events, whose lines it prints
pub leads_on : {last : Bool} {rest : Bytes} {r : Registers} {count : ℕ} {f : Fed} {l l' : Lent} (k b : ℕ) → f.written ≤ length l'.out → Goes last rest r count f l l'
    → Leads (spot k b last rest (doc_in r count l)) (spot (k + f.events) (b + f.written) last (drop f.consumed rest) (doc_in f.registers f.count l'))
leads_on {last} {rest} {r} {count} {f} {l} {l'} k b upto g =
    record {
      pieces = [];
      printed = take f.written l'.out;
      more = λ ps e. e;
      way = λ ps w e h. let x : Goes (is_empty ps) rest r count f l l' = rw e g in goes_on_lem x h;
      taken = rw (length-take-le f.written l'.out upto);
      later = omega arith;
    }

-- a piece read, behind the rest
pub leads_read : (k b : ℕ) {now : Bool} (last : Bool) (rest p : Bytes) (d : Doc) → now ≡ false → Leads (spot k b now rest d) (spot k b last (rest ++ p) d)
unfolding is_empty
leads_read k b last rest p d h =
    record { pieces = p ∷ []; printed = []; more = λ ps e. sym h; way = λ ps w e y. reads y; taken = omega arith; later = omega arith }

-- a refusal: 1 is for more input
pub ends-refused : (k b : ℕ) (last : Bool) (rest : Bytes) (d : Doc) {n : Refusal} → first_accepted last rest program_room d ≡ refuse n → (n ≡ Incomplete → ⊥)
    → Ended (spot k b last rest d) (number n) k b
unfolding is_empty
ends-refused k b true rest d q h = record { pieces = []; printed = []; more = refl; way = refused q h; taken = omega arith; later = omega arith }
ends-refused k b false rest d q h = record { pieces = [] ∷ []; printed = []; more = refl; way = refused q h; taken = omega arith; later = omega arith }

-- the end of the input
pub ends_over : (k b : ℕ) {now : Bool} (rest : Bytes) (d : Doc) {n : ℕ} → now ≡ true → first_accepted now rest program_room d ≡ refuse Incomplete → n ≡ (call_finish (is_open d)).answer
    → Ended (spot k b now rest d) n k b
unfolding is_empty
ends_over k b rest d h q e = rw e (record { pieces = []; printed = []; more = sym h; way = over (rw h at q); taken = omega arith; later = omega arith })
