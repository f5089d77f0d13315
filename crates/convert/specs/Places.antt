-- The contracts of the program's functions.
use Rattle.std.specs.Prelude.{ℕ, ◌+◌, ◌-◌, ◌≤◌, ◌<◌, ◌≡◌, true, false, List, eqb, length, take, Result, Ok, Err}
use Rattle.std.proofs.Math.Option as option
use Rattle.spec.specs.Bytes.{Bytes}
use Rattle.spec.specs.Numbers.{refuse}
use Rattle.spec.specs.declared.Refusal.{Refusal}
use Rattle.spec.specs.declared.Mode.{Mode}
use Rattle.spec.specs.declared.Refusal.TheVariants.{Incomplete, NotWellFormed}
use Rattle.spec.specs.Document.{Doc}
use Rattle.spec.specs.Calls.{may_start}
use Rattle.copy.specs.Copy.{part}
use Rattle.state_words.specs.Words.{pick}
use Rattle.state.specs.declared.Registers.{Registers}
use Rattle.event.specs.Progress.{Lent, doc_in}
use Rattle.reader.specs.Asked.{Asks}
use Rattle.reader_contract.specs.declared.fed.Fed.{Fed}
use Rattle.reader_contract.specs.Meaning.{over_in}
use Rattle.reader_contract.specs.Meets.{number_of}
use Rattle.streams.specs.declared.Got.{Got}
use Rattle.streams.specs.declared.Got.TheVariants as got
use Rattle.streams.specs.declared.Printed.{Printed}
use Rattle.convert.specs.declared.Place.{Place}
use Rattle.convert.specs.declared.Outcome.{Outcome}
use Rattle.convert.specs.declared.How.{How}
use Rattle.convert.specs.declared.How.TheVariants.{Done, Unwritten, Unread, Unstarted}
use Rattle.convert.specs.Way.{Spot, spot, beginning, start, Leads, Ended, Cut, Unfinished}
use Rattle.std.specs.Prelude.{Option, None, Some}
use Rattle.std.proofs.Common.{ControlFlow, Continue, Break}

-- ---- places

abbrev pub first_place : Registers → Place
first_place r = record { registers = r; count = 0; used = 0; event = 1; bytes = 0; from = 0; to = 0; last = false }

-- behind the events that were done, with n bytes of their lines taken; the sums fit a word
abbrev pub behind_of : Place → Fed → ℕ → Place
behind_of p f n =
    record {
      registers = f.registers;
      count = f.count;
      used = f.used;
      event = p.event + f.events;
      bytes = p.bytes + n;
      from = p.from + f.consumed;
      to = p.to;
      last = p.last;
    }

pub record Sums (p : Place) (f : Fed) (n : ℕ) : Type 0 where
  pub event : p.event + f.events < 18_446_744_073_709_551_616
  pub bytes : p.bytes + n < 18_446_744_073_709_551_616
  pub from : p.from + f.consumed < 18_446_744_073_709_551_616

-- with n bytes of the rest at the front, and m more
abbrev pub with_more : Place → ℕ → ℕ → Place
with_more p n m = record { registers = p.registers; count = p.count; used = p.used; event = p.event; bytes = p.bytes; from = 0; to = n + m; last = eqb m 0 }

-- here the program ends
abbrev pub over_at : Place → How → ControlFlow Outcome Place
over_at p how = Break (record { how = how; event = p.event; bytes = p.bytes })

-- behind a read: how many bytes it gave, and where the program goes on. One that failed is not the end of the input
abbrev pub amount : Got → ℕ
amount (got.Bytes n) = n
amount got.End = 0
amount got.Failed = 0

abbrev pub resumed_with : Place → ℕ → Got → ControlFlow Outcome Place
resumed_with p n (got.Bytes m) = Continue (with_more p n m)
resumed_with p n got.End = Continue (with_more p n 0)
resumed_with p n got.Failed = over_at p Unread

-- the bytes at hand, and how many they are
abbrev pub size_at : Place → ℕ
size_at p = p.to - p.from

abbrev pub rest_at : Place → List ℕ → Bytes
rest_at p input = part input p.from (size_at p)

-- where the program stands on its way
abbrev pub spot_at : Place → Lent → List ℕ → Spot
spot_at p l input = spot p.event p.bytes p.last (rest_at p input) (doc_in p.registers p.count l)

-- what a document that is over gets
abbrev pub finishing : Registers → Result Unit Refusal
finishing r = pick (over_in r) (Ok tt) (Err NotWellFormed)

-- ---- reading

-- n bytes were moved to the front
pub record Moves (b : List ℕ) (from to : ℕ) (b' : List ℕ) (n : ℕ) : Type 0 where
  pub size : n ≡ to - from
  pub room : length b' ≡ length b
  pub front : take n b' ≡ part b from n

-- the bytes at hand are there
pub record Within (p : Place) (input : List ℕ) : Type 0 where
  pub upto : p.from ≤ p.to
  pub within : p.to ≤ length input

-- and a block has room behind them
pub record Readable (p : Place) (input : List ℕ) : Type 0 where
  pub rest : Within p input
  pub block : size_at p + 65_536 ≤ length input

-- what a read gave, behind the rest
pub record Reads (p : Place) (input : List ℕ) (n : ControlFlow Outcome Place) (input' : List ℕ) : Type 0 where
  pub got : Got
  pub next : n ≡ resumed_with p (size_at p) got
  pub fits : size_at p + amount got ≤ length input
  pub room : length input' ≡ length input
  pub rest : take (size_at p) input' ≡ rest_at p input

-- ---- what follows where no further event was done

pub record Paused (p : Place) (refusal : Option Refusal) (input : List ℕ) : Type 0 where
  pub rest : Within p input
  pub block : refusal ≡ Some Incomplete → size_at p + 65_536 ≤ length input

pub data Follows (p : Place) (input : List ℕ) : Option Refusal → ControlFlow Outcome Place → List ℕ → Type 0 where
  -- the next events
  on : Follows p input None (Continue p) input
  -- more input
  more : {n : ControlFlow Outcome Place} {input' : List ℕ} → p.last ≡ false → Reads p input n input' → Follows p input (Some Incomplete) n input'
  -- the end: of the input, or by a refusal
  over : p.last ≡ true → Follows p input (Some Incomplete) (over_at p (Done (finishing p.registers))) input
  refused : {why : Refusal} → (why ≡ Incomplete → ⊥) → Follows p input (Some why) (over_at p (Done (Err why))) input

-- ---- what follows a print of the lines

-- the events that were done can be counted, with the bytes of their lines that were taken, and what follows is at hand
pub record Counted (p : Place) (f : Fed) (w : Printed) (input : List ℕ) : Type 0 where
  pub sums : Sums p f w.bytes
  pub paused : Paused (behind_of p f w.bytes) f.refusal input

-- a write that failed is the end; after one that took all the program goes on
pub record GoesOn (p : Place) (input : List ℕ) (f : Fed) (w : Printed) (n : ControlFlow Outcome Place) (input' : List ℕ) : Type 0 where
  pub room : length input' ≡ length input
  pub cut : w.whole ≡ false → n ≡ Break (record { how = Unwritten; event = p.event; bytes = p.bytes + w.bytes })
  pub on : w.whole ≡ true → Follows (behind_of p f w.bytes) input f.refusal n input'

-- ---- a turn

-- a document that begins on what is lent
pub record Ready (r : Registers) (l : Lent) (input : List ℕ) : Type 0 where
  pub asks : Asks r 0 0 l
  pub out : length l.out ≡ 131_072
  pub buffer : length input ≡ 131_072

-- where a turn can begin: on the way from a start, with all lines so far taken; the document is open, what is at hand lies in the input, and the
-- events and bytes can be counted
pub record Stands (p : Place) (l : Lent) (input : List ℕ) : Type 0 where
  pub origin : Doc
  pub way : Leads (beginning origin) (spot_at p l input)
  pub asks : Asks p.registers p.count p.used l
  pub rest : Within p input
  pub size : length input ≡ 131_072
  pub room : length l.out ≡ 131_072
  pub event : p.event < 9_223_372_036_854_775_808
  pub bytes : p.bytes < 9_223_372_036_854_775_808

-- the same lengths
pub record Lengths (l : Lent) (input : List ℕ) (l' : Lent) (input' : List ℕ) : Type 0 where
  pub frames : length l'.frames ≡ length l.frames
  pub bindings : length l'.bindings ≡ length l.bindings
  pub inners : length l'.inners ≡ length l.inners
  pub work : length l'.work ≡ length l.work
  pub ids : length l'.ids ≡ length l.ids
  pub out : length l'.out ≡ length l.out
  pub buffer : length input' ≡ length input

-- what the program comes to from somewhere: there it has started
abbrev pub ComesBy : Spot → How → ℕ → ℕ → Type 0
ComesBy s (Done a) k b = Ended s (number_of a) k b
ComesBy s Unwritten k b = Cut s k b
ComesBy s Unread k b = Unfinished s k b
ComesBy s (Unstarted why) k b = ⊥

abbrev pub Comes : Spot → Outcome → Type 0
Comes s o = ComesBy s o.how o.event o.bytes

-- what a document in this mode, with this start base, if there is one, comes to: its start is refused, or it goes
-- its way
abbrev pub Refuses : option.Option Bytes → Refusal → Type 0
Refuses base why = may_start true base ≡ refuse why

abbrev pub ConvertsBy : Mode → option.Option Bytes → How → ℕ → ℕ → Type 0
ConvertsBy mode base (Done a) k b = Ended (start mode base) (number_of a) k b
ConvertsBy mode base Unwritten k b = Cut (start mode base) k b
ConvertsBy mode base Unread k b = Unfinished (start mode base) k b
ConvertsBy mode base (Unstarted why) k b = Refuses base why

abbrev pub Converts : Mode → option.Option Bytes → Outcome → Type 0
Converts mode base o = ConvertsBy mode base o.how o.event o.bytes

-- the bytes of a last line can be counted behind its lines
abbrev pub Few : Outcome → Type 0
Few o = o.bytes < 9_223_372_036_854_775_808

-- a turn leads to a next place, behind no more events than the input has bytes and no more bytes than the output, or to the end
abbrev pub Cases : Place → Lent → List ℕ → ControlFlow Outcome Place → Lent → List ℕ → Type 0
Cases p l input (Continue p') l' input' =
    Asks p'.registers p'.count p'.used l'
    × Within p' input'
    × (p'.event ≤ p.event + 131_072)
    × (p'.bytes ≤ p.bytes + 131_072)
    × Leads (spot_at p l input) (spot_at p' l' input')
Cases p l input (Break o) l' input' = Comes (spot_at p l input) o × (o.bytes ≤ p.bytes + 131_072)

pub record Turns (p : Place) (l : Lent) (input : List ℕ) (n : ControlFlow Outcome Place) (l' : Lent) (input' : List ℕ) : Type 0 where
  pub lengths : Lengths l input l' input'
  pub cases : Cases p l input n l' input'
