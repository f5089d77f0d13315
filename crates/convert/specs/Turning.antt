-- How a turn leads on: the events that were done, and what follows.
use Rattle.std.specs.Prelude.{ℕ, ◌+◌, ◌-◌, ◌≤◌, ◌≡◌, refl, Bool, true, false, ◌&&◌, List, ◌++◌, eqb, take, drop, Result, Ok, Err}
use Rattle.std.proofs.Common.{sym, ap, ◌∙◌, true≢false, zero-add, arith, eqb-true, length-take-le, drop_at}
use Rattle.std.proofs.lemmas.Bool.{eqb-false}
use Rattle.std.proofs.Math.ListN.{length, length-drop}
use Rattle.spec.specs.Limits.{most_event_bytes, program_room}
use Rattle.spec.specs.Bytes.{is_empty, require◌or◌}
use Rattle.spec.specs.declared.Refusal.{Refusal}
use Rattle.spec.specs.declared.Refusal.TheVariants.{Incomplete, NotWellFormed}
use Rattle.spec.specs.RdfXml as rdfxml
use Rattle.spec.specs.Calls.{is_open, finished, call_finish}
use Rattle.spec.specs.Calls as calls
use Rattle.copy.specs.Copy.{part, length_part, part_add}
use Rattle.state_words.specs.Words.{pick}
use Rattle.state.specs.declared.Registers.{Registers}
use Rattle.event.specs.Progress.{Lent, doc_in}
use Rattle.reader.specs.Asked.{Asks}
use Rattle.reader_contract.specs.declared.fed.Fed.{Fed}
use Rattle.reader.specs.Goes.{Goes}
use Rattle.reader.specs.Waiting.{waits_short}
use Rattle.reader_contract.specs.declared.State.{State}
use Rattle.reader_contract.specs.Meaning.{doc_from, over_in, over_read}
use Rattle.reader_contract.specs.Meets.{number_of}
use Rattle.streams.specs.declared.Got.{Got}
use Rattle.streams.specs.declared.Got.TheVariants as got
use Rattle.streams.specs.declared.Printed.{Printed}
use Rattle.streams.specs.Answers.{Prints}
use Rattle.convert.specs.declared.Outcome.{Outcome}
use Rattle.convert.specs.declared.Place.{Place}
use Rattle.convert.specs.declared.How.TheVariants.{Done, Unwritten}
use Rattle.convert.specs.Way.{Leads, leads_here, leads_then, leads_end, leads_on, leads_read, ends-refused, ends_over}
use Rattle.convert.specs.Places.{behind_of, Sums, over_at, with_more, amount, resumed_with, size_at, rest_at, spot_at, finishing, Within, Reads, Paused, Follows, on, more, over, refused}
use Rattle.convert.specs.Places.{Counted, GoesOn, Stands, Cases, Turns}
use Rattle.std.specs.Prelude.{Option, None, Some}
use Rattle.std.proofs.Common.{ControlFlow, Continue, Break}

-- ---- the end of a document

module _ (r : Registers) where
  pub finish_done : over_in r ≡ true → Ok tt ≡ finishing r
  finish_done h = rw h

  pub finish_open : over_in r ≡ false → Err NotWellFormed ≡ finishing r
  finish_open h = rw h

-- what the definitions answer
finish-answer : (r : Registers) (count : ℕ) (l : Lent) → (call_finish (is_open (doc_in r count l))).answer ≡ number_of (finishing r)
unfolding call_finish finished rdfxml.finish calls.refused_in calls.refused require◌or◌ doc_from doc_in
finish-answer r count l = go (over_in r) (over_read s l.work l.ids)
  where
    s : State
    s = record { registers = r; frames = l.frames; bindings = l.bindings; inners = l.inners; ids = record { count = count; used = 0; at = l.places; len = l.sizes } }

    go : (b : Bool) → (is_empty (doc_in r count l).frames && (doc_in r count l).rooted) ≡ b → (call_finish (is_open (doc_in r count l))).answer ≡ number_of (pick b (Ok tt) (Err NotWellFormed))
    go true e = rw e
    go false e = rw e

-- ---- what follows, by the refusal

pub follow_on : {p : Place} {input : List ℕ} {refusal : Option Refusal} → refusal ≡ None → Follows p input refusal (Continue p) input
follow_on e = rw e on

pub waiting : {refusal : Option Refusal} {why : Refusal} → refusal ≡ Some why → why ≡ Incomplete → refusal ≡ Some Incomplete
waiting e h = e ∙ ap Some h

pub follow-refused : {p : Place} {input : List ℕ} {refusal : Option Refusal} {why : Refusal} {x : ControlFlow Outcome Place} → refusal ≡ Some why
    → (why ≡ Incomplete → ⊥) → x ≡ over_at p (Done (Err why)) → Follows p input refusal x input
follow-refused e h o = rw (o, e) (refused h)

pub follow_over : {p : Place} {input : List ℕ} {a : Result Unit Refusal} {x : ControlFlow Outcome Place} → p.last ≡ true → a ≡ finishing p.registers
    → x ≡ over_at p (Done a) → Follows p input (Some Incomplete) x input
follow_over l f o = rw (o, f) (over l)

pub follows-room : {p : Place} {input : List ℕ} {refusal : Option Refusal} {n : ControlFlow Outcome Place} {input' : List ℕ} → Follows p input refusal n input' → length input' ≡ length input
follows-room on = refl
follows-room (more l r) = r.room
follows-room (over l) = refl
follows-room (refused h) = refl

-- ---- what follows a print

module _ {p : Place} {f : Fed} {w : Printed} {input : List ℕ} {whole : Bool} {n : ℕ} (a : whole ≡ w.whole) (b : n ≡ w.bytes) where
  pub print-cut : whole ≡ false → GoesOn p input f w (Break (record { how = Unwritten; event = p.event; bytes = p.bytes + n })) input
  print-cut h = record { room = refl; cut = λ _. rw b; on = λ e. absurd (true≢false (sym e ∙ sym a ∙ h)) }

  pub print-whole : {p' : Place} {x : ControlFlow Outcome Place} {input' : List ℕ} → whole ≡ true → p' ≡ behind_of p f n → Follows p' input f.refusal x input' → GoesOn p input f w x input'
  print-whole h e k = record { room = follows-room k; cut = λ q. absurd (true≢false (sym h ∙ a ∙ q)); on = λ _. rw (e, b) at k }

-- ---- a turn

-- what is at hand behind a block that was read
whole-rest : (p : Place) (input input' : List ℕ) (got : ℕ) → take (size_at p) input' ≡ rest_at p input
    → rest_at (with_more p (size_at p) got) input' ≡ rest_at p input ++ part input' (size_at p) got
unfolding part
whole-rest p input input' got e =
    let z : size_at p + got - 0 ≡ size_at p + got = omega arith in
    rw z (part_add input' 0 (size_at p) got ∙ rw (e, zero-add))

module _ {p : Place} {l l' : Lent} {input : List ℕ} {f : Fed} (h : Stands p l input)
    (g : Goes p.last (take (size_at p) (drop p.from input)) p.registers p.count f l l') where
  within : f.consumed ≤ size_at p
  unfolding part
  within = omega (arith, g.went.within, length_part input p.from (size_at p) (omega (arith, h.rest.upto, h.rest.within)))

  pub turn-written : f.written ≤ length l'.out
  turn-written = omega (arith, g.went.wrote.up, g.went.wrote.room, g.went.room)

  pub turn-printed : f.written ≡ length (take f.written l'.out)
  turn-printed = sym (length-take-le f.written l'.out turn-written)

  written-few : f.written ≤ 131_072
  written-few = omega (arith, turn-written, g.went.room, h.room)

  turn_sums : {n : ℕ} → n ≤ f.written → Sums p f n
  turn_sums k =
      record {
        event = omega (arith, h.event, h.size, h.rest.within, g.went.fewer, within);
        bytes = omega (arith, h.bytes, written-few);
        from = omega (arith, h.size, h.rest.upto, h.rest.within, within);
      }

  -- the bytes that are left
  behind_rest : (n : ℕ) → rest_at (behind_of p f n) input ≡ drop f.consumed (rest_at p input)
  behind_rest n =
      let e : size_at p ≡ f.consumed + size_at (behind_of p f n) = omega (arith, within, h.rest.upto) in
      let size : length (part input p.from f.consumed) ≡ f.consumed = length_part input p.from f.consumed (omega (arith, within, h.rest.upto, h.rest.within)) in
      rw (e, part_add input p.from f.consumed (size_at (behind_of p f n)))
      (sym (drop_at (part input p.from f.consumed) (rest_at (behind_of p f n) input) f.consumed size))

  behind_within : (n : ℕ) → Within (behind_of p f n) input
  behind_within n = record { upto = omega (arith, within, h.rest.upto); within = h.rest.within }

  turn_paused : (n : ℕ) → Paused (behind_of p f n) f.refusal input
  unfolding part most_event_bytes
  turn_paused n =
      record {
        rest = behind_within n;
        block = λ q.
            let x : length (drop f.consumed (rest_at p input)) ≤ 32_768 = waits_short p.last (drop f.consumed (rest_at p input)) program_room (doc_in f.registers f.count l') (rw q at g.ends) in
            let k : length (rest_at p input) ≡ size_at p = length_part input p.from (size_at p) (omega (arith, h.rest.upto, h.rest.within)) in
            omega (arith, length-drop f.consumed (rest_at p input), h.size);
      }

  pub turn-counted : {w : Printed} → Prints (length (take f.written l'.out)) w → Counted p f w input
  turn-counted {w} t = record { sums = turn_sums (omega (arith, t.fewer, turn-printed)); paused = turn_paused w.bytes }

  -- with all lines taken
  behind_leads : Leads (spot_at p l input) (spot_at (behind_of p f f.written) l' input)
  unfolding part
  behind_leads = rw (behind_rest f.written) (leads_on p.event p.bytes turn-written g)

  behind_asks : Asks f.registers f.count f.used l'
  behind_asks = record { lawful = g.went.lawful; mark = g.went.mark }

  -- a block behind the rest is a piece read
  block_leads : (m : ℕ) {input' : List ℕ} → p.last ≡ false → size_at (behind_of p f f.written) + m ≤ length input'
      → take (size_at (behind_of p f f.written)) input' ≡ rest_at (behind_of p f f.written) input
      → Cases p l input (Continue (with_more (behind_of p f f.written) (size_at (behind_of p f f.written)) m)) l' input'
  block_leads m {input'} e fits front =
      let q : Place = behind_of p f f.written in
      let joined : rest_at (with_more q (size_at q) m) input' ≡ rest_at q input ++ part input' (size_at q) m = whole-rest q input input' m front in (
        behind_asks,
        record { upto = omega arith; within = fits },
        omega (arith, g.went.fewer, within, h.rest.within, h.size),
        omega (arith, written-few),
        leads_then behind_leads (rw joined (leads_read q.event q.bytes (eqb m 0) (rest_at q input) (part input' (size_at q) m) (doc_in f.registers f.count l') e)),
      )

  -- after a read the program goes on, or stops where it stands
  more_leads : {n : ControlFlow Outcome Place} {input' : List ℕ} → p.last ≡ false → Reads (behind_of p f f.written) input n input' → Cases p l input n l' input'
  more_leads {n} {input'} e r = rw r.next (go r.got r.fits)
    where
      q : Place
      q = behind_of p f f.written

      go : (x : Got) → size_at q + amount x ≤ length input → Cases p l input (resumed_with q (size_at q) x) l' input'
      go (got.Bytes m) k = block_leads m e (omega (arith, k, r.room)) r.rest
      go got.End k = block_leads 0 e (omega (arith, k, r.room)) r.rest
      go got.Failed k = (record { whole = spot_at q l' input; way = behind_leads; event = refl; bytes = refl }, omega (arith, written-few))

  turn_cases : (refusal : Option Refusal) → f.refusal ≡ refusal → {n : ControlFlow Outcome Place} {input' : List ℕ} → Follows (behind_of p f f.written) input refusal n input' → Cases p l input n l' input'
  unfolding part
  turn_cases refusal e on =
      (behind_asks, behind_within f.written, omega (arith, g.went.fewer, within, h.rest.within, h.size), omega (arith, written-few), behind_leads)
  turn_cases refusal e (more k r) = more_leads k r
  turn_cases refusal e (over k) = (
    leads_end behind_leads (rw (behind_rest f.written) (ends_over (p.event + f.events) (p.bytes + f.written) _ _ k (rw e at g.ends) (sym (finish-answer f.registers f.count l')))),
    omega (arith, written-few),
  )
  turn_cases refusal e (refused k) = (
    leads_end behind_leads (rw (behind_rest f.written) (ends-refused (p.event + f.events) (p.bytes + f.written) p.last _ _ (rw e at g.ends) k)),
    omega (arith, written-few),
  )

  -- a print that took all of the lines is behind them; one that took fewer is cut among them
  printed_cases : {w : Printed} {n : ControlFlow Outcome Place} {input' : List ℕ} → Prints f.written w → GoesOn p input f w n input' → Cases p l input n l' input'
  printed_cases {w} {n} {input'} t k = go w.whole refl
    where
      go : (b : Bool) → w.whole ≡ b → Cases p l input n l' input'
      go true e =
          let all : w.bytes ≡ f.written = eqb-true w.bytes f.written (sym t.whole ∙ e) in
          turn_cases f.refusal refl (rw all at (k.on e))
      go false e =
          let some : w.bytes ≡ f.written → ⊥ = eqb-false w.bytes f.written (sym t.whole ∙ e) in
          rw (k.cut e) (
            record {
              whole = spot_at p l input;
              next = spot_at (behind_of p f f.written) l' input;
              way = leads_here;
              lines = behind_leads;
              event = refl;
              least = omega arith;
              fewer = omega (arith, t.fewer, some);
            },
            omega (arith, t.fewer, written-few),
          )

  pub turns : {w : Printed} {n : ControlFlow Outcome Place} {input' : List ℕ} → Prints (length (take f.written l'.out)) w → GoesOn p input f w n input' → Turns p l input n l' input'
  turns t k =
      let w = g.went in
      record {
        lengths = record {
          frames = w.frame_words;
          bindings = w.binding_words;
          inners = w.inner_words;
          work = w.store;
          ids = w.id_store;
          out = w.room;
          buffer = k.room;
        };
        cases = printed_cases (rw (← turn-printed) at t) k;
      }
