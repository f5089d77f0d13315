-- The loop over the turns: the program is on its way from the start.
use Rattle.std.specs.Prelude.{ℕ, ◌+◌, ◌*◌, ◌≤◌, ◌<◌, ◌≡◌, refl, Bool, true, List, length, replicate}
use Rattle.std.proofs.Common.{◌∙◌, arith}
use Rattle.std.proofs.Math.Option.{Option, none}
use Rattle.std.proofs.lemmas.List.{length-replicate}
use Rattle.spec.specs.Limits.{work_store_bytes, id_store_bytes, most_ids}
use Rattle.spec.specs.Bytes.{Bytes, require◌or◌}
use Rattle.spec.specs.Numbers.{refuse}
use Rattle.spec.specs.declared.Refusal.{Refusal}
use Rattle.spec.specs.declared.Mode.{Mode}
use Rattle.spec.specs.Document.{Doc}
use Rattle.spec.specs.Calls.{may_start}
use Rattle.copy.specs.Copy.{part}
use Rattle.state_words.specs.Parts.{TABLE}
use Rattle.state_ids.specs.Ids.{end_to_end, ValidIds}
use Rattle.state.specs.declared.Registers.{Registers}
use Rattle.event.specs.Progress.{Lent, lent, doc_in}
use Rattle.reader.specs.Asked.{Asks}
use Rattle.reader.specs.Starting.{Opened, BeginsBy, Begins, opened_means, opened_valid}
use Rattle.reader_contract.specs.Meaning.{base_of}
use Rattle.reader_contract.specs.Meets.{lengths_right}
use Rattle.convert.specs.declared.Place.{Place}
use Rattle.convert.specs.declared.Outcome.{Outcome}
use Rattle.convert.specs.declared.How.{How}
use Rattle.convert.specs.declared.How.TheVariants.{Done, Unwritten, Unread, Unstarted}
use Rattle.convert.specs.Way.{Spot, beginning, start, Leads, leads_here, leads_then, leads_end, leads_cut, leads_unfinished}
use Rattle.convert.specs.Places.{first_place, spot_at, Within, Ready, Stands, Lengths, ComesBy, Comes, ConvertsBy, Converts, Few, Cases, Turns}
use Rattle.std.specs.Prelude.{Result, Ok, Err}
use Rattle.std.proofs.Common.{ControlFlow, Continue, Break}

-- on its way from a document d; so many turns bound the events and bytes so far
pub record Running (d : Doc) (p : Place) (turns : ℕ) (l : Lent) (input : List ℕ) : Type 0 where
  pub asks : Asks p.registers p.count p.used l
  pub rest : Within p input
  pub size : length input ≡ 131_072
  pub room : length l.out ≡ 131_072
  pub counted : p.event ≤ turns * 131_072 + 1
  pub measured : p.bytes ≤ turns * 131_072
  pub leads : Leads (beginning d) (spot_at p l input)

-- ---- lengths

pub lengths_here : {l : Lent} {input : List ℕ} → Lengths l input l input
lengths_here = record { frames = refl; bindings = refl; inners = refl; work = refl; ids = refl; out = refl; buffer = refl }

pub lengths_then : {l l' l'' : Lent} {input input' input'' : List ℕ} → Lengths l input l' input' → Lengths l' input' l'' input'' → Lengths l input l'' input''
lengths_then p q =
    record {
      frames = q.frames ∙ p.frames;
      bindings = q.bindings ∙ p.bindings;
      inners = q.inners ∙ p.inners;
      work = q.work ∙ p.work;
      ids = q.ids ∙ p.ids;
      out = q.out ∙ p.out;
      buffer = q.buffer ∙ p.buffer;
    }

-- ---- the first turn

pub running_begins : {r : Registers} {p : Place} {l : Lent} {input : List ℕ} → p ≡ first_place r → Ready r l input → Running (doc_in p.registers 0 l) p 0 l input
unfolding part
running_begins e m =
    rw e
    (record {
      asks = m.asks;
      rest = record { upto = omega arith; within = omega arith };
      size = m.buffer;
      room = m.out;
      counted = omega arith;
      measured = omega arith;
      leads = leads_here;
    })

-- ---- from turn to turn

leads_comes : {s t : Spot} (how : How) (k b : ℕ) → Leads s t → ComesBy t how k b → ComesBy s how k b
leads_comes (Done n) k b p q = leads_end p q
leads_comes Unwritten k b p q = leads_cut p q
leads_comes Unread k b p q = leads_unfinished p q
leads_comes (Unstarted n) k b p q = q

-- events are counted from 1
some_event : (d : Doc) (how : How) (k b : ℕ) → ComesBy (beginning d) how k b → 0 < k
some_event d (Done n) k b h = omega (arith, h.later)
some_event d Unwritten k b h = omega (arith, h.event, h.way.later)
some_event d Unread k b h = omega (arith, h.event, h.way.later)
some_event d (Unstarted n) k b h = absurd h

pub end_event : (d : Doc) (o : Outcome) → Comes (beginning d) o → 0 < o.event
end_event d o h = some_event d o.how o.event o.bytes h

module _ {d : Doc} {p : Place} {turns : ℕ} {l : Lent} {input : List ℕ} (r : Running d p turns l input) where
  pub running_stands : turns < 17_592_186_044_416 → Stands p l input
  running_stands h =
      record {
        origin = d;
        way = r.leads;
        asks = r.asks;
        rest = r.rest;
        size = r.size;
        room = r.room;
        event = omega (arith, r.counted);
        bytes = omega (arith, r.measured);
      }

  module _ {n : ControlFlow Outcome Place} {l' : Lent} {input' : List ℕ} (t : Turns p l input n l' input') where
    pub running_on : {p' : Place} → n ≡ Continue p' → Running d p' (turns + 1) l' input'
    running_on {p'} e =
        let x : Cases p l input (Continue p') l' input' = rw e at t.cases in
        record {
          asks = x.0;
          rest = x.1;
          size = t.lengths.buffer ∙ r.size;
          room = t.lengths.out ∙ r.room;
          counted = omega (arith, r.counted, x.2);
          measured = omega (arith, r.measured, x.3);
          leads = leads_then r.leads x.4;
        }

    -- what it comes to is the end of a way from the start
    pub running_ends : {o : Outcome} → turns < 17_592_186_044_416 → n ≡ Break o → Comes (beginning d) o × Few o
    running_ends {o} h e =
        let x : Cases p l input (Break o) l' input' = rw e at t.cases in
        (leads_comes o.how o.event o.bytes r.leads x.0, omega (arith, r.measured, x.1))

  -- where no turn is left, all lines so far are taken
  pub running_spent : turns ≤ 17_592_186_044_416 → Comes (beginning d) (record { how = Unread; event = p.event; bytes = p.bytes }) × Few (record { how = Unread; event = p.event; bytes = p.bytes })
  running_spent h = (record { whole = spot_at p l input; way = r.leads; event = refl; bytes = refl }, omega (arith, r.measured))

-- ---- a document

-- what a start left, on arrays of their own
first_ids : {at len store : List ℕ} → length at ≡ 512 → length len ≡ 512 → length store ≡ 32_768 → ValidIds 0 0 at len store
unfolding end_to_end id_store_bytes most_ids
first_ids p q s = record { places = p; sizes = q; whole = s; few = omega arith; within = omega arith; linked = refl }

abbrev pub own_with : List ℕ → Lent
own_with w = lent (replicate TABLE 0) (replicate 384 0) (replicate 192 0) w (replicate 512 0) (replicate 512 0) (replicate 32_768 0) (replicate 131_072 0)

module _ {mode : Mode} {based : Bool} {base : Bytes} {b : Result Registers Refusal} {r : Registers} {w : List ℕ}
    (h : Begins mode based base (replicate 65_536 0) (replicate 32_768 0) b w) (q : b ≡ Ok r) where
  opened : Opened mode based base (replicate 65_536 0) (replicate 32_768 0) r w
  opened = rw q at h.cases

  pub own_ready : Ready r (own_with w) (replicate 131_072 0)
  own_ready =
      record {
        asks = record {
          lawful = record {
            valid = opened_valid (own_with w) opened (length-replicate {A = ℕ} TABLE 0) (length-replicate {A = ℕ} 384 0) (length-replicate {A = ℕ} 192 0) (h.store ∙ length-replicate {A = ℕ} 65_536 0);
            table = first_ids (length-replicate {A = ℕ} 512 0) (length-replicate {A = ℕ} 512 0) (length-replicate {A = ℕ} 32_768 0);
          };
          mark = rw opened.registers;
        };
        out = length-replicate {A = ℕ} 131_072 0;
        buffer = length-replicate {A = ℕ} 131_072 0;
      }

  -- it went its way
  pub document_went : (o : Outcome) → Comes (beginning (doc_in r 0 (own_with w))) o → Converts mode (base_of based base) o
  document_went o c = comes_converts mode (base_of based base) o.how o.event o.bytes (rw (opened_means (own_with w) opened) at c)
    where
      comes_converts : (mode : Mode) (base : Option Bytes) (how : How) (k b : ℕ) → ComesBy (start mode base) how k b → ConvertsBy mode base how k b
      comes_converts mode base (Done n) k b h = h
      comes_converts mode base Unwritten k b h = h
      comes_converts mode base Unread k b h = h
      comes_converts mode base (Unstarted n) k b h = absurd h

-- its start was refused
pub document-refused : {mode : Mode} {based : Bool} {base : Bytes} {b : Result Registers Refusal} {w : List ℕ} {why : Refusal}
    → Begins mode based base (replicate 65_536 0) (replicate 32_768 0) b w → b ≡ Err why
    → Converts mode (base_of based base) (record { how = Unstarted why; event = 0; bytes = 0 })
unfolding work_store_bytes id_store_bytes
document-refused {mode} {based} {base} {w = w} {why = why} h q =
    let c : BeginsBy mode based base (replicate 65_536 0) (replicate 32_768 0) (Err why) w
    = rw q at h.cases in
    let same : lengths_right (replicate 65_536 0) (replicate 32_768 0) ≡ true = refl in
    rw same at c.0

-- without a base none is
none_refused : {A : Type 0} {why : Refusal} → may_start true none ≡ refuse why → A
unfolding may_start require◌or◌
none_refused h = let z : ◌≡◌ {A = ℕ} 0 1 = cc in absurd (omega arith)

pub without-base : (mode : Mode) (o : Outcome) → Converts mode none o → Comes (start mode none) o
without-base mode o h = go o.how o.event o.bytes h
  where
    go : (how : How) (k b : ℕ) → ConvertsBy mode none how k b → ComesBy (start mode none) how k b
    go (Done n) k b h = h
    go Unwritten k b h = h
    go Unread k b h = h
    go (Unstarted n) k b h = none_refused h
