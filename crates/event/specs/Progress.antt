-- What an event does to all that is kept of a document, the table of rdf:IDs too, beside what the definitions answer.
use Rattle.std.specs.Prelude.{ℕ, false, ◌≡◌, refl, List, length}
use Rattle.spec.specs.Numbers.{Answer, refuse, good}
use Rattle.spec.specs.declared.Refusal.{Refusal}
use Rattle.spec.specs.NTriples.{write}
use Rattle.spec.specs.Pyx.{Event}
use Rattle.spec.specs.Document.{Doc}
use Rattle.spec.specs.Opening.{Step}
use Rattle.copy.specs.Copy.{Wrote}
use Rattle.state_ids.specs.Ids.{ids_of, ValidIds}
use Rattle.state.specs.declared.Registers.{Registers}
use Rattle.state.specs.Meaning.{doc_of}
use Rattle.state.specs.Valid.{Valid}
use Rattle.event.specs.declared.Done.{Done}
use Rattle.event.specs.declared.Advance.{Advance}
use Rattle.event.specs.Result.{handled, Stopped, Doing, Answers, IdsFit, Handles}
use Rattle.std.specs.Prelude.{Result, Ok, Err}

-- the tables, the work store, the table of rdf:IDs and its store, and the output
pub record Lent : Type 0 where
  pub frames : List ℕ
  pub bindings : List ℕ
  pub inners : List ℕ
  pub work : List ℕ
  pub places : List ℕ
  pub sizes : List ℕ
  pub ids : List ℕ
  pub out : List ℕ

-- the document that registers and tables mean, with `count` rdf:IDs
unfoldable pub doc_in : Registers → ℕ → Lent → Doc
doc_in r count l = doc_of r l.frames l.bindings l.inners l.work (ids_of l.places l.sizes l.ids count)

-- ---- what is asked of the state of an open document

pub record Lawful (r : Registers) (count used : ℕ) (l : Lent) : Type 0 where
  pub valid : Valid r l.frames l.bindings l.inners l.work
  pub table : ValidIds count used l.places l.sizes l.ids

-- ---- what was done

-- done: the lines are written at the front of the output, and all is lawful and means the document behind the event
pub record Advanced (a : Answer Step) (d : Advance) (l l' : Lent) : Type 0 where
  pub step : Step
  pub answer : a ≡ good step
  pub wrote : Wrote l.out l'.out 0 d.written (write step.0)
  pub lawful : Lawful d.registers d.count d.used l'
  pub mark : d.registers.flags.closed ≡ false
  pub doc : doc_in d.registers d.count l' ≡ step.1

abbrev pub Cases : Answer Step → Result Advance Refusal → Lent → Lent → Type 0
Cases a (Err n) l l' = (a ≡ refuse n) × (l' ≡ l)
Cases a (Ok d) l l' = Advanced a d l l'

-- a: what the definitions answer
pub record Progresses (a : Answer Step) (o : Result Advance Refusal) (l l' : Lent) : Type 0 where
  pub frame_words : length l'.frames ≡ length l.frames
  pub binding_words : length l'.bindings ≡ length l.bindings
  pub inner_words : length l'.inners ≡ length l.inners
  pub store : length l'.work ≡ length l.work
  pub place_words : length l'.places ≡ length l.places
  pub size_words : length l'.sizes ≡ length l.sizes
  pub id_store : length l'.ids ≡ length l.ids
  pub room : length l'.out ≡ length l.out
  pub cases : Cases a o l l'

-- an event that was read, handled in a state with `count` rdf:IDs
abbrev pub HandlesAll : Event → Registers → ℕ → Result Advance Refusal → Lent → Lent → Type 0
HandlesAll e r count o l l' = Progresses (handled e (length l.out) (doc_in r count l)) o l l'

-- the lists of a call
abbrev pub lent : (fs bs is w ia il st out : List ℕ) → Lent
lent fs bs is w ia il st out = record { frames = fs; bindings = bs; inners = is; work = w; places = ia; sizes = il; ids = st; out = out }

pub stopped : {a : Answer Step} {n : Refusal} {l : Lent} → a ≡ refuse n → Progresses a (Err n) l l
stopped e =
    record {
      frame_words = refl;
      binding_words = refl;
      inner_words = refl;
      store = refl;
      place_words = refl;
      size_words = refl;
      id_store = refl;
      room = refl;
      cases = (e, refl);
    }

-- ---- an event that enters no rdf:ID leaves their table alone

lists : {fs gs bs cs is js w v out uut : List ℕ} (ia il st : List ℕ) → gs ≡ fs → cs ≡ bs → js ≡ is → v ≡ w → uut ≡ out
    → lent gs cs js v ia il st uut ≡ lent fs bs is w ia il st out
lists ia il st p q s t u = rw (p, q, s, t, u)

module _ {e : Event} {r : Registers} (count : ℕ) {fs bs is w out fs' bs' is' w' out' : List ℕ} (ia il st : List ℕ) (fit : IdsFit (ids_of ia il st count)) where
  pub without_stop : {o : Result Done Refusal} {n : Refusal} → Handles e r o fs bs is w out fs' bs' is' w' out' → o ≡ Err n
      → HandlesAll e r count (Err n) (lent fs bs is w ia il st out) (lent fs' bs' is' w' ia il st out')
  unfolding doc_in
  without_stop {o} {n} h q =
      let x : Answers (handled e (length out) (doc_of r fs bs is w (ids_of ia il st count))) (ids_of ia il st count) o fs bs is w out fs' bs' is' w' out' = h.result (ids_of ia il st count) fit in
      let y : Stopped (handled e (length out) (doc_of r fs bs is w (ids_of ia il st count))) n fs bs is w out fs' bs' is' w' out' = rw q at x.cases in
      record {
        frame_words = x.frame_words;
        binding_words = x.binding_words;
        inner_words = x.inner_words;
        store = x.store;
        place_words = refl;
        size_words = refl;
        id_store = refl;
        room = x.room;
        cases = (y.answer, lists ia il st y.frames y.bindings y.inners y.work y.written);
      }

  pub without_did : {o : Result Done Refusal} {d : Done} {used : ℕ} → Handles e r o fs bs is w out fs' bs' is' w' out' → o ≡ Ok d → ValidIds count used ia il st
      → HandlesAll e r count (Ok (record { written = d.written; registers = d.registers; count = count; used = used })) (lent fs bs is w ia il st out) (lent fs' bs' is' w' ia il st out')
  unfolding doc_in
  without_did {o} {d} {used} h q v =
      let x : Answers (handled e (length out) (doc_of r fs bs is w (ids_of ia il st count))) (ids_of ia il st count) o fs bs is w out fs' bs' is' w' out' = h.result (ids_of ia il st count) fit in
      let y : Doing (handled e (length out) (doc_of r fs bs is w (ids_of ia il st count))) d (ids_of ia il st count) out fs' bs' is' w' out' = rw q at x.cases in
      record {
        frame_words = x.frame_words;
        binding_words = x.binding_words;
        inner_words = x.inner_words;
        store = x.store;
        place_words = refl;
        size_words = refl;
        id_store = refl;
        room = x.room;
        cases = record {
          step = y.step;
          answer = y.answer;
          wrote = y.wrote;
          lawful = record { valid = y.means.valid; table = v };
          mark = y.means.mark;
          doc = y.means.doc;
        };
      }
