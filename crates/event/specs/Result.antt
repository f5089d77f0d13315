-- What the handler of an event does to a state whose tables are lent, beside what the definitions answer.
use Rattle.std.specs.Prelude.{ℕ, ◌≤◌, ◌≡◌, Bool, true, false, List, leb, length}
use Rattle.std.proofs.Math.Path.{refl}
use Rattle.std.proofs.Common.{sym, ◌∙◌, le-leb}
use Rattle.spec.specs.Bytes.{Bytes, total, ◌>>=◌, ◌>>◌, require◌or◌}
use Rattle.spec.specs.Numbers.{Answer, refuse, good}
use Rattle.spec.specs.declared.Refusal.{Refusal}
use Rattle.spec.specs.declared.Refusal.TheVariants.{NoRoom, OverLimit}
use Rattle.spec.specs.Limits as L
use Rattle.spec.specs.Limits.{most_ids, most_id_bytes, most_held_bytes}
use Rattle.spec.specs.NTriples.{write}
use Rattle.spec.specs.Pyx.{Event, read_event}
use Rattle.spec.specs.Document.{Doc, held_bytes, fits}
use Rattle.spec.specs.Opening.{Step}
use Rattle.spec.specs.RdfXml.{on_event, within, next}
use Rattle.spec.specs.Calls.{Accepted, accept}
use Rattle.copy.specs.Copy.{Wrote}
use Rattle.state.specs.declared.Registers.{Registers}
use Rattle.state.specs.Meaning.{doc_of}
use Rattle.state.specs.Valid.{Valid}
use Rattle.event.specs.declared.Done.{Done}
use Rattle.std.specs.Prelude.{Result, Ok, Err}

-- ---- what the definitions answer

-- 2: the lines of a step have no room
unfoldable pub roomed : ℕ → Step → Answer Step
roomed room s = (require leb (length (write s.0)) room or NoRoom) >> good s

-- an event that was read: refusals 6 to 18, and then 2
unfoldable pub handled : Event → ℕ → Doc → Answer Step
handled e room d = next e d >>= roomed room

-- the same behind the event's own rules: the limits on what is kept, and then 2
unfoldable pub concluded : ℕ → Answer Step → Answer Step
concluded room a = (a >>= within) >>= roomed room

pub handled_by : (e : Event) (room : ℕ) (d : Doc) {a : Answer Step} → on_event e d ≡ a → handled e room d ≡ concluded room a
unfolding handled concluded next
handled_by e room d p = rw p

module _ (room : ℕ) where
  pub refused_on : (n : Refusal) → concluded room (refuse n) ≡ refuse n
  unfolding concluded ◌>>=◌
  refused_on n = refl

  pub over_limit : (s : Step) → fits s.1 ≡ false → concluded room (good s) ≡ refuse OverLimit
  unfolding concluded within ◌>>=◌ ◌>>◌ require◌or◌
  over_limit s h = rw h

  pub no_room : (s : Step) → fits s.1 ≡ true → leb (length (write s.0)) room ≡ false → concluded room (good s) ≡ refuse NoRoom
  unfolding concluded within roomed ◌>>=◌ ◌>>◌ require◌or◌
  no_room s h q = rw (h, q)

  pub all_fits : (s : Step) → fits s.1 ≡ true → leb (length (write s.0)) room ≡ true → concluded room (good s) ≡ good s
  unfolding concluded within roomed ◌>>=◌ ◌>>◌ require◌or◌
  all_fits s h q = rw (h, q)

-- what a call accepts, once its event is read
unfoldable pub accepted_as : ℕ → Step → Answer Accepted
accepted_as n s = good (record { size = n; lines = write s.0; behind = s.1 })

bound : {A B C : Type 0} (x : Answer A) (f : A → Answer B) (g : B → Answer C) → ((x >>= f) >>= g) ≡ (x >>= λ y. f y >>= g)
unfolding ◌>>=◌
bound (refuse n) f g = refl
bound (good y) f g = refl

room_then : (s : Step) (n room : ℕ) → (roomed room s >>= accepted_as n) ≡ ((require leb (length (write s.0)) room or NoRoom) >> accepted_as n s)
unfolding roomed ◌>>=◌ ◌>>◌ require◌or◌
room_then s n room = go (leb (length (write s.0)) room)
  where
    go : (t : Bool) → (((require t or NoRoom) >> good s) >>= accepted_as n) ≡ ((require t or NoRoom) >> accepted_as n s)
    go true = refl
    go false = refl

step_then : (a : Answer Step) (n room : ℕ) → ((a >>= roomed room) >>= accepted_as n) ≡ (a >>= λ s. (require leb (length (write s.0)) room or NoRoom) >> accepted_as n s)
unfolding ◌>>=◌
step_then (refuse x) n room = refl
step_then (good s) n room = room_then s n room

pub accept-handled : (bytes : Bytes) (room : ℕ) (d : Doc) {e : Event} → read_event bytes ≡ good e → (handled e room d >>= accepted_as (length bytes)) ≡ accept bytes room d
unfolding accept handled accepted_as ◌>>=◌
accept-handled bytes room d {e} q = rw q (step_then (next e d) (length bytes) room)

-- the bytes of an event: 5, and then as above
unfoldable pub parsed : Bytes → ℕ → Doc → Answer Step
parsed bytes room d = read_event bytes >>= λ e. handled e room d

pub accept-parsed : (bytes : Bytes) (room : ℕ) (d : Doc) → (parsed bytes room d >>= accepted_as (length bytes)) ≡ accept bytes room d
unfolding parsed accept handled accepted_as ◌>>=◌
accept-parsed bytes room d = go (read_event bytes)
  where
    go : (a : Answer Event) → ((a >>= λ e. handled e room d) >>= accepted_as (length bytes))
        ≡ (a >>= λ e. next e d >>= λ s. (require leb (length (write s.0)) room or NoRoom) >> accepted_as (length bytes) s)
    go (refuse n) = refl
    go (good e) = step_then (next e d) (length bytes) room

-- ---- the limits on what is kept

-- the rdf:IDs are within their limits
pub record IdsFit (ids : List Bytes) : Type 0 where
  pub few : length ids ≤ 512
  pub small : total length ids ≤ 32_768

-- then held bytes decide
pub fits-held : (d : Doc) → IdsFit d.ids → fits d ≡ leb (held_bytes d) most_held_bytes
unfolding fits L.all
fits-held d i = rw (le-leb (length d.ids) 512 i.few, le-leb (total length d.ids) 32_768 i.small)

-- ---- what a handler did

-- a valid state of an open document, and what it means
pub record Means (r : Registers) (fs bs is w : List ℕ) (ids : List Bytes) (d : Doc) : Type 0 where
  pub valid : Valid r fs bs is w
  pub mark : r.flags.closed ≡ false
  pub doc : doc_of r fs bs is w ids ≡ d

-- refused: nothing that was lent has changed
pub record Stopped (a : Answer Step) (n : Refusal) (fs bs is w out fs' bs' is' w' out' : List ℕ) : Type 0 where
  pub answer : a ≡ refuse n
  pub frames : fs' ≡ fs
  pub bindings : bs' ≡ bs
  pub inners : is' ≡ is
  pub work : w' ≡ w
  pub written : out' ≡ out

-- done: the lines are written at the front of the output, and the state means the document behind the event
pub record Doing (a : Answer Step) (d : Done) (ids : List Bytes) (out fs' bs' is' w' out' : List ℕ) : Type 0 where
  pub step : Step
  pub answer : a ≡ good step
  pub wrote : Wrote out out' 0 d.written (write step.0)
  pub means : Means d.registers fs' bs' is' w' ids step.1

abbrev pub Cases : Answer Step → List Bytes → Result Done Refusal → List ℕ → List ℕ → List ℕ → List ℕ → List ℕ → List ℕ → List ℕ → List ℕ → List ℕ → List ℕ → Type 0
Cases a ids (Err n) fs bs is w out fs' bs' is' w' out' = Stopped a n fs bs is w out fs' bs' is' w' out'
Cases a ids (Ok d) fs bs is w out fs' bs' is' w' out' = Doing a d ids out fs' bs' is' w' out'

-- a: what the definitions answer; ids: the rdf:IDs behind the event
pub record Answers (a : Answer Step) (ids : List Bytes) (o : Result Done Refusal) (fs bs is w out fs' bs' is' w' out' : List ℕ) : Type 0 where
  pub frame_words : length fs' ≡ length fs
  pub binding_words : length bs' ≡ length bs
  pub inner_words : length is' ≡ length is
  pub store : length w' ≡ length w
  pub room : length out' ≡ length out
  pub cases : Cases a ids o fs bs is w out fs' bs' is' w' out'

pub stopped : {a : Answer Step} {ids : List Bytes} {n : Refusal} {fs bs is w out : List ℕ} → a ≡ refuse n → Answers a ids (Err n) fs bs is w out fs bs is w out
stopped e =
    record {
      frame_words = refl;
      binding_words = refl;
      inner_words = refl;
      store = refl;
      room = refl;
      cases = record { answer = e; frames = refl; bindings = refl; inners = refl; work = refl; written = refl };
    }

-- a valid state's tables and store have their lengths
pub done : {a : Answer Step} {ids : List Bytes} {d : Done} {r : Registers} {fs bs is w out fs' bs' is' w' out' : List ℕ}
    → Valid r fs bs is w → length out' ≡ length out → Doing a d ids out fs' bs' is' w' out' → Answers a ids (Ok d) fs bs is w out fs' bs' is' w' out'
done v l h =
    let x = h.means.valid in
    record {
      frame_words = x.frame_words ∙ sym v.frame_words;
      binding_words = x.binding_words ∙ sym v.binding_words;
      inner_words = x.inner_words ∙ sym v.inner_words;
      store = x.store ∙ sym v.store;
      room = l;
      cases = h;
    }

-- the same answer, said otherwise
pub result_as : {a b : Answer Step} {ids : List Bytes} {o : Result Done Refusal} {fs bs is w out fs' bs' is' w' out' : List ℕ}
    → Answers a ids o fs bs is w out fs' bs' is' w' out' → a ≡ b → Answers b ids o fs bs is w out fs' bs' is' w' out'
result_as r e = rw (← e) r

-- ---- an event that enters no rdf:ID, handled in a state of an open document

-- whatever the rdf:IDs so far
pub record Handles (e : Event) (r : Registers) (o : Result Done Refusal) (fs bs is w out fs' bs' is' w' out' : List ℕ) : Type 0 where
  pub result : (ids : List Bytes) → IdsFit ids → Answers (handled e (length out) (doc_of r fs bs is w ids)) ids o fs bs is w out fs' bs' is' w' out'

-- what a handler asks of the state
pub record Asks (r : Registers) (fs bs is w : List ℕ) : Type 0 where
  pub valid : Valid r fs bs is w
  pub mark : r.flags.closed ≡ false
