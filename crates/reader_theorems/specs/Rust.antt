-- Demand 2, the Rust, of documents that are run through the calls in the base mode: what they write is the N-Triples
-- text of exactly the Rust's triples, in its order, and what they refuse in the domain the Rust refuses. No event of them
-- has an empty xml:lang outside Literal content: the Rust refuses it.
use Rattle.std.specs.Prelude.{ℕ, ◌≡◌, refl, ◌⊎◌, Bool, true, false, List, [], ◌∷◌, ◌++◌, leb, length}
use Rattle.std.proofs.Math.Path.{sym, ap}
use Rattle.std.proofs.Common.{◌∙◌, subst, inl, inr, true≢false}
use Rattle.std.proofs.Math.Option.{Option}
use Rattle.spec.specs.Bytes.{Bytes, ◌>>=◌, ◌>>◌, require◌or◌}
use Rattle.spec.specs.Numbers.{number, Answer, refuse, good}
use Rattle.spec.specs.declared.Refusal.{Refusal}
use Rattle.spec.specs.declared.Refusal.TheVariants.{NoRoom, Closed}
use Rattle.spec.specs.Pyx.{Event, read_event}
use Rattle.spec.specs.PyxCut.{Cut, wait, unended, too_long, whole, cut}
use Rattle.spec.specs.NTriples.{Triple, write}
use Rattle.spec.specs.Modes.{base_mode}
use Rattle.spec.specs.Document.{Doc, fresh}
use Rattle.spec.specs.Nesting.{Nested}
use Rattle.spec.specs.Opening.{Step}
use Rattle.spec.specs.RdfXml.{next, finish}
use Rattle.spec.specs.Calls.{is_open, is_closed, refused, refused_in, first_event, Accepted, accept, call_step, call_finish, finished}
use Rattle.spec.specs.Calls as calls
use Rattle.spec.specs.Lists.{After, here, event}
use Rattle.theorems.specs.Calls.{number_injective, number_positive}
use Rattle.theorems.specs.Nesting.{always_mode, nested_in}
use Rattle.rio.specs.Parser.{Result, Err, Ok, Emits, RdfXmlReader, new, parse_step, parse_all}
use Rattle.rio.specs.Parser as P
use Rattle.rio.specs.Domain.{InDomain}
use Rattle.rio.specs.Related.{Related, Both, Same}
use Rattle.rio.proofs.SameAsRust.{NeverCleared, event_same, accepted-same, begins_related, at_end, parse_more, parse_fails}
use Rattle.reader_contract.specs.declared.State.{State}
use Rattle.reader_contract.specs.declared.Report.{Report}
use Rattle.reader_contract.specs.Meaning.{base_of, meaning_of}
use Rattle.reader_contract.specs.Meets.{number_of, Steps, Finishes}
use Rattle.reader_theorems.specs.Runs.{Ran}
use Rattle.reader_theorems.specs.Events.{first_of, run_events, events_of}
use Rattle.reader_theorems.specs.Whole.{run-lines}
use Rattle.std.specs.Prelude.{Ok as Done, Err as Refused}

-- ---- of the definitions

-- the Rust on the events of a document: it accepts them, with these triples, and stands for the document behind
pub record OnRust (b : Option Bytes) (d : Doc) (ts : List Triple) (es : List Event) : Type 0 where
  pub reader : RdfXmlReader
  pub accepts : parse_all es (new b) ≡ (ts, Ok reader)
  pub related : Related d reader

on_rust : (b : Option Bytes) {d : Doc} {ts : List Triple} (a : After (fresh base_mode b) d ts) → NeverCleared a
    → OnRust b d ts (events_of a)
unfolding events_of parse_all
on_rust b here k = record { reader = new b; accepts = refl; related = begins_related b }
on_rust b (event {d = d} {ts = ts} before e d' us q) k =
    let h : OnRust b d ts (events_of before) = on_rust b before k.0 in
    let base : d.mode ≡ base_mode = always_mode base_mode b d ts before in
    let g = accepted-same e d d' h.reader us base (nested_in base_mode b d ts before) h.related k.1 q in
    record {
      reader = g.0;
      accepts =
          parse_more e h.reader (events_of before) (new b) g.0 us (ap (λ x. x.1) h.accepts) g.1
          ∙ ap (λ x. (x.0 ++ us, Ok g.0)) h.accepts;
      related = g.2;
    }

abbrev accepted : ℕ → Step → Accepted
accepted size u = record { size = size; lines = write u.0; behind = u.1 }

-- a step refuses its event, but for the room, as `next` does
next_refuses : (last : Bool) (s : Bytes) (room : ℕ) (d : Doc) (e : Event) (n : Refusal) → first_of last s ≡ good e
    → (call_step last s room (is_open d)).answer ≡ number n → (n ≡ NoRoom → ⊥) → next e d ≡ refuse n
unfolding first_of call_step first_event accept calls.stepped refused_in refused ◌>>=◌ ◌>>◌ require◌or◌
next_refuses last s room d e n f q roomy = on-cut (cut last s) f q
  where
    no_event : {r : Refusal} → refuse r ≡ good e → ⊥
    no_event h = let z : true ≡ false = cc in true≢false z

    fits : Step → Bool
    fits u = leb (length (write u.0)) room

    on_room : (size : ℕ) (u : Step) (b : Bool)
        → (calls.stepped d ((require b or NoRoom) >> good (accepted size u))).answer ≡ number n
        → next e d ≡ refuse n
    on_room size u true q = absurd (number_positive n (sym q))
    on_room size u false q = absurd (roomy (sym (number_injective NoRoom n q)))

    on-next : (size : ℕ) (m : Answer Step) → next e d ≡ m
        → (calls.stepped d (m >>= λ u. (require fits u or NoRoom) >> good (accepted size u))).answer ≡ number n
        → next e d ≡ refuse n
    on-next size (refuse x) p q = p ∙ ap refuse (number_injective x n q)
    on-next size (good u) p q = on_room size u (fits u) q

    on-cut : (c : Cut) → (first_event c >>= read_event) ≡ good e
        → (calls.stepped d (first_event c >>= λ bytes. accept bytes room d)).answer ≡ number n → next e d ≡ refuse n
    on-cut too_long f q = absurd (no_event f)
    on-cut wait f q = absurd (no_event f)
    on-cut unended f q = absurd (no_event f)
    on-cut (whole bytes) f q = on-next (length bytes) (next e d) refl (rw f at q)

-- an event in the domain that is refused
rust_refuses : (e : Event) (d : Doc) (n : Refusal) (r : RdfXmlReader) → next e d ≡ refuse n
    → Both Same (next e d) (parse_step e r)
    → parse_step e r ≡ Err
rust_refuses e d n r q h = go (parse_step e r) refl (subst (λ (x : Answer Step). Both Same x (parse_step e r)) q h)
  where
    go : (x : Result (Emits RdfXmlReader)) → parse_step e r ≡ x → Both Same (refuse n) x → parse_step e r ≡ Err
    go Err p h = p
    go (Ok y) p h = absurd h

-- finish accepts an open document that has had its root and has no element open
finish-accepts : (t : calls.State) (d : Doc) → (t ≡ is_open d) ⊎ (t ≡ is_closed d) → (call_finish t).answer ≡ 0
    → finish d ≡ good tt
unfolding call_finish finished refused_in refused
finish-accepts t d (inl e) h = go (finish d) (rw e at h)
  where
    go : (a : Answer (Unit {0})) → (finished d a).answer ≡ 0 → a ≡ good tt
    go (refuse n) h = absurd (number_positive n h)
    go (good tt) h = refl
finish-accepts t d (inr e) h = absurd (number_positive Closed (rw e at h))

-- ---- of the calls

module _ {based : Bool} {base : Bytes} {s : State} {w i : List ℕ} {o : Bytes}
    (h : Ran base_mode based base s w i o) (c : NeverCleared (run-lines h).after) where
  -- the Rust on the events that the calls took
  rust : OnRust (base_of based base) (run-lines h).doc (run-lines h).lines (run_events h)
  rust =
      subst (λ (es : List Event). OnRust (base_of based base) (run-lines h).doc (run-lines h).lines es)
      (run-lines h).events (on_rust (base_of based base) (run-lines h).after c)

  -- The Rust accepts the events that the calls of a document took; what they wrote is the text of exactly its
  -- triples, in its order.
  pub run-same : (ts : List Triple) × (r : RdfXmlReader)
      × (parse_all (run_events h) (new (base_of based base)) ≡ (ts, Ok r)) × (o ≡ write ts)
  run-same = ((run-lines h).lines, rust.reader, rust.accepts, (run-lines h).bytes)

  -- And where finish accepts the document, the Rust is where it began: no element is open.
  pub run-whole-same : {r : Report} → Finishes s w i r → r.answer ≡ Done tt
      → (ts : List Triple) × (r' : RdfXmlReader)
      × (parse_all (run_events h) (new (base_of based base)) ≡ (ts, Ok r')) × (o ≡ write ts)
      × (r'.state ≡ P.Doc (base_of based base) ∷ [])
  run-whole-same x q =
      let l = run-lines h in
      let f : finish l.doc ≡ good tt
      = finish-accepts _ l.doc l.means (sym x.meets.answer ∙ ap number_of q) in
      let e = at_end (base_of based base) l.doc rust.reader l.after f rust.related in
      (l.lines, rust.reader, rust.accepts, l.bytes, e)

  -- A step that refuses an event of the domain, neither for the room (2) nor because the document is closed (4): the
  -- Rust has given the same triples before it, and refuses it too.
  pub run-refused-same : {last : Bool} {input : Bytes} {out : List ℕ} {r : Report} {w' i' out' : List ℕ}
      (e : Event) (n : Refusal)
      → Steps last input s w i out r w' i' out' → first_of last input ≡ good e → r.answer ≡ Refused n
      → (n ≡ NoRoom → ⊥) → (n ≡ Closed → ⊥) → InDomain e (run-lines h).doc
      → (ts : List Triple)
      × (parse_all (run_events h ++ (e ∷ [])) (new (base_of based base)) ≡ (ts, Err)) × (o ≡ write ts)
  unfolding call_step refused_in refused
  run-refused-same {last} {input} {out} e n x f q roomy going k = ((run-lines h).lines, fails, (run-lines h).bytes)
    where
      answer : (call_step last input (length out) (meaning_of s w i)).answer ≡ number n
      answer = sym x.meets.answer ∙ ap number_of q

      refuses : (meaning_of s w i ≡ is_open (run-lines h).doc) ⊎ (meaning_of s w i ≡ is_closed (run-lines h).doc)
          → next e (run-lines h).doc ≡ refuse n
      refuses (inl is) = next_refuses last input (length out) (run-lines h).doc e n f (rw is at answer) roomy
      refuses (inr is) = absurd (going (sym (number_injective Closed n (rw is at answer))))

      base_mode_lem : (run-lines h).doc.mode ≡ base_mode
      base_mode_lem = always_mode base_mode (base_of based base) (run-lines h).doc (run-lines h).lines (run-lines h).after

      nested : Nested base_mode (run-lines h).doc.frames
      nested = nested_in base_mode (base_of based base) (run-lines h).doc (run-lines h).lines (run-lines h).after

      fails : parse_all (run_events h ++ (e ∷ [])) (new (base_of based base)) ≡ ((run-lines h).lines, Err)
      fails =
          parse_fails e rust.reader (run_events h) (new (base_of based base)) (ap (λ x. x.1) rust.accepts)
          (rust_refuses e (run-lines h).doc n rust.reader (refuses (run-lines h).means)
          (event_same e (run-lines h).doc rust.reader base_mode_lem nested rust.related k))
          ∙ ap (λ x. (x.0, Err)) rust.accepts
