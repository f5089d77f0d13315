-- From calls to events: what a call reports, by document 01's table, and that the bytes that a document's steps wrote are the lines
-- of its accepted events.
use Rattle.std.specs.Prelude.{◌≡◌, refl, ◌⊎◌, Bool, true, false, ℕ, ◌-◌, ◌≤◌, leb, length, get_or, take}
use Rattle.std.proofs.Common.{sym, ◌∙◌, ap, inl, inr, arith, length-append}
use Rattle.std.proofs.Math.Option.{Option}
use mathlib.Core.List.{List, [], ◌∷◌, ◌++◌, append_assoc, append-nil}
use Rattle.std.proofs.Math.Seq.{take-append_seam}
use Rattle.spec.specs.Bytes.{Bytes, ◌>>=◌, ◌>>◌, require◌or◌}
use Rattle.spec.specs.Numbers.{number, Effect, stays_open, unchanged, becomes_closed, effect, closes, Answer, refuse, good}
use Rattle.spec.specs.declared.Refusal.{Refusal}
use Rattle.spec.specs.declared.Refusal.TheVariants.{Incomplete, NoRoom, BadState, Closed, NotPyx, NotWellFormed, OverLimit, NoNamespace, NotNcName, BadLanguage, BadIri, RepeatedId, BadLabel, Reserved, TwoNames, StrayText, EmptyLiteral, LabelsSpent, ProfileBroken}
use Rattle.spec.specs.Limits.{most_event_bytes}
use Rattle.spec.specs.Pyx.{Event, read_event}
use Rattle.spec.specs.PyxCut.{Cut, wait, unended, too_long, whole, cut}
use Rattle.spec.specs.NTriples.{Triple, write, line}
use Rattle.spec.specs.declared.Mode.{Mode}
use Rattle.spec.specs.Document.{Doc, fresh}
use Rattle.spec.specs.RdfXml.{next, finish}
use Rattle.spec.specs.Lists.{After, here, event}
use Rattle.spec.specs.Calls.{State, is_open, is_closed, unlawful, Report, mark_closed, marked_by, refused, refused_in, may_start, started, call_start, first_event, Accepted, accept, stepped, call_step, finished, call_finish}
use Rattle.theorems.specs.Always.{Always, always_any, always_require}
use Rattle.theorems.specs.PyxCut.{cut-final, Front, cut_front}

-- ---- a step on an open document

-- the bytes of the event at the front of some input
abbrev pub AtFront : Bytes → Type 0
AtFront bytes = (last : Bool) × (s : Bytes) × (cut last s ≡ whole bytes)

-- an event done, or a refusal by the table
pub data Reported (d : Doc) : Report → Type 0 where
  did : (bytes : Bytes) (e : Event) (us : List Triple) (d' : Doc) → AtFront bytes → read_event bytes ≡ good e → next e d ≡ good (us, d')
      → Reported d (record { answer = 0; consumed = length bytes; output = write us; behind = is_open d' })
  gave : (r : Refusal) → Reported d (refused_in (is_open d) r)

accept_reported : (bytes : Bytes) (room : ℕ) (d : Doc) → AtFront bytes → Reported d (stepped d (accept bytes room d))
unfolding accept stepped ◌>>=◌ ◌>>◌ require◌or◌
accept_reported bytes room d c = on_read (read_event bytes) refl
  where
    on_room : (e : Event) (s : List Triple × Doc) → read_event bytes ≡ good e → next e d ≡ good s → (b : Bool)
        → Reported d (stepped d ((require b or NoRoom) >> good (record { size = length bytes; lines = write s.0; behind = s.1 })))
    on_room e s p q true = did bytes e s.0 s.1 c p q
    on_room e s p q false = gave NoRoom

    on-next : (e : Event) (a : Answer (List Triple × Doc)) → read_event bytes ≡ good e → next e d ≡ a
        → Reported d (stepped d (a >>= λ s. (require leb (length (write s.0)) room or NoRoom) >> good (record { size = length bytes; lines = write s.0; behind = s.1 })))
    on-next e (refuse r) p q = gave r
    on-next e (good s) p q = on_room e s p q (leb (length (write s.0)) room)

    on_read : (a : Answer Event) → read_event bytes ≡ a
        → Reported d (stepped d (a >>= λ e. next e d >>= λ s. (require leb (length (write s.0)) room or NoRoom) >> good (record { size = length bytes; lines = write s.0; behind = s.1 })))
    on_read (refuse r) p = gave r
    on_read (good e) p = on-next e (next e d) p refl

pub reported : (last : Bool) (s : Bytes) (room : ℕ) (d : Doc) → Reported d (call_step last s room (is_open d))
unfolding call_step first_event stepped ◌>>=◌
reported last s room d = go (cut last s) refl
  where
    go : (c : Cut) → cut last s ≡ c → Reported d (stepped d (first_event c >>= λ bytes. accept bytes room d))
    go too_long e = gave OverLimit
    go wait e = gave Incomplete
    go unended e = gave NotPyx
    go (whole bytes) e = accept_reported bytes room d (last, s, e)

-- ---- the answer tells the refusal

-- in the order of their numbers
refusals : List Refusal
refusals =
    Incomplete ∷ NoRoom ∷ BadState ∷ Closed ∷ NotPyx ∷ NotWellFormed ∷ OverLimit ∷ NoNamespace ∷ NotNcName ∷
    BadLanguage ∷ BadIri ∷ RepeatedId ∷ BadLabel ∷ Reserved ∷ TwoNames ∷ StrayText ∷ EmptyLiteral ∷ LabelsSpent ∷ ProfileBroken ∷ []

abbrev Numbered : Refusal → Type 0
Numbered r = (1 ≤ number r) × (number r ≤ 19) × (get_or refusals (number r - 1) Incomplete ≡ r)

numbered : (r : Refusal) → Numbered r
unfolding refusals
numbered Incomplete = (omega arith, omega arith, refl)
numbered NoRoom = (omega arith, omega arith, refl)
numbered BadState = (omega arith, omega arith, refl)
numbered Closed = (omega arith, omega arith, refl)
numbered NotPyx = (omega arith, omega arith, refl)
numbered NotWellFormed = (omega arith, omega arith, refl)
numbered OverLimit = (omega arith, omega arith, refl)
numbered NoNamespace = (omega arith, omega arith, refl)
numbered NotNcName = (omega arith, omega arith, refl)
numbered BadLanguage = (omega arith, omega arith, refl)
numbered BadIri = (omega arith, omega arith, refl)
numbered RepeatedId = (omega arith, omega arith, refl)
numbered BadLabel = (omega arith, omega arith, refl)
numbered Reserved = (omega arith, omega arith, refl)
numbered TwoNames = (omega arith, omega arith, refl)
numbered StrayText = (omega arith, omega arith, refl)
numbered EmptyLiteral = (omega arith, omega arith, refl)
numbered LabelsSpent = (omega arith, omega arith, refl)
numbered ProfileBroken = (omega arith, omega arith, refl)

-- no refusal has the number 0, which is "done"
pub number_positive : (r : Refusal) → number r ≡ 0 → ⊥
number_positive r h = let le : 1 ≤ number r = (numbered r).0 in omega arith

-- different refusals have different numbers
pub number_injective : (q r : Refusal) → number q ≡ number r → q ≡ r
number_injective q r h = sym (numbered q).2 ∙ (ap (λ (n : ℕ). get_or refusals (n - 1) Incomplete) h ∙ (numbered r).2)

-- ---- every call, by the table

-- done, or a refusal that consumes 0, writes 0, and leaves the state as the column "Document" says
abbrev pub ByTable : State → Report → Type 0
ByTable t r = (r.answer ≡ 0) ⊎ ((x : Refusal) × (r ≡ refused_in t x))

pub step_by_table : (last : Bool) (s : Bytes) (room : ℕ) (t : State) → ByTable t (call_step last s room t)
unfolding call_step
step_by_table last s room unlawful = inr (BadState, refl)
step_by_table last s room (is_closed d) = inr (Closed, refl)
step_by_table last s room (is_open d) = go (call_step last s room (is_open d)) (reported last s room d)
  where
    go : (r : Report) → Reported d r → ByTable (is_open d) r
    go r (did bytes e us d' c p q) = inl refl
    go r (gave x) = inr (x, refl)

pub finish_by_table : (t : State) → ByTable t (call_finish t)
unfolding call_finish finished
finish_by_table unlawful = inr (BadState, refl)
finish_by_table (is_closed d) = inr (Closed, refl)
finish_by_table (is_open d) = go (finish d)
  where
    go : (a : Answer (Unit {0})) → ByTable (is_open d) (finished d a)
    go (refuse x) = inr (x, refl)
    go (good u) = inl refl

-- start, refused, changes nothing, whatever the number
pub start_by_table : (lengths : Bool) (m : Mode) (b : Option Bytes) (t : State) → ((call_start lengths m b t).answer ≡ 0) ⊎ ((x : Refusal) × (call_start lengths m b t ≡ refused x t))
unfolding call_start started
start_by_table lengths m b t = go (may_start lengths b)
  where
    go : (a : Answer (Unit {0})) → ((started m b t a).answer ≡ 0) ⊎ ((x : Refusal) × (started m b t a ≡ refused x t))
    go (refuse x) = inr (x, refl)
    go (good u) = inl refl

-- every call answers 0 to 19
by_table-answer : (t : State) (r : Report) → ByTable t r → r.answer ≤ 19
unfolding refused_in refused
by_table-answer t r (inl e) = omega arith
by_table-answer t r (inr (x, e)) = rw e (numbered x).1

pub step-answer : (last : Bool) (s : Bytes) (room : ℕ) (t : State) → (call_step last s room t).answer ≤ 19
step-answer last s room t = by_table-answer t _ (step_by_table last s room t)

pub finish-answer : (t : State) → (call_finish t).answer ≤ 19
finish-answer t = by_table-answer t _ (finish_by_table t)

pub start_answer : (lengths : Bool) (m : Mode) (b : Option Bytes) (t : State) → (call_start lengths m b t).answer ≤ 19
unfolding refused
start_answer lengths m b t = go (call_start lengths m b t) (start_by_table lengths m b t)
  where
    go : (r : Report) → (r.answer ≡ 0) ⊎ ((x : Refusal) × (r ≡ refused x t)) → r.answer ≤ 19
    go r (inl e) = omega arith
    go r (inr (x, e)) = rw e (numbered x).1

-- the number tells all of the report
pub told : (t : State) (r : Report) (x : Refusal) → ByTable t r → r.answer ≡ number x → r ≡ refused_in t x
unfolding refused_in refused
told t r x (inl e) h = absurd (number_positive x (sym h ∙ e))
told t r x (inr (y, e)) h = e ∙ ap (refused_in t) (number_injective y x (sym (ap (λ (z : Report). z.answer) e) ∙ h))

-- 1 and 2 leave the state as it was
pub same_state : (last : Bool) (s : Bytes) (room : ℕ) (t : State) → ((call_step last s room t).answer ≡ 1) ⊎ ((call_step last s room t).answer ≡ 2) → (call_step last s room t).behind ≡ t
unfolding refused_in refused marked_by
same_state last s room t (inl h) = ap (λ (z : Report). z.behind) (told t (call_step last s room t) Incomplete (step_by_table last s room t) h)
same_state last s room t (inr h) = ap (λ (z : Report). z.behind) (told t (call_step last s room t) NoRoom (step_by_table last s room t) h)

-- every non-zero answer consumes 0 and writes 0
pub zero_counts : (t : State) (r : Report) → ByTable t r → (r.answer ≡ 0 → ⊥) → (r.consumed ≡ 0) × (r.output ≡ [])
unfolding refused_in refused
zero_counts t r (inl e) h = absurd (h e)
zero_counts t r (inr (x, e)) h = (ap (λ (q : Report). q.consumed) e, ap (λ (q : Report). q.output) e)

-- 3 and 4 change nothing
pub three_changes_nothing : (t : State) → (refused_in t BadState).behind ≡ t
unfolding refused_in refused marked_by
three_changes_nothing t = refl

pub four_changes_nothing : (t : State) → (refused_in t Closed).behind ≡ t
unfolding refused_in refused marked_by
four_changes_nothing t = refl

-- the mark is all that a closing refusal changes, and the others leave an open document open and as it was
pub only_the_mark : (t : State) (x : Refusal) → ((closes x ≡ true) × ((refused_in t x).behind ≡ mark_closed t)) ⊎ ((closes x ≡ false) × ((refused_in t x).behind ≡ t))
unfolding refused_in refused marked_by
only_the_mark t x = go (effect x) refl
  where
    go : (m : Effect) → effect x ≡ m → ((closes x ≡ true) × (marked_by (effect x) t ≡ mark_closed t)) ⊎ ((closes x ≡ false) × (marked_by (effect x) t ≡ t))
    go stays_open e = inr (rw e, rw e)
    go unchanged e = inr (rw e, rw e)
    go becomes_closed e = inl (rw e, rw e)

-- ---- what an accepted step consumes

accept-size : (bytes : Bytes) (room : ℕ) (d : Doc) → Always (λ a. a.size ≡ length bytes) (accept bytes room d)
unfolding accept
accept-size bytes room d = always_any _ _ _ λ e. always_any _ _ _ λ s. always_require _ _ _ _ λ h. refl

-- at least one byte, at most all, no more than an event may have, and exactly the first event
pub record Takes (last : Bool) (rest : Bytes) (n : ℕ) : Type 0 where
  pub some : 1 ≤ n
  pub at_most : n ≤ length rest
  pub in_limit : n ≤ most_event_bytes
  pub event : cut last rest ≡ whole (take n rest)

-- an accepted step consumes the first event of the rest, byte for byte
pub step_takes : (last : Bool) (rest : Bytes) (room : ℕ) (t : State) → (call_step last rest room t).answer ≡ 0 → Takes last rest (call_step last rest room t).consumed
unfolding call_step stepped first_event refused_in refused ◌>>=◌
step_takes last rest room unlawful h = absurd (number_positive BadState h)
step_takes last rest room (is_closed d) h = absurd (number_positive Closed h)
step_takes last rest room (is_open d) h = go (cut last rest) refl h
  where
    on-accept : (b : Bytes) (a : Answer Accepted) → cut last rest ≡ whole b → Always (λ a. a.size ≡ length b) a → (stepped d a).answer ≡ 0 → Takes last rest (stepped d a).consumed
    on-accept b (refuse r) e s h = absurd (number_positive r h)
    on-accept b (good a) e s h =
        let f : Front rest b = cut_front last rest b e in
        let front : take (length b) rest ≡ b = ap (take (length b)) f.split ∙ take-append_seam b f.rest in
        rw s (record {
          some = f.some;
          at_most = omega (arith, ap length f.split, length-append b f.rest);
          in_limit = f.in_limit;
          event = e ∙ ap whole (sym front);
        })

    go : (c : Cut) → cut last rest ≡ c → (stepped d (first_event c >>= λ bytes. accept bytes room d)).answer ≡ 0
        → Takes last rest (stepped d (first_event c >>= λ bytes. accept bytes room d)).consumed
    go wait e h = absurd (number_positive Incomplete h)
    go unended e h = absurd (number_positive NotPyx h)
    go too_long e h = absurd (number_positive OverLimit h)
    go (whole b) e h = on-accept b (accept b room d) e (accept-size b room d) h

-- ---- what a document's steps write

-- the steps of a document, whatever bytes and room each was given: the state behind them, and all bytes written
pub data Steps (m : Mode) (b : Option Bytes) : State → Bytes → Type 0 where
  at_start : Steps m b (is_open (fresh m b)) []
  and_step : {t : State} {w : Bytes} → Steps m b t w → (last : Bool) (s : Bytes) (room : ℕ)
      → Steps m b (call_step last s room t).behind (w ++ (call_step last s room t).output)

write-append : (ts us : List Triple) → write (ts ++ us) ≡ write ts ++ write us
unfolding write
write-append [] us = refl
write-append (t ∷ ts) us = ap (λ (x : Bytes). line t ++ x) (write-append ts us) ∙ sym (append_assoc (line t) (write ts) (write us))

-- the bytes written are lines of which, with the document, something holds; no document's steps lead to a state that the rules do
-- not allow
abbrev pub Holds : (Doc → List Triple → Type 0) → State → Bytes → Type 0
Holds I (is_open d) w = (ts : List Triple) × I d ts × (w ≡ write ts)
Holds I (is_closed d) w = (ts : List Triple) × I d ts × (w ≡ write ts)
Holds I unlawful w = ⊥

holds-marked : (I : Doc → List Triple → Type 0) (m : Effect) (d : Doc) (w : Bytes) → Holds I (is_open d) w → Holds I (marked_by m (is_open d)) w
unfolding marked_by mark_closed
holds-marked I stays_open d w h = h
holds-marked I unchanged d w h = h
holds-marked I becomes_closed d w h = h

-- what holds at the start, and behind each accepted event if it holds before, holds behind all steps
module _ (m : Mode) (b : Option Bytes) (I : Doc → List Triple → Type 0) (start : I (fresh m b) [])
    (onward : (d d' : Doc) (ts us : List Triple) (bytes : Bytes) (e : Event) → AtFront bytes → read_event bytes ≡ good e → next e d ≡ good (us, d') → I d ts → I d' (ts ++ us)) where
  holds-step : (d : Doc) (w : Bytes) (r : Report) → Reported d r → Holds I (is_open d) w → Holds I r.behind (w ++ r.output)
  unfolding refused_in refused
  holds-step d w r (did bytes e us d' c p q) h = (h.0 ++ us, onward d d' h.0 us bytes e c p q h.1, rw h.2 (sym (write-append h.0 us)))
  holds-step d w r (gave x) h = holds-marked I (effect x) d (w ++ []) (h.0, h.1, append-nil w ∙ h.2)

  pub carried : (t : State) (w : Bytes) → Steps m b t w → Holds I t w
  unfolding write call_step refused_in refused marked_by
  carried t w at_start = ([], start, refl)
  carried t w (and_step {t = is_open d} {w = w₀} h last s room) = holds-step d w₀ _ (reported last s room d) (carried (is_open d) w₀ h)
  carried t w (and_step {t = is_closed d} {w = w₀} h last s room) =
      let k : Holds I (is_closed d) w₀ = carried (is_closed d) w₀ h in
      (k.0, k.1, append-nil w₀ ∙ k.2)
  carried t w (and_step {t = unlawful} {w = w₀} h last s room) = absurd (carried unlawful w₀ h)

-- the lines of accepted events lead to the document
abbrev pub Written : Mode → Option Bytes → State → Bytes → Type 0
Written m b t w = Holds (After (fresh m b)) t w

-- all bytes that a document's steps wrote are the lines of its accepted events
pub written : (m : Mode) (b : Option Bytes) (t : State) (w : Bytes) → Steps m b t w → Written m b t w
written m b t w h = carried m b (After (fresh m b)) here (λ d d' ts us bytes e c p q k. event k e d' us q) t w h

-- no state that a document's steps reach is against the rules
pub always_lawful : (m : Mode) (b : Option Bytes) (w : Bytes) → Steps m b unlawful w → ⊥
always_lawful m b w h = written m b unlawful w h

-- ---- later bytes

-- an answer other than 1 stays as it is, whatever bytes follow
pub step-final : (last : Bool) (s t : Bytes) (room : ℕ) (q : State) → ((call_step false s room q).answer ≡ 1 → ⊥) → call_step last (s ++ t) room q ≡ call_step false s room q
unfolding call_step stepped first_event refused_in refused ◌>>=◌
step-final last s t room unlawful h = refl
step-final last s t room (is_closed d) h = refl
step-final last s t room (is_open d) h =
    let step : Cut → Report = λ c. stepped d (first_event c >>= λ bytes. accept bytes room d) in
    ap step (cut-final last s t λ e. h (ap (λ (c : Cut). (step c).answer) e))

-- ---- the room

-- an event's lines, and whether they fit
abbrev given : Bytes → Bool → List Triple × Doc → Answer Accepted
given bytes b s = (require b or NoRoom) >> good (record { size = length bytes; lines = write s.0; behind = s.1 })

abbrev fitted : Bytes → ℕ → Answer (List Triple × Doc) → Answer Accepted
fitted bytes room a = a >>= λ s. given bytes (leb (length (write s.0)) room) s

abbrev Not-2 : Doc → Answer Accepted → Type 0
Not-2 d a = (stepped d a).answer ≡ 2 → ⊥

accept-room : (bytes : Bytes) (room room' : ℕ) (d : Doc) → Not-2 d (accept bytes room d) → Not-2 d (accept bytes room' d) → accept bytes room d ≡ accept bytes room' d
unfolding accept stepped refused_in refused ◌>>=◌ ◌>>◌ require◌or◌
accept-room bytes room room' d = on_read (read_event bytes)
  where
    on_room : (s : List Triple × Doc) (b b' : Bool) → Not-2 d (given bytes b s) → Not-2 d (given bytes b' s) → given bytes b s ≡ given bytes b' s
    on_room s true true h k = refl
    on_room s false b' h k = absurd (h refl)
    on_room s true false h k = absurd (k refl)

    on-next : (a : Answer (List Triple × Doc)) → Not-2 d (fitted bytes room a) → Not-2 d (fitted bytes room' a) → fitted bytes room a ≡ fitted bytes room' a
    on-next (refuse r) h k = refl
    on-next (good s) h k = on_room s (leb (length (write s.0)) room) (leb (length (write s.0)) room') h k

    on_read : (a : Answer Event) → Not-2 d (a >>= λ e. fitted bytes room (next e d)) → Not-2 d (a >>= λ e. fitted bytes room' (next e d))
        → (a >>= λ e. fitted bytes room (next e d)) ≡ (a >>= λ e. fitted bytes room' (next e d))
    on_read (refuse r) h k = refl
    on_read (good e) h k = on-next (next e d) h k

-- the room decides only whether the answer is 2
pub step_room : (last : Bool) (s : Bytes) (room room' : ℕ) (q : State) → ((call_step last s room q).answer ≡ 2 → ⊥) → ((call_step last s room' q).answer ≡ 2 → ⊥)
    → call_step last s room q ≡ call_step last s room' q
unfolding call_step ◌>>=◌
step_room last s room room' unlawful h k = refl
step_room last s room room' (is_closed d) h k = refl
step_room last s room room' (is_open d) h k = go (first_event (cut last s)) h k
  where
    go : (a : Answer Bytes) → Not-2 d (a >>= λ bytes. accept bytes room d) → Not-2 d (a >>= λ bytes. accept bytes room' d)
        → stepped d (a >>= λ bytes. accept bytes room d) ≡ stepped d (a >>= λ bytes. accept bytes room' d)
    go (refuse r) h k = refl
    go (good bytes) h k = ap (stepped d) (accept-room bytes room room' d h k)
