-- The events of a document: those that its steps accepted, read from their input. They determine all the rest.
use Rattle.std.specs.Prelude.{ℕ, ◌≡◌, refl, Bool}
use Rattle.std.proofs.Common.{sym, ap, ◌∙◌}
use mathlib.Core.List.{List, [], ◌∷◌, ◌++◌, reverse, reverse-append, reverse-reverse, head-eq_of_cons-eq, tail-eq_of_cons-eq, concat-ne-nil}
use Rattle.spec.specs.Bytes.{Bytes, ◌>>=◌}
use Rattle.spec.specs.Numbers.{Answer, refuse, good}
use Rattle.spec.specs.declared.Refusal.{Refusal}
use Rattle.spec.specs.declared.Refusal.TheVariants.{Incomplete, NotPyx, OverLimit}
use Rattle.spec.specs.Pyx.{Event, opening, closing, read_event}
use Rattle.spec.specs.PyxCut.{Cut, wait, unended, too_long, whole, cut}
use Rattle.spec.specs.declared.Mode.{Mode}
use Rattle.spec.specs.NTriples.{Triple, write}
use Rattle.spec.specs.Document.{Doc}
use Rattle.spec.specs.Opening.{Step}
use Rattle.spec.specs.RdfXml.{next}
use Rattle.spec.specs.Calls.{is_open, refused_in, first_event, Accepted, accept, call_step}
use Rattle.spec.specs.Calls as calls
use Rattle.spec.specs.Lists.{After, here, event}
use Rattle.spec.specs.Inside.{Element}
use Rattle.theorems.specs.Always.{Always, always_bind, always_require, always_self}
use Rattle.reader_contract.specs.declared.State.{State}
use Rattle.reader_theorems.specs.Runs.{Ran, started, stepped, ended, declined}
use Rattle.std.specs.Prelude.{Result, Ok, Err}

-- ---- of the calls

-- the first event of the input
unfoldable pub first_of : Bool → Bytes → Answer Event
first_of last input = first_event (cut last input) >>= read_event

-- a step takes it, unless it is refused
unfoldable pub taken : Result Unit Refusal → Answer Event → List Event
taken (Ok _) (good e) = e ∷ []
taken (Ok _) (refuse n) = []
taken (Err n) a = []

-- all that the steps took, in order
unfoldable pub run_events : {mode : Mode} {based : Bool} {base : Bytes} {s : State} {w i : List ℕ} {o : Bytes} → Ran mode based base s w i o → List Event
run_events (started x q) = []
run_events (stepped {last = last} {input = input} {r = r} h x) = run_events h ++ taken r.answer (first_of last input)
run_events (ended h x) = run_events h
run_events (declined n h x q) = run_events h

-- ---- of the definitions

unfoldable pub events_of : {d₀ d : Doc} {ts : List Triple} → After d₀ d ts → List Event
events_of here = []
events_of (event before e d' us q) = events_of before ++ (e ∷ [])

-- its start tag, those inside it, its end tag
unfoldable pub events_in : {d d' : Doc} → Element d d' → List Event
events_in c = opening c.begun.name c.begun.attributes ∷ (events_of c.begun.inside ++ (closing c.name ∷ []))

pub last-same : {A : Type 0} (u v : List A) (a b : A) → u ++ (a ∷ []) ≡ v ++ (b ∷ []) → (u ≡ v) × (a ≡ b)
last-same {A} u v a b e =
    let back : a ∷ reverse u ≡ b ∷ reverse v = sym (reverse-append u (a ∷ [])) ∙ (ap reverse e ∙ reverse-append v (b ∷ [])) in
    (sym (reverse-reverse u) ∙ (ap reverse (tail-eq_of_cons-eq back) ∙ reverse-reverse v), head-eq_of_cons-eq back)

one-step : {a : Answer Step} {s t : Step} → a ≡ good s → a ≡ good t → s ≡ t
one-step p q = cc

-- the same events lead to the same document and lines
pub same-events : {d₀ d d' : Doc} {ts ts' : List Triple} (a : After d₀ d ts) (b : After d₀ d' ts') → events_of a ≡ events_of b → (d ≡ d') × (ts ≡ ts')
unfolding events_of
same-events here here h = (refl, refl)
same-events here (event b f d' vs q) h = absurd (concat-ne-nil f (events_of b) (sym h))
same-events (event a e d us p) here h = absurd (concat-ne-nil e (events_of a) h)
same-events (event a e d us p) (event b f d' vs q) h =
    let s = last-same (events_of a) (events_of b) e f h in
    let r = same-events a b s.0 in
    let g : ◌≡◌ {A = Step} (us, d) (vs, d') = one-step p (rw (s.1, r.0) q) in
    (ap (λ (s : Step). s.1) g, rw (r.1, ap (λ (s : Step). s.0) g))

-- and one event more to what it does
pub one_more_lem : {d₀ d d' : Doc} {ts ts' : List Triple} (a : After d₀ d ts) (b : After d₀ d' ts') (e : Event) → events_of b ≡ events_of a ++ (e ∷ [])
    → (us : List Triple) × (next e d ≡ good (us, d')) × (ts' ≡ ts ++ us)
unfolding events_of
one_more_lem a here e h = absurd (concat-ne-nil e (events_of a) (sym h))
one_more_lem a (event b f d' us q) e h =
    let s = last-same (events_of b) (events_of a) f e h in
    let r = same-events b a s.0 in
    (us, rw (← s.1, ← r.0) q, rw r.1)

-- ---- what a step reports

-- of an open document: the first event of its input done, or a refusal
pub data Reported (d : Doc) (a : Answer Event) : calls.Report → Type 0 where
  did : (e : Event) (us : List Triple) (d' : Doc) (n : ℕ) → a ≡ good e → next e d ≡ good (us, d')
      → Reported d a (record { answer = 0; consumed = n; output = write us; behind = is_open d' })
  gave : (x : Refusal) → Reported d a (refused_in (is_open d) x)

abbrev Accepts : Bytes → Doc → Accepted → Type 0
Accepts bytes d a = (e : Event) × (s : Step) × (read_event bytes ≡ good e) × (next e d ≡ good s) × (a.lines ≡ write s.0) × (a.behind ≡ s.1)

accepts : (bytes : Bytes) (room : ℕ) (d : Doc) → Always (Accepts bytes d) (accept bytes room d)
unfolding accept
accepts bytes room d =
    always_bind (λ e. read_event bytes ≡ good e) (Accepts bytes d) _ _ (always_self (read_event bytes)) λ e p.
    always_bind (λ s. next e d ≡ good s) (Accepts bytes d) _ _ (always_self (next e d)) λ s q.
    always_require (Accepts bytes d) _ _ _ λ h. (e, s, p, q, refl, refl)

pub reported : (last : Bool) (s : Bytes) (room : ℕ) (d : Doc) → Reported d (first_of last s) (call_step last s room (is_open d))
unfolding first_of call_step first_event calls.stepped ◌>>=◌
reported last s room d = on-cut (cut last s)
  where
    on-accept : (bytes : Bytes) (a : Answer Accepted) → Always (Accepts bytes d) a → Reported d (read_event bytes) (calls.stepped d a)
    on-accept bytes (refuse x) h = gave x
    on-accept bytes (good a) (e, s, p, q, l, b) = rw (l, b) (did e s.0 s.1 a.size p q)

    on-cut : (c : Cut) → Reported d (first_event c >>= read_event) (calls.stepped d (first_event c >>= λ bytes. accept bytes room d))
    on-cut too_long = gave OverLimit
    on-cut wait = gave Incomplete
    on-cut unended = gave NotPyx
    on-cut (whole bytes) = on-accept bytes (accept bytes room d) (accepts bytes room d)
