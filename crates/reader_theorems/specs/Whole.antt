-- What is proved of the definitions, for documents that are run through the calls.
use Rattle.std.specs.Prelude.{ℕ, ◌<◌, ◌≤◌, ◌≡◌, refl, ◌⊎◌, Bool, true, List, [], ◌∷◌, ◌++◌, take}
use Rattle.std.proofs.Common.{sym, ap, ◌∙◌, subst, inl, inr, append-nil, append_assoc}
use Rattle.std.proofs.Math.Option.{Option, some, some-injective}
use Rattle.std.proofs.lemmas.List.{append_cancel_left}
use Rattle.spec.specs.Bytes.{Bytes}
use Rattle.spec.specs.Numbers.{number, Effect, stays_open, unchanged, becomes_closed, effect, Answer, refuse, good}
use Rattle.spec.specs.declared.Refusal.{Refusal}
use Rattle.spec.specs.declared.Refusal.TheVariants.{Closed}
use Rattle.spec.specs.Pyx.{Event}
use Rattle.spec.specs.NTriples.{blank, Triple, line, write, label}
use Rattle.spec.specs.NTriplesGrammar.{is_n_triples}
use Rattle.spec.specs.NTriplesReading.{ntriples_doc}
use Rattle.spec.specs.declared.Mode.{Mode}
use Rattle.spec.specs.Document.{Doc, fresh}
use Rattle.spec.specs.StartTag.{rdf_node_id, judge}
use Rattle.spec.specs.RdfXml.{next}
use Rattle.spec.specs.Within.{Within}
use Rattle.spec.specs.Calls.{is_open, is_closed, unlawful, mark_closed, marked_by, refused, refused_in, may_start, call_start, call_step}
use Rattle.spec.specs.Calls as calls
use Rattle.spec.specs.Lists.{After, here, event, Unnamed}
use Rattle.spec.specs.ReadingBack.{Given, none_given, and_then}
use Rattle.theorems.specs.Always.{always_good}
use Rattle.theorems.specs.Calls.{Holds, number_positive}
use Rattle.theorems.specs.Limits.{always_within, start_short}
use Rattle.theorems.specs.NewLabels as labels
use Rattle.theorems.specs.NTriplesLines.{SpelledLines, spelled_append, spelled_behind, lines_in_grammar}
use Rattle.theorems.specs.NTriplesGrammar.{GoodBase, started-base, all_spelled}
use Rattle.theorems.specs.NTriplesReading.{lines_read_back}
use Rattle.theorems.specs.SameBytes.{part-given, whole-given, same_bytes_same_triples}
use Rattle.copy.specs.Copy.{wrote_front}
use Rattle.reader_contract.specs.declared.State.{State}
use Rattle.reader_contract.specs.declared.Report.{Report}
use Rattle.reader_contract.specs.Meaning.{base_of, meaning_of}
use Rattle.reader_contract.specs.Meets.{number_of, Starts, Steps, Finishes}
use Rattle.reader_theorems.specs.Runs.{Ran, started, stepped, ended, declined, now, and_stepped, and_ended, and_declined, Later, follows, start_opens, finish-closes}
use Rattle.reader_theorems.specs.Events.{first_of, taken, run_events, events_of, same-events, one_more_lem, Reported, did, gave, reported}
use Rattle.std.specs.Prelude.{Result, Ok, Err}

-- ---- lines

-- these events, accepted, lead to the document, and all bytes written are their lines
pub record Lines (mode : Mode) (b : Option Bytes) (es : List Event) (m : calls.State) (o : Bytes) : Type 0 where
  pub doc : Doc
  pub lines : List Triple
  pub after : After (fresh mode b) doc lines
  pub events : events_of after ≡ es
  pub bytes : o ≡ write lines
  pub means : (m ≡ is_open doc) ⊎ (m ≡ is_closed doc)

write-append : (ts us : List Triple) → write (ts ++ us) ≡ write ts ++ write us
unfolding write
write-append [] us = refl
write-append (t ∷ ts) us = ap (λ (x : Bytes). line t ++ x) (write-append ts us) ∙ sym (append_assoc (line t) (write ts) (write us))

closed_or_open : (m : Effect) (d : Doc) → (marked_by m (is_open d) ≡ is_open d) ⊎ (marked_by m (is_open d) ≡ is_closed d)
unfolding marked_by mark_closed
closed_or_open stays_open d = inl refl
closed_or_open unchanged d = inl refl
closed_or_open becomes_closed d = inr refl

-- refused, a step takes no event and changes no more than the mark
lines_kept : {mode : Mode} {b : Option Bytes} {es : List Event} {m : calls.State} {o : Bytes} (f : Lines mode b es m o)
    (a : Result Unit Refusal) (e : Answer Event) (x : Refusal) (m' : calls.State)
    → number_of a ≡ number x → (m' ≡ is_open f.doc) ⊎ (m' ≡ is_closed f.doc)
    → Lines mode b (es ++ taken a e) m' (o ++ [])
unfolding taken
lines_kept f (Ok _) e x m' n h = absurd (number_positive x (sym n))
lines_kept {es} {o} f (Err y) e x m' n h =
    rw (append-nil es, append-nil o) (record { doc = f.doc; lines = f.lines; after = f.after; events = f.events; bytes = f.bytes; means = h })

lines_step : {mode : Mode} {b : Option Bytes} {es : List Event} {m : calls.State} {o : Bytes} (last : Bool) (s : Bytes)
    (room : ℕ) (a : Result Unit Refusal) (f : Lines mode b es m o)
    → number_of a ≡ (call_step last s room m).answer
    → Lines mode b (es ++ taken a (first_of last s)) (call_step last s room m).behind
    (o ++ (call_step last s room m).output)
unfolding taken events_of refused_in refused call_step marked_by
lines_step {mode} {b} {es} {m} {o} last s room a f n = go f.means
  where
    on-report : (a : Result Unit Refusal) (e : Answer Event) (r : calls.Report) → Reported f.doc e r → number_of a ≡ r.answer → Lines mode b (es ++ taken a e) r.behind (o ++ r.output)
    on-report a e r (gave x) n = lines_kept f a e x _ n (closed_or_open (effect x) f.doc)
    on-report (Ok _) e r (did i us d' k p q) n =
        rw p (record {
          doc = d';
          lines = f.lines ++ us;
          after = event f.after i d' us q;
          events = ap (◌++ (i ∷ [])) f.events;
          bytes = rw f.bytes (sym (write-append f.lines us));
          means = inl refl;
        })
    on-report (Err y) e r (did i us d' k p q) n = absurd (number_positive y n)

    go : (m ≡ is_open f.doc) ⊎ (m ≡ is_closed f.doc) → Lines mode b (es ++ taken a (first_of last s)) (call_step last s room m).behind (o ++ (call_step last s room m).output)
    go (inl e) = rw e (on-report a (first_of last s) (call_step last s room (is_open f.doc)) (reported last s room f.doc) (rw e at n))
    go (inr e) = rw e (lines_kept f a (first_of last s) Closed _ (rw e at n) (inr refl))

lines_end : {mode : Mode} {b : Option Bytes} {es : List Event} {m : calls.State} {o : Bytes} → Lines mode b es m o
    → Lines mode b es (mark_closed m) o
unfolding mark_closed
lines_end {m} f = record { doc = f.doc; lines = f.lines; after = f.after; events = f.events; bytes = f.bytes; means = inr (go f.means) }
  where
    go : (m ≡ is_open f.doc) ⊎ (m ≡ is_closed f.doc) → mark_closed m ≡ is_closed f.doc
    go (inl e) = rw e
    go (inr e) = rw e

-- by call
lines-started : {mode : Mode} {based : Bool} {base : Bytes} {s : State} {w i : List ℕ} {r : Report} {w' : List ℕ} → Starts mode based base s w i r w' → r.answer ≡ Ok tt
    → Lines mode (base_of based base) [] (meaning_of r.state w' i) []
unfolding events_of write
lines-started x q =
    record { doc = _; lines = []; after = here; events = refl; bytes = refl; means = inl (x.meets.behind ∙ (start_opens _ _ _ _ (sym x.meets.answer ∙ ap number_of q)).1) }

module _ {mode : Mode} {b : Option Bytes} {es : List Event} {s : State} {w i : List ℕ} {o : Bytes}
    (f : Lines mode b es (meaning_of s w i) o) {r : Report} where
  lines-stepped : {last : Bool} {input : Bytes} {out w' i' out' : List ℕ} → Steps last input s w i out r w' i' out'
      → Lines mode b (es ++ taken r.answer (first_of last input)) (meaning_of r.state w' i')
      (o ++ take r.written out')
  lines-stepped x = rw (x.meets.behind, wrote_front x.meets.wrote) (lines_step _ _ _ _ f x.meets.answer)

  lines-ended : Finishes s w i r → Lines mode b es (meaning_of r.state w i) o
  lines-ended x = rw (x.meets.behind, finish-closes) (lines_end f)

  lines_declined : {m : Mode} {a : Bool} {c : Bytes} {w' : List ℕ} (n : Refusal) → Starts m a c s w i r w' → r.answer ≡ Err n → Lines mode b es (meaning_of r.state w' i) o
  lines_declined n x q = let k = x.meets.kept n q in rw (k.state, k.work) f

-- the calls of a document accepted its events, and wrote their lines
pub run-lines : {mode : Mode} {based : Bool} {base : Bytes} {s : State} {w i : List ℕ} {o : Bytes} (h : Ran mode based base s w i o) → Lines mode (base_of based base) (run_events h) (meaning_of s w i) o
unfolding run_events
run-lines (started x q) = lines-started x q
run-lines (stepped h x) = lines-stepped (run-lines h) x
run-lines (ended h x) = lines-ended (run-lines h) x
run-lines (declined n h x q) = lines_declined (run-lines h) n x q

-- ---- the events determine the lines

module _ {mode : Mode} {b : Option Bytes} {es es' : List Event} {m m' : calls.State} {o o' : Bytes}
    (f : Lines mode b es m o) (g : Lines mode b es' m' o') where
  -- with the same events
  same_lines : es' ≡ es → (g.doc ≡ f.doc) × (g.lines ≡ f.lines)
  same_lines e = same-events g.after f.after (g.events ∙ (e ∙ sym f.events))

  -- with one event more
  pub more_lines : (e : Event) → es' ≡ es ++ (e ∷ []) → (us : List Triple) × (next e f.doc ≡ good (us, g.doc)) × (g.lines ≡ f.lines ++ us)
  more_lines e q = one_more_lem f.after g.after e (g.events ∙ (q ∙ ap (◌++ (e ∷ [])) (sym f.events)))

  -- further lines are further bytes
  pub more_bytes : (us : List Triple) (u : Bytes) → o' ≡ o ++ u → g.lines ≡ f.lines ++ us → u ≡ write us
  more_bytes us u e q =
      append_cancel_left o u (write us) (sym e ∙ (g.bytes ∙ (ap write q ∙ (write-append f.lines us ∙ ap (◌++ write us) (sym f.bytes)))))

-- accepted events lead from the one document to the other, whose lines are those of the one and then theirs
abbrev pub Further : {mode : Mode} {b : Option Bytes} {es es' : List Event} {m m' : calls.State} {o o' : Bytes} → Lines mode b es m o → Lines mode b es' m' o' → Type 0
Further f g = (vs : List Triple) × After f.doc g.doc vs × (g.lines ≡ f.lines ++ vs)

further_same : {mode : Mode} {b : Option Bytes} {es es' es'' : List Event} {m m' m'' : calls.State} {o o' o'' : Bytes} (f : Lines mode b es m o) (g : Lines mode b es' m' o') (k : Lines mode b es'' m'' o'')
    → es'' ≡ es' → Further f g → Further f k
further_same f g k e h = let r = same_lines g k e in rw (r.0, r.1) h

further_step : {mode : Mode} {b : Option Bytes} {es es' es'' : List Event} {m m' m'' : calls.State} {o o' o'' : Bytes} (f : Lines mode b es m o) (g : Lines mode b es' m' o') (k : Lines mode b es'' m'' o'')
    (a : Result Unit Refusal) (e : Answer Event) → es'' ≡ es' ++ taken a e → Further f g → Further f k
unfolding taken
further_step {es'} f g k (Ok _) (refuse n) q h = further_same f g k (q ∙ append-nil es') h
further_step {es'} f g k (Err n) e q h = further_same f g k (q ∙ append-nil es') h
further_step f g k (Ok _) (good e) q (vs, a, is) =
    let r = more_lines g k e q in
    (vs ++ r.0, event a e k.doc r.0 r.1, r.2 ∙ (ap (◌++ r.0) is ∙ append_assoc f.lines vs r.0))

-- what a document has written stays, and later lines come behind it
pub run_further : {mode : Mode} {based : Bool} {base : Bytes} {s : State} {w i : List ℕ} {o : Bytes} {h : Ran mode based base s w i o} {s' : State} {w' i' : List ℕ} {o' : Bytes} {k : Ran mode based base s' w' i' o'}
    → Later h k → Further (run-lines h) (run-lines k)
unfolding run_events
run_further {h} now = ([], here, sym (append-nil (run-lines h).lines))
run_further {h} (and_stepped {k = k} l x) = further_step (run-lines h) (run-lines k) (run-lines (stepped k x)) _ _ refl (run_further l)
run_further {h} (and_ended {k = k} l x) = further_same (run-lines h) (run-lines k) (run-lines (ended k x)) refl (run_further l)
run_further {h} (and_declined {k = k} n l x q) = further_same (run-lines h) (run-lines k) (run-lines (declined n k x q)) refl (run_further l)

-- ---- what holds of them

-- the start was accepted
pub record Begun (mode : Mode) (b : Option Bytes) : Type 0 where
  pub lengths : Bool
  pub before : calls.State
  pub allowed : may_start lengths b ≡ good tt
  pub answer : (call_start lengths mode b before).answer ≡ 0

pub ran_begun : {mode : Mode} {based : Bool} {base : Bytes} {s : State} {w i : List ℕ} {o : Bytes} → Ran mode based base s w i o → Begun mode (base_of based base)
ran_begun (started x q) =
    let e = sym x.meets.answer ∙ ap number_of q in
    record { lengths = _; before = _; allowed = (start_opens _ _ _ _ e).0; answer = e }
ran_begun (stepped h x) = ran_begun h
ran_begun (ended h x) = ran_begun h
ran_begun (declined n h x q) = ran_begun h

module _ {mode : Mode} {based : Bool} {base : Bytes} {s : State} {w i : List ℕ} {o : Bytes}
    (h : Ran mode based base s w i o) where
  -- its lines can be written
  pub run_spelled : SpelledLines (run-lines h).lines
  run_spelled =
      let b = base_of based base in
      let g : GoodBase b = always_good (λ u. GoodBase b) (started-base (ran_begun h).lengths b) (ran_begun h).allowed in
      go (follows h).before (all_spelled mode b (follows h).before o g (follows h).steps)
    where
      same : (d : Doc) → (ts : List Triple) × (After (fresh mode (base_of based base)) d ts × SpelledLines ts) × (o ≡ write ts) → SpelledLines (run-lines h).lines
      same d (ts, k, e) =
          rw (← same_bytes_same_triples ts (run-lines h).lines (whole-given mode (base_of based base) d ts k.0) (whole-given mode (base_of based base) (run-lines h).doc (run-lines h).lines (run-lines h).after)
          (sym e ∙ (run-lines h).bytes)) k.1

      go : (t : calls.State) → Holds (λ d ts. After (fresh mode (base_of based base)) d ts × SpelledLines ts) t o → SpelledLines (run-lines h).lines
      go (is_open d) k = same d k
      go (is_closed d) k = same d k
      go unlawful k = absurd k

  -- all that was written is a document of the N-Triples grammar
  pub run_n_triples : is_n_triples o ≡ true
  run_n_triples = rw (run-lines h).bytes (lines_in_grammar (run-lines h).lines run_spelled)

  -- reading it gives back the triples of the events that its steps took
  pub run-lines_read_back : ntriples_doc o ≡ some (run-lines h).lines
  run-lines_read_back = ap ntriples_doc (run-lines h).bytes ∙ lines_read_back (run-lines h).lines run_spelled

  -- the labels that a next event generates are new
  pub run_labels_new : (d' : Doc) (us : List Triple) (e : Event) → next e (run-lines h).doc ≡ good (us, d')
      → (k : ℕ) → (run-lines h).doc.labels < k → k ≤ d'.labels
      → ((l : Bytes) → judge rdf_node_id l ≡ good tt → l ≡ label k → ⊥)
      × ((j : ℕ) → j ≤ d'.labels → label j ≡ label k → j ≡ k)
      × Unnamed (blank (label k)) (run-lines h).lines
  run_labels_new d' us e q k lo hi = labels.labels_new mode (base_of based base) (run-lines h).doc d' (run-lines h).lines us e (run-lines h).after q k lo hi

  -- behind each call all limits hold
  pub run-within : Within (run-lines h).doc
  run-within = always_within mode (base_of based base) (run-lines h).doc (run-lines h).lines (start_short (ran_begun h).lengths mode (base_of based base) (ran_begun h).before (ran_begun h).answer) (run-lines h).after

-- ---- parts of documents, and documents one after the other

-- Bytes that calls wrote, and the triples of the events that they took: from one state of a document to a later one; then again so, in
-- the same document or in another. So of a step, of a part of a document, of a whole one, of several.
pub data Output : Bytes → List Triple → Type 0 where
  no_output : Output [] []
  more_output : {u : Bytes} {ts : List Triple} {mode : Mode} {based : Bool} {base : Bytes} {s : State} {w i : List ℕ} {o : Bytes} {s' : State} {w' i' : List ℕ} {o' : Bytes}
      {h : Ran mode based base s w i o} {k : Ran mode based base s' w' i' o'} → Output u ts
      → (l : Later h k) (v : Bytes) → o' ≡ o ++ v → Output (u ++ v) (ts ++ (run_further l).0)

record Stands (u : Bytes) (ts : List Triple) : Type 0 where
  pub bytes : u ≡ write ts
  pub given : Given ts
  pub spelled : SpelledLines ts

-- of a part
stands-part : {mode : Mode} {based : Bool} {base : Bytes} {s : State} {w i : List ℕ} {o : Bytes} {s' : State} {w' i' : List ℕ} {o' : Bytes} {h : Ran mode based base s w i o} {k : Ran mode based base s' w' i' o'}
    (l : Later h k) (v : Bytes) → o' ≡ o ++ v → Stands v (run_further l).0
stands-part {mode} {based} {base} {h = h} {k = k} l v e =
    let f = run_further l in
    record {
      bytes = more_bytes (run-lines h) (run-lines k) f.0 v e f.2;
      given = part-given mode (base_of based base) (run-lines h).doc (run-lines k).doc (run-lines h).lines f.0 (run-lines h).after f.1;
      spelled = spelled_behind (run-lines h).lines f.0 (subst SpelledLines f.2 (run_spelled k));
    }

stands : {u : Bytes} {ts : List Triple} → Output u ts → Stands u ts
unfolding write
stands no_output = record { bytes = refl; given = none_given; spelled = tt }
stands (more_output {u = u} {ts = ts} x l v e) =
    let a = stands x in
    let b = stands-part l v e in
    let vs = (run_further l).0 in
    record {
      bytes = rw (a.bytes, b.bytes) (sym (write-append ts vs));
      given = and_then a.given b.given;
      spelled = spelled_append ts vs a.spelled b.spelled;
    }

-- reading gives back the triples
pub output-reads_back : {u : Bytes} {ts : List Triple} → Output u ts → ntriples_doc u ≡ some ts
output-reads_back {ts = ts} x = ap ntriples_doc (stands x).bytes ∙ lines_read_back ts (stands x).spelled

-- two different sequences of triples never have the same bytes
pub same-output : {u v : Bytes} {ts us : List Triple} → Output u ts → Output v us → u ≡ v → ts ≡ us
same-output {ts = ts} {us = us} x y e = same_bytes_same_triples ts us (stands x).given (stands y).given (sym (stands x).bytes ∙ (e ∙ (stands y).bytes))

-- two documents that wrote the same bytes wrote the same triples
pub same_bytes_lem : {m : Mode} {a : Bool} {b : Bytes} {s : State} {w i : List ℕ} {o : Bytes} {m' : Mode} {a' : Bool} {b' : Bytes} {s' : State} {w' i' : List ℕ} {o' : Bytes}
    (h : Ran m a b s w i o) (k : Ran m' a' b' s' w' i' o') → o ≡ o' → (run-lines h).lines ≡ (run-lines k).lines
same_bytes_lem h k e = some-injective _ _ (sym (run-lines_read_back h) ∙ (ap ntriples_doc e ∙ run-lines_read_back k))
