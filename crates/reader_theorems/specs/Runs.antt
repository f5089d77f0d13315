-- Documents run through the calls, each handed the state and the stores as the call before left them: no call answers
-- 3, none in the base mode 19, and what `spec` proves of the steps of a document holds of them.
use Rattle.std.specs.Prelude.{ℕ, ◌≤◌, ◌<◌, ◌≡◌, refl, ◌⊎◌, Bool, true, false, ◌&&◌, List, [], ◌++◌, eqb, leb, length, take}
use Rattle.std.proofs.Common.{sym, ap, ◌∙◌, inl, inr, append-nil, arith, eq-eqb}
use Rattle.std.proofs.Math.Option.{Option, none, some}
use Rattle.spec.specs.Limits.{work_store_bytes, id_store_bytes, most_name_bytes}
use Rattle.spec.specs.Bytes.{Bytes, is_empty, ◌>>◌, require◌or◌}
use Rattle.spec.specs.Numbers.{Effect, stays_open, unchanged, becomes_closed, effect, Answer, refuse, good}
use Rattle.spec.specs.declared.Refusal.{Refusal}
use Rattle.spec.specs.declared.Refusal.TheVariants.{BadState, NotWellFormed, OverLimit, BadIri}
use Rattle.spec.specs.Rfc3987.{is_iri}
use Rattle.spec.specs.declared.Mode.{Mode}
use Rattle.spec.specs.Modes.{base_mode}
use Rattle.spec.specs.Document.{Doc, fresh}
use Rattle.spec.specs.RdfXml.{finish}
use Rattle.spec.specs.Calls.{is_open, is_closed, unlawful, mark_closed, marked_by, refused, refused_in, may_start, call_start, call_step, finished, call_finish}
use Rattle.spec.specs.Calls as calls
use Rattle.spec.proofs.Booleans.{and_left, and_right}
use Rattle.theorems.specs.Calls.{Reported, did, gave, reported, number_positive, at_start, and_step, always_lawful}
use Rattle.theorems.specs.Calls as spec
use Rattle.theorems.specs.Refusals.{Why, no_state, given-only_when}
use Rattle.theorems.specs.ModeRefusals.{base_never_19}
use Rattle.copy.specs.Copy.{wrote_front}
use Rattle.state_ids.specs.Ids.{valid_ids}
use Rattle.state.specs.Valid.{valid_state}
use Rattle.state.specs.Valid as state
use Rattle.reader_contract.specs.declared.State.{State}
use Rattle.reader_contract.specs.declared.Report.{Report}
use Rattle.reader_contract.specs.Meaning.{base_of, lawful_state, meaning_of, means_unlawful}
use Rattle.reader_contract.specs.Meets.{number_of, lengths_right, Starts, Steps, Finishes}
use Rattle.std.specs.Prelude.{Ok, Err}

-- ---- what the calls of `spec` leave

-- by the rules of docs/STATE.md
abbrev pub Sound : calls.State → Type 0
Sound (is_open d) = Unit {0}
Sound (is_closed d) = Unit {0}
Sound unlawful = ⊥

sound_marked : (m : Effect) (d : Doc) → Sound (marked_by m (is_open d))
unfolding marked_by mark_closed
sound_marked stays_open d = tt
sound_marked unchanged d = tt
sound_marked becomes_closed d = tt

pub step_sound : (last : Bool) (s : Bytes) (room : ℕ) (t : calls.State) → Sound t → Sound (call_step last s room t).behind
unfolding call_step refused_in refused marked_by
step_sound last s room unlawful h = h
step_sound last s room (is_closed d) h = tt
step_sound last s room (is_open d) h = go (call_step last s room (is_open d)) (reported last s room d)
  where
    go : (r : calls.Report) → Reported d r → Sound r.behind
    go r (did bytes e us d' c p q) = tt
    go r (gave x) = sound_marked (effect x) d

-- finish leaves the document closed, whatever it answers
pub finish-closes : (t : calls.State) → (call_finish t).behind ≡ mark_closed t
unfolding call_finish finished finish refused_in refused marked_by mark_closed require◌or◌
finish-closes unlawful = refl
finish-closes (is_closed d) = refl
finish-closes (is_open d) = go (is_empty d.frames && d.rooted)
  where
    go : (b : Bool) → (finished d (require b or NotWellFormed)).behind ≡ is_closed d
    go true = refl
    go false = refl

pub start_opens : (l : Bool) (m : Mode) (b : Option Bytes) (t : calls.State) → (call_start l m b t).answer ≡ 0
    → (may_start l b ≡ good tt) × ((call_start l m b t).behind ≡ is_open (fresh m b))
unfolding call_start calls.started refused
start_opens l m b t h = go (may_start l b) h
  where
    go : (a : Answer (Unit {0})) → (calls.started m b t a).answer ≡ 0 → (a ≡ good tt) × ((calls.started m b t a).behind ≡ is_open (fresh m b))
    go (refuse n) e = absurd (number_positive n e)
    go (good tt) e = (refl, refl)

-- ---- 3 is for what the rules do not allow

step_three : (last : Bool) (s : Bytes) (room : ℕ) (t : calls.State) → Sound t → (call_step last s room t).answer ≡ 3 → ⊥
step_three last s room t h e = go t h (given-only_when last s room t BadState refl e)
  where
    go : (t : calls.State) → Sound t → Why last s room t BadState → ⊥
    go t h no_state = h

finish_three : (t : calls.State) → Sound t → (call_finish t).answer ≡ 3 → ⊥
unfolding call_finish finished finish refused_in refused require◌or◌
finish_three unlawful h e = h
finish_three (is_closed d) h e = omega arith
finish_three (is_open d) h e = go (is_empty d.frames && d.rooted) e
  where
    go : (b : Bool) → (finished d (require b or NotWellFormed)).answer ≡ 3 → ⊥
    go true e = omega arith
    go false e = omega arith

start_three : (m : Mode) (b : Option Bytes) (t : calls.State) → (call_start true m b t).answer ≡ 3 → ⊥
unfolding call_start calls.started may_start refused ◌>>◌ require◌or◌
start_three m none t e = omega arith
start_three m (some b) t e = go (is_iri b) (leb (length b) most_name_bytes) e
  where
    go : (p q : Bool) → (calls.started m (some b) t ((require p or BadIri) >> (require q or OverLimit))).answer ≡ 3 → ⊥
    go true true e = omega arith
    go true false e = omega arith
    go false q e = omega arith

-- ---- what a call that is done leaves is by the rules

sound_lawful : (s : State) (w i : List ℕ) → Sound (meaning_of s w i) → lawful_state s w i ≡ true
sound_lawful s w i h = go (lawful_state s w i) refl
  where
    go : (b : Bool) → lawful_state s w i ≡ b → b ≡ true
    go true e = refl
    go false e = absurd (rw (means_unlawful s w i e) at h)

step_done : (last : Bool) (s : Bytes) (room : ℕ) (t : calls.State) → (call_step last s room t).answer ≡ 0 → Sound (call_step last s room t).behind
unfolding call_step refused_in refused
step_done last s room unlawful e = absurd (number_positive BadState e)
step_done last s room (is_closed d) e = step_sound last s room (is_closed d) tt
step_done last s room (is_open d) e = step_sound last s room (is_open d) tt

finish_done : (t : calls.State) → (call_finish t).answer ≡ 0 → Sound (call_finish t).behind
unfolding call_finish refused_in refused mark_closed
finish_done unlawful e = absurd (number_positive BadState e)
finish_done (is_closed d) e = rw (finish-closes (is_closed d)) tt
finish_done (is_open d) e = rw (finish-closes (is_open d)) tt

pub start_lawful : {mode : Mode} {based : Bool} {base : Bytes} {s : State} {w i : List ℕ} {r : Report} {w' : List ℕ}
    → Starts mode based base s w i r w' → r.answer ≡ Ok tt → lawful_state r.state w' i ≡ true
start_lawful x q = sound_lawful _ _ _ (rw (x.meets.behind, (start_opens _ _ _ _ (sym x.meets.answer ∙ ap number_of q)).1) tt)

pub step_lawful : {last : Bool} {input : Bytes} {s : State} {w i out : List ℕ} {r : Report} {w' i' out' : List ℕ}
    → Steps last input s w i out r w' i' out' → r.answer ≡ Ok tt → lawful_state r.state w' i' ≡ true
step_lawful x q = sound_lawful _ _ _ (rw x.meets.behind (step_done _ _ _ _ (sym x.meets.answer ∙ ap number_of q)))

pub finish_lawful : {s : State} {w i : List ℕ} {r : Report} → Finishes s w i r → r.answer ≡ Ok tt → lawful_state r.state w i ≡ true
finish_lawful x q = sound_lawful _ _ _ (rw x.meets.behind (finish_done _ (sym x.meets.answer ∙ ap number_of q)))

-- ---- a document

-- the calls from an accepted start on: state, work store and ID store as they are left, and all bytes that the steps wrote
pub data Ran (mode : Mode) (based : Bool) (base : Bytes) : State → List ℕ → List ℕ → Bytes → Type 0 where
  started : {s : State} {w i : List ℕ} {r : Report} {w' : List ℕ} → Starts mode based base s w i r w' → r.answer ≡ Ok tt → Ran mode based base r.state w' i []
  stepped : {s : State} {w i : List ℕ} {o : Bytes} {last : Bool} {input : Bytes} {out : List ℕ} {r : Report} {w' i' out' : List ℕ}
      → Ran mode based base s w i o → Steps last input s w i out r w' i' out'
      → Ran mode based base r.state w' i' (o ++ take r.written out')
  ended : {s : State} {w i : List ℕ} {o : Bytes} {r : Report} → Ran mode based base s w i o → Finishes s w i r → Ran mode based base r.state w i o
  -- a start that is refused changes nothing
  declined : {s : State} {w i : List ℕ} {o : Bytes} {m : Mode} {a : Bool} {b : Bytes} {r : Report} {w' : List ℕ}
      (n : Refusal)
      → Ran mode based base s w i o → Starts m a b s w i r w' → r.answer ≡ Err n
      → Ran mode based base r.state w' i o

-- further calls behind those of h
pub data Onward {mode : Mode} {based : Bool} {base : Bytes} {s : State} {w i : List ℕ} {o : Bytes}
    (h : Ran mode based base s w i o)
    : (s' : State) (w' i' : List ℕ) (o' : Bytes) → Ran mode based base s' w' i' o' → Type 0 where
  now : Onward h s w i o h
  and_stepped : {s' : State} {w' i' : List ℕ} {o' : Bytes} {k : Ran mode based base s' w' i' o'} {last : Bool} {input : Bytes} {out : List ℕ} {r : Report} {w'' i'' out'' : List ℕ}
      → Onward h s' w' i' o' k → (x : Steps last input s' w' i' out r w'' i'' out'') → Onward h r.state w'' i'' (o' ++ take r.written out'') (stepped k x)
  and_ended : {s' : State} {w' i' : List ℕ} {o' : Bytes} {k : Ran mode based base s' w' i' o'} {r : Report}
      → Onward h s' w' i' o' k → (x : Finishes s' w' i' r) → Onward h r.state w' i' o' (ended k x)
  and_declined : {s' : State} {w' i' : List ℕ} {o' : Bytes} {k : Ran mode based base s' w' i' o'} {m : Mode} {a : Bool} {b : Bytes} {r : Report} {w'' : List ℕ} (n : Refusal)
      → Onward h s' w' i' o' k → (x : Starts m a b s' w' i' r w'') (q : r.answer ≡ Err n) → Onward h r.state w'' i' o' (declined n k x q)

-- the same document at the same state or a later one
abbrev pub Later : {mode : Mode} {based : Bool} {base : Bytes} {s : State} {w i : List ℕ} {o : Bytes} {s' : State} {w' i' : List ℕ} {o' : Bytes}
    → Ran mode based base s w i o → Ran mode based base s' w' i' o' → Type 0
Later {s'} {w'} {i'} {o'} h k = Onward h s' w' i' o' k

pub later_still : {mode : Mode} {based : Bool} {base : Bytes} {s : State} {w i : List ℕ} {o : Bytes} {s' : State} {w' i' : List ℕ} {o' : Bytes}
    {h : Ran mode based base s w i o} {k : Ran mode based base s' w' i' o'} {s'' : State} {w'' i'' : List ℕ} {o'' : Bytes} {m : Ran mode based base s'' w'' i'' o''}
    → Later h k → Later k m → Later h m
later_still l now = l
later_still l (and_stepped j x) = and_stepped (later_still l j) x
later_still l (and_ended j x) = and_ended (later_still l j) x
later_still l (and_declined n j x q) = and_declined n (later_still l j) x q

-- the steps of `spec`, up to the mark that finish sets
pub record Follows (mode : Mode) (b : Option Bytes) (m : calls.State) (o : Bytes) : Type 0 where
  pub before : calls.State
  pub steps : spec.Steps mode b before o
  pub same : (m ≡ before) ⊎ (m ≡ mark_closed before)

closed-steps : {mode : Mode} {b : Option Bytes} {o : Bytes} (last : Bool) (s : Bytes) (room : ℕ) (t : calls.State)
    → spec.Steps mode b t o
    → Follows mode b (call_step last s room (mark_closed t)).behind (o ++ (call_step last s room (mark_closed t)).output)
unfolding call_step refused_in refused marked_by mark_closed
closed-steps last s room (is_open d) h = rw append-nil (record { before = is_open d; steps = h; same = inr refl })
closed-steps last s room (is_closed d) h = rw append-nil (record { before = is_closed d; steps = h; same = inr refl })
closed-steps {mode} {b} {o} last s room unlawful h = absurd (always_lawful mode b o h)

follows-step : {mode : Mode} {b : Option Bytes} {m : calls.State} {o : Bytes} (last : Bool) (s : Bytes) (room : ℕ)
    → Follows mode b m o
    → Follows mode b (call_step last s room m).behind (o ++ (call_step last s room m).output)
follows-step {mode} {b} {m} {o} last s room f = go f.same
  where
    go : (m ≡ f.before) ⊎ (m ≡ mark_closed f.before) → Follows mode b (call_step last s room m).behind (o ++ (call_step last s room m).output)
    go (inl e) = rw e (record { before = (call_step last s room f.before).behind; steps = and_step f.steps last s room; same = inl refl })
    go (inr e) = rw e (closed-steps last s room f.before f.steps)

twice : (t : calls.State) → mark_closed (mark_closed t) ≡ mark_closed t
unfolding mark_closed
twice (is_open d) = refl
twice (is_closed d) = refl
twice unlawful = refl

follows_end : {mode : Mode} {b : Option Bytes} {m : calls.State} {o : Bytes} → Follows mode b m o
    → Follows mode b (call_finish m).behind o
follows_end {b} {m} {o} f = rw (finish-closes m) (record { before = f.before; steps = f.steps; same = inr (go f.same) })
  where
    go : (m ≡ f.before) ⊎ (m ≡ mark_closed f.before) → mark_closed m ≡ mark_closed f.before
    go (inl e) = rw e
    go (inr e) = rw e (twice f.before)

-- a run of calls is a row of `spec`'s steps
pub follows : {mode : Mode} {based : Bool} {base : Bytes} {s : State} {w i : List ℕ} {o : Bytes} → Ran mode based base s w i o → Follows mode (base_of based base) (meaning_of s w i) o
follows (started x q) =
    let k = start_opens _ _ _ _ (sym x.meets.answer ∙ ap number_of q) in
    record { before = _; steps = at_start; same = inl (x.meets.behind ∙ k.1) }
follows (stepped h x) = rw (x.meets.behind, wrote_front x.meets.wrote) (follows-step _ _ _ (follows h))
follows (ended h x) = rw x.meets.behind (follows_end (follows h))
follows (declined n h x q) = let k = x.meets.kept n q in rw (k.state, k.work) (follows h)

-- ---- no call of a document answers 3

steps_sound : {mode : Mode} {b : Option Bytes} {o : Bytes} (t : calls.State) → spec.Steps mode b t o
    → Sound t × Sound (mark_closed t)
unfolding mark_closed
steps_sound (is_open d) h = (tt, tt)
steps_sound (is_closed d) h = (tt, tt)
steps_sound {mode} {b} {o} unlawful h = absurd (always_lawful mode b o h)

-- the state behind each call is by the rules
pub ran_sound : {mode : Mode} {based : Bool} {base : Bytes} {s : State} {w i : List ℕ} {o : Bytes} → Ran mode based base s w i o → Sound (meaning_of s w i)
ran_sound {s = s} {w = w} {i = i} h = go (follows h).same
  where
    go : (meaning_of s w i ≡ (follows h).before) ⊎ (meaning_of s w i ≡ mark_closed (follows h).before) → Sound (meaning_of s w i)
    go (inl e) = rw e (steps_sound (follows h).before (follows h).steps).0
    go (inr e) = rw e (steps_sound (follows h).before (follows h).steps).1

lawful_lengths : (s : State) (w i : List ℕ) → lawful_state s w i ≡ true → lengths_right w i ≡ true
unfolding lawful_state valid_ids work_store_bytes id_store_bytes
lawful_lengths s w i h =
    let v = state.valid_is s.registers s.frames s.bindings s.inners w (and_left _ _ h) in
    let k : eqb (length i) 32_768 ≡ true = and_left _ _ (and_right (valid_state s.registers s.frames s.bindings s.inners w) _ h) in
    rw (eq-eqb (length w) 65_536 v.store) k

module _ {mode : Mode} {based : Bool} {base : Bytes} {s : State} {w i : List ℕ} {o : Bytes}
    (h : Ran mode based base s w i o) {r : Report} where
  pub step_never_three : {last : Bool} {input : Bytes} {out w' i' out' : List ℕ} → Steps last input s w i out r w' i' out' → number_of r.answer ≡ 3 → ⊥
  step_never_three x e = step_three _ _ _ _ (ran_sound h) (sym x.meets.answer ∙ e)

  pub finish_never_three : Finishes s w i r → number_of r.answer ≡ 3 → ⊥
  finish_never_three x e = finish_three _ (ran_sound h) (sym x.meets.answer ∙ e)

  -- a further start too, whatever its mode and base
  pub start_never_three : {m : Mode} {a : Bool} {b : Bytes} {w' : List ℕ} → Starts m a b s w i r w'
      → number_of r.answer ≡ 3 → ⊥
  start_never_three {m} {a} {b} x e =
      let right : true ≡ lengths_right w i = sym (lawful_lengths s w i (sound_lawful s w i (ran_sound h))) in
      start_three m (base_of a b) (meaning_of s w i)
      (ap (λ (l : Bool). (call_start l m (base_of a b) (meaning_of s w i)).answer) right ∙ (sym x.meets.answer ∙ e))

-- ---- what no step answers in a mode, by the definitions, none of the calls answers there

-- behind the mark that finish sets there is 4 alone, and 3 without a document
closed_low : (last : Bool) (s : Bytes) (room : ℕ) (t : calls.State) → (call_step last s room (mark_closed t)).answer ≤ 4
unfolding call_step refused_in refused mark_closed
closed_low last s room (is_open d) = omega arith
closed_low last s room (is_closed d) = omega arith
closed_low last s room unlawful = omega arith

-- no step of the definitions answers n
abbrev pub NeverIn : Mode → Option Bytes → ℕ → Type 0
NeverIn mode b n = (t : calls.State) (o : Bytes) → spec.Steps mode b t o
    → (last : Bool) (s : Bytes) (room : ℕ) → (call_step last s room t).answer ≡ n → ⊥

follows_never : {mode : Mode} {b : Option Bytes} {m : calls.State} {o : Bytes} {n : ℕ} → NeverIn mode b n → 4 < n
    → (last : Bool) (s : Bytes) (room : ℕ) → Follows mode b m o → (call_step last s room m).answer ≡ n → ⊥
follows_never {m = m} {o = o} never above last s room f e = go f.same
  where
    go : (m ≡ f.before) ⊎ (m ≡ mark_closed f.before) → ⊥
    go (inl q) = never f.before o f.steps last s room (rw q at e)
    go (inr q) = let k = closed_low last s room f.before in omega (arith, above, k, rw q at e)

pub step_never : {mode : Mode} {based : Bool} {base : Bytes} {s : State} {w i : List ℕ} {o : Bytes} {n : ℕ}
    → NeverIn mode (base_of based base) n → 4 < n → Ran mode based base s w i o
    → {last : Bool} {input : Bytes} {out : List ℕ} {r : Report} {w' i' out' : List ℕ}
    → Steps last input s w i out r w' i' out' → number_of r.answer ≡ n → ⊥
step_never never above h x e = follows_never never above _ _ _ (follows h) (sym x.meets.answer ∙ e)

-- ---- 19 is the profile's: no call of a document in the base mode answers it

pub step_never_nineteen : {based : Bool} {base : Bytes} {s : State} {w i : List ℕ} {o : Bytes}
    → Ran base_mode based base s w i o
    → {last : Bool} {input : Bytes} {out : List ℕ} {r : Report} {w' i' out' : List ℕ}
    → Steps last input s w i out r w' i' out' → number_of r.answer ≡ 19 → ⊥
step_never_nineteen {based} {base} h = step_never (base_never_19 (base_of based base)) (omega arith) h

-- finish and start answer no such number, whatever they are handed
finish_low : (t : calls.State) → (call_finish t).answer ≤ 6
unfolding call_finish finished finish refused_in refused require◌or◌
finish_low unlawful = omega arith
finish_low (is_closed d) = omega arith
finish_low (is_open d) = go (is_empty d.frames && d.rooted)
  where
    go : (b : Bool) → (finished d (require b or NotWellFormed)).answer ≤ 6
    go true = omega arith
    go false = omega arith

start_low : (l : Bool) (m : Mode) (b : Option Bytes) (t : calls.State) → (call_start l m b t).answer ≤ 11
unfolding call_start calls.started may_start refused ◌>>◌ require◌or◌
start_low false m none t = omega arith
start_low true m none t = omega arith
start_low false m (some b) t = omega arith
start_low true m (some b) t = go (is_iri b) (leb (length b) most_name_bytes)
  where
    go : (p q : Bool) → (calls.started m (some b) t ((require p or BadIri) >> (require q or OverLimit))).answer ≤ 11
    go true true = omega arith
    go true false = omega arith
    go false q = omega arith

pub finish_never_nineteen : {s : State} {w i : List ℕ} {r : Report} → Finishes s w i r → number_of r.answer ≡ 19 → ⊥
finish_never_nineteen {s} {w} {i} x e = omega (arith, finish_low (meaning_of s w i), x.meets.answer, e)

pub start_never_nineteen : {m : Mode} {a : Bool} {b : Bytes} {s : State} {w i : List ℕ} {r : Report} {w' : List ℕ}
    → Starts m a b s w i r w' → number_of r.answer ≡ 19 → ⊥
start_never_nineteen {m} {a} {b} {s} {w} {i} x e =
    omega (arith, start_low (lengths_right w i) m (base_of a b) (meaning_of s w i), x.meets.answer, e)
