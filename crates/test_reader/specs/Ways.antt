-- A document on its way through the calls: each turn leads to where the run of the definitions comes to.
use Rattle.std.specs.Prelude.{ℕ, zero, suc, ◌+◌, ◌-◌, ◌≤◌, ◌<◌, min, ◌≡◌, refl, ◌⊎◌, Bool, true, false, ◌&&◌, List, [], eqb, length, drop}
use Rattle.std.proofs.Common.{sym, ◌∙◌, inl, inr, arith, length-drop, drop-drop, eq-eqb, ne_eqb}
use Rattle.std.proofs.Math.Option.{Option}
use Rattle.std.proofs.Math.Nat.{min-eq_left, min-le_right}
use Rattle.spec.specs.Bytes.{Bytes, same, begins}
use Rattle.spec.specs.Numbers.{Answer, refuse, good}
use Rattle.spec.specs.declared.Mode.{Mode}
use Rattle.spec.specs.Document.{fresh}
use Rattle.spec.specs.Calls.{is_open, no_document, call_start, call_step}
use Rattle.spec.specs.Calls as calls
use Rattle.theorems.specs.Calls.{number_positive, step_takes}
use Rattle.copy.specs.Copy.{wrote_front}
use Rattle.state_words.specs.Words.{pick}
use Rattle.reader_contract.specs.declared.State.{State}
use Rattle.reader_contract.specs.declared.Report.{Report}
use Rattle.reader_contract.specs.Meaning.{base_of, meaning_of}
use Rattle.reader_contract.specs.Meets.{number_of, lengths_right, Starts, Steps, Finishes}
use Rattle.test_reader.specs.declared.replay.Way.{Way}
use Rattle.test_reader.specs.declared.replay.Ended.{Ended}
use Rattle.test_reader.specs.Lines.{part_of, part-rest, part_front}
use Rattle.test_reader.specs.Ends.{steps, last_number, last_state, Comes, Came, same_none, comes_on, comes_refused, comes_over}

-- ---- the ways that the calls make

abbrev pub advanced : Way → Report → ℕ → Bytes → Bytes → Way
advanced way r most e out =
    record {
      state = r.state;
      number = 0;
      over = false;
      at = min (way.at + r.consumed) most;
      seen = min (way.seen + r.written) (length e);
      same = way.same && begins (part_of 0 r.written out) (part_of way.seen (length e) e);
    }

abbrev pub stopped : Way → State → ℕ → Way
stopped way s n = record { state = s; number = n; over = true; at = way.at; seen = way.seen; same = way.same }

pub record Finished (way : Way) (s : State) (w i : List ℕ) (way' : Way) : Type 0 where
  pub report : Report
  pub finishes : Finishes s w i report
  pub is : way' ≡ stopped way report.state (number_of report.answer)

-- ---- where a way leads

-- to this number and state, and to whether all lines are as expected
abbrev pub Leads : Bool → ℕ → Bytes → Bytes → ℕ → calls.State → Bool → Way → calls.State → Type 0
Leads false room input e k t v way q = Comes (steps room (drop way.at input) q) (drop way.seen e) way.same k t v
Leads true room input e k t v way q = Came way.number q way.same way.seen e k t v

pub record Along (room : ℕ) (input e : Bytes) (k : ℕ) (t : calls.State) (v : Bool) (way : Way) (w i : List ℕ) : Type 0 where
  pub within : way.at ≤ length input
  pub shown : way.seen ≤ length e
  pub leads : Leads way.over room input e k t v way (meaning_of way.state w i)

-- a turn leads to the same, and further
pub record Turns (room : ℕ) (input e : Bytes) (way : Way) (w i : List ℕ) (way' : Way) (w' i' : List ℕ) : Type 0 where
  pub keeps : (k : ℕ) (t : calls.State) (v : Bool) → way.over ≡ false → Along room input e k t v way w i → Along room input e k t v way' w' i'
  pub further : way.at ≤ length input → (way'.over ≡ true) ⊎ (way.at < way'.at)

-- at the start of it, and at its end
abbrev pub way_of : State → Way
way_of s = record { state = s; number = 0; over = false; at = 0; seen = 0; same = true }

abbrev pub ended_of : Way → ℕ → Ended
ended_of way n = record { state = way.state; number = way.number; same = way.same && eqb way.seen n }

-- ---- what is promised

-- a document goes on from a state
pub record Ends (room : ℕ) (input e : Bytes) (q : calls.State) (r : Ended) (w i : List ℕ) : Type 0 where
  pub number : r.number ≡ last_number (steps room input q)
  pub lines : r.same ≡ same (steps room input q).output e
  pub behind : meaning_of r.state w i ≡ last_state (steps room input q)

-- a whole document: a refused start is its end
pub record Runs (mode : Mode) (room : ℕ) (lengths : Bool) (base : Option Bytes) (input e : Bytes)
    (r : Ended) : Type 0 where
  pub number : r.number ≡ pick (eqb (call_start lengths mode base no_document).answer 0) (last_number (steps room input (is_open (fresh mode base)))) (call_start lengths mode base no_document).answer
  pub lines : r.same ≡ same (pick (eqb (call_start lengths mode base no_document).answer 0) (steps room input (is_open (fresh mode base))).output []) e

-- ---- a step, in the words of the definitions

record Told (d : calls.Report) (r : Report) (w' i' out' : List ℕ) : Type 0 where
  answer : number_of r.answer ≡ d.answer
  consumed : r.consumed ≡ d.consumed
  written : r.written ≡ length d.output
  lines : part_of 0 r.written out' ≡ d.output
  behind : meaning_of r.state w' i' ≡ d.behind

module _ (input : Bytes) (s : State) {w i out : List ℕ} {r : Report} {w' i' out' : List ℕ} (at : ℕ) (h : at ≤ length input) (x : Steps true (part_of at (length input) input) s w i out r w' i' out') where
  told : Told (call_step true (drop at input) (length out) (meaning_of s w i)) r w' i' out'
  told =
      let y = (rw (part-rest input at h) at x).meets in
      record {
        answer = y.answer;
        consumed = y.consumed;
        written = omega (arith, y.wrote.up);
        lines = part_front out' r.written (omega (arith, y.wrote.room, y.wrote.up, y.room)) ∙ wrote_front y.wrote;
        behind = y.behind;
      }

  -- what an event consumes is there
  takes : number_of r.answer ≡ 0 → (0 < r.consumed) × (at + r.consumed ≤ length input)
  takes z =
      let y = told in
      let t = step_takes true (drop at input) (length out) (meaning_of s w i) (sym y.answer ∙ z) in
      let a : 1 ≤ (call_step true (drop at input) (length out) (meaning_of s w i)).consumed = t.some in
      let b : (call_step true (drop at input) (length out) (meaning_of s w i)).consumed ≤ length (drop at input) = t.at_most in
      (omega (arith, y.consumed), omega (arith, y.consumed, length-drop at input))

-- ---- a turn

only_one : (n : ℕ) → (n ≡ 0 → ⊥) → n ≤ 1 → n ≡ 1
only_one zero y z = absurd (y refl)
only_one (suc n) y z = omega arith

pub advance_is : (way : Way) (r : Report) (most : ℕ) (e out : Bytes) {at seen : ℕ} {l p : Bytes} {b : Bool} → l ≡ part_of way.seen (length e) e → p ≡ part_of 0 r.written out → b ≡ begins p l
    → at ≡ min (way.at + r.consumed) most → seen ≡ min (way.seen + r.written) (length e)
    → ◌≡◌ {A = Way} (record { state = r.state; number = 0; over = false; at = at; seen = seen; same = way.same && b }) (advanced way r most e out)
advance_is way r most e out x y z u v = rw (z, x, y, u, v)

module _ (input : Bytes) (way : Way) {w i out : List ℕ} {r : Report} {w' i' out' : List ℕ} {l : Bytes} {n : ℕ} (p : l ≡ part_of way.at (length input) input)
    (x : Steps true l way.state w i out r w' i' out') (u : n ≡ number_of r.answer) where
  handed : Steps true (part_of way.at (length input) input) way.state w i out r w' i' out'
  handed = rw p at x

  pub turn_done : {e : Bytes} {way' : Way} → n ≡ 0 → way' ≡ advanced way r (length input) e out' → Turns (length out) input e way w i way' w' i'
  turn_done {e} z is = rw is (record { keeps = λ k t v o a. keeps k t v o a; further = λ h. inr (omega (arith, taken h, min-eq_left (taken h).1)) })
    where
      taken : way.at ≤ length input → (0 < r.consumed) × (way.at + r.consumed ≤ length input)
      taken h = takes input way.state way.at h handed (sym u ∙ z)

      keeps : (k : ℕ) (t : calls.State) (v : Bool) → way.over ≡ false → Along (length out) input e k t v way w i
          → Along (length out) input e k t v (advanced way r (length input) e out') w' i'
      keeps k t v o a =
          let y = told input way.state way.at a.within handed in
          let g = comes_on (length out) (drop way.at input) (meaning_of way.state w i) e way.seen a.shown (rw o at a.leads) (sym y.answer ∙ (sym u ∙ z)) in
          record {
            within = min-le_right _ _;
            shown = min-le_right _ _;
            leads = rw (min-eq_left (taken a.within).1, ← drop-drop r.consumed way.at input, y.consumed, y.behind, y.lines, y.written, part-rest e way.seen a.shown) g;
          }

  pub turn-refused : {e : Bytes} {way' : Way} → 1 < n → way' ≡ stopped way r.state n → Turns (length out) input e way w i way' w' i'
  turn-refused {e} z is = rw is (record { keeps = λ k t v o a. keeps k t v o a; further = λ h. inl refl })
    where
      keeps : (k : ℕ) (t : calls.State) (v : Bool) → way.over ≡ false → Along (length out) input e k t v way w i → Along (length out) input e k t v (stopped way r.state n) w' i'
      keeps k t v o a =
          let y = told input way.state way.at a.within handed in
          let g = comes_refused (length out) (drop way.at input) (meaning_of way.state w i) e way.seen a.shown (rw o at a.leads) (rw (u ∙ y.answer) at z) in
          record { within = a.within; shown = a.shown; leads = rw (u ∙ y.answer, y.behind) g }

  pub turn_over : {e : Bytes} {way' : Way} → (n ≡ 0 → ⊥) → n ≤ 1 → Finished way r.state w' i' way' → Turns (length out) input e way w i way' w' i'
  turn_over {e} y z f = rw f.is (record { keeps = λ k t v o a. keeps k t v o a; further = λ h. inl refl })
    where
      keeps : (k : ℕ) (t : calls.State) (v : Bool) → way.over ≡ false → Along (length out) input e k t v way w i
          → Along (length out) input e k t v (stopped way f.report.state (number_of f.report.answer)) w' i'
      keeps k t v o a =
          let d = told input way.state way.at a.within handed in
          let one : number_of r.answer ≡ 1 = sym u ∙ only_one n y z in
          let g = comes_over (length out) (drop way.at input) (meaning_of way.state w i) e way.seen a.shown (rw o at a.leads) (sym d.answer ∙ one) in
          let m = f.finishes.meets in
          record { within = a.within; shown = a.shown; leads = rw (m.answer, m.behind, d.behind) g }

-- the turns that are left, at most
abbrev pub left_in : Bytes → Way → ℕ
left_in input way = pick way.over 0 (suc (length input - way.at))

pub turn_less : {room : ℕ} {input e : Bytes} {way : Way} {w i : List ℕ} {way' : Way} {w' i' : List ℕ} {k : ℕ} {t : calls.State} {v : Bool}
    → Turns room input e way w i way' w' i' → way.over ≡ false → Along room input e k t v way w i → left_in input way' < left_in input way
turn_less {input = input} {way = way} {way' = way'} x o a = rw o (go way'.over refl (x.further a.within))
  where
    go : (b : Bool) → way'.over ≡ b → (way'.over ≡ true) ⊎ (way.at < way'.at) → pick b 0 (suc (length input - way'.at)) < suc (length input - way.at)
    go true q f = omega arith
    go false q (inl f) = let z : ◌≡◌ {A = ℕ} 0 1 = cc in absurd (omega arith)
    go false q (inr f) = omega (arith, (x.keeps _ _ _ o a).within)

-- ---- a document

-- along the run from a first state, with what is lent as long as it was
pub record Going (input e : Bytes) (s : State) (w₀ i₀ o₀ : List ℕ) (way : Way) (w i out : List ℕ) : Type 0 where
  pub work : length w ≡ length w₀
  pub ids : length i ≡ length i₀
  pub room : length out ≡ length o₀
  pub along : Along (length o₀) input e (last_number (steps (length o₀) input (meaning_of s w₀ i₀))) (last_state (steps (length o₀) input (meaning_of s w₀ i₀)))
      (same (steps (length o₀) input (meaning_of s w₀ i₀)).output e) way w i

pub going_first : {input e : Bytes} (s : State) {w i out : List ℕ} {way : Way} → way ≡ way_of s → Going input e way.state w i out way w i out
going_first s is =
    rw is (record { work = refl; ids = refl; room = refl; along = record { within = omega arith; shown = omega arith; leads = record { number = refl; behind = refl; lines = refl } } })

module _ {input e : Bytes} {s : State} {w₀ i₀ o₀ : List ℕ} {way : Way} {w i out : List ℕ} (g : Going input e s w₀ i₀ o₀ way w i out) where
  module _ (o : way.over ≡ false) {way' : Way} {w' i' : List ℕ} (t : Turns (length out) input e way w i way' w' i') where
    pub going_on : {out' : List ℕ} → length w' ≡ length w → length i' ≡ length i → length out' ≡ length out → Going input e s w₀ i₀ o₀ way' w' i' out'
    going_on p q r = record { work = p ∙ g.work; ids = q ∙ g.ids; room = r ∙ g.room; along = (rw g.room at t).keeps _ _ _ o g.along }

    pub going_less : left_in input way' < left_in input way
    going_less = turn_less (rw g.room at t) o g.along

  pub going_ended : {first : State} → s ≡ first → way.over ≡ true → {r : Ended} → r ≡ ended_of way (length e) → Ends (length o₀) input e (meaning_of first w₀ i₀) r w i
  going_ended f o is =
      let c : Came way.number _ way.same way.seen _ _ _ _ = rw o at g.along.leads in
      rw (is, ← f) (record { number = c.number; lines = c.lines; behind = c.behind })

start_number : (l : Bool) (m : Mode) (b : Option Bytes) (p q : calls.State)
    → (call_start l m b p).answer ≡ (call_start l m b q).answer
unfolding call_start calls.started calls.refused
start_number l m b p q = go (calls.may_start l b)
  where
    go : (a : Answer (Unit {0})) → (calls.started m b p a).answer ≡ (calls.started m b q a).answer
    go (refuse n) = refl
    go (good tt) = refl

start_opens : (l : Bool) (m : Mode) (b : Option Bytes) (q : calls.State)
    → (call_start l m b q).answer ≡ 0 → (call_start l m b q).behind ≡ is_open (fresh m b)
unfolding call_start calls.started calls.refused
start_opens l m b q h = go (calls.may_start l b) h
  where
    go : (a : Answer (Unit {0})) → (calls.started m b q a).answer ≡ 0
        → (calls.started m b q a).behind ≡ is_open (fresh m b)
    go (refuse n) e = absurd (number_positive n e)
    go (good tt) e = refl

module _ {mode : Mode} {based : Bool} {base : Bytes} {s : State} {w i : List ℕ} {r : Report} {w' : List ℕ}
    (x : Starts mode based base s w i r w') where
  started : (call_start (lengths_right w i) mode (base_of based base) no_document).answer ≡ number_of r.answer
  started =
      start_number (lengths_right w i) mode (base_of based base) no_document (meaning_of s w i) ∙ sym x.meets.answer

  module _ {n : ℕ} (u : n ≡ number_of r.answer) where
    pub run-refused : {room : ℕ} {input e : Bytes} → 0 < n → Runs mode room (lengths_right w i) (base_of based base) input e (record { state = r.state; number = n; same = eqb 0 (length e) })
    run-refused {e = e} z =
        let f : eqb (call_start (lengths_right w i) mode (base_of based base) no_document).answer 0 ≡ false = ne_eqb (call_start (lengths_right w i) mode (base_of based base) no_document).answer 0 (λ y. omega (arith, started)) in
        record { number = rw f (u ∙ sym started); lines = rw f (sym (same_none e 0 (omega arith))) }

    pub run_done : {room : ℕ} {input e : Bytes} → n ≤ 0 → {x : Ended} {w'' i'' : List ℕ} → Ends room input e (meaning_of r.state w' i) x w'' i'' → Runs mode room (lengths_right w i) (base_of based base) input e x
    run_done z y =
        let o : number_of r.answer ≡ 0 = omega arith in
        let f : eqb (call_start (lengths_right w i) mode (base_of based base) no_document).answer 0 ≡ true = eq-eqb _ 0 (started ∙ o) in
        let p : meaning_of r.state w' i ≡ is_open (fresh mode (base_of based base)) = x.meets.behind ∙ start_opens _ _ _ _ (sym x.meets.answer ∙ o) in
        record { number = rw (f, ← p) y.number; lines = rw (f, ← p) y.lines }
