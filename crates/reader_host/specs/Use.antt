-- The rules of use that host/iceshaft.h states, as theorems about the contracts.
use Rattle.std.specs.Prelude.{ℕ, suc, ◌≤◌, ◌≡◌, refl, Bool, true, false, ◌&&◌, List, [], ◌∷◌, ◌++◌, eqb, leb, ltb, length, set}
use Rattle.std.proofs.Common.{sym, ap, ◌∙◌, arith, eqb-true, leb-true, leb-false, ltb-false}
use Rattle.std.proofs.Math.Option.{Option, none, some}
use Rattle.std.proofs.lemmas.Bool.{eqb-false}
use Rattle.spec.specs.Bytes.{Bytes, byte, when◌then◌else◌}
use Rattle.spec.specs.Limits.{most_event_bytes}
use Rattle.spec.specs.Numbers.{number, closes}
use Rattle.spec.specs.declared.Refusal.{Refusal}
use Rattle.spec.specs.declared.Refusal.TheVariants.{Incomplete}
use Rattle.spec.specs.PyxCut.{goes_on, Ending, sure, line_end, mid_line, in_front, reach, wait, too_long, ended, in_length, cut}
use Rattle.spec.specs.Calls.{call_step}
use Rattle.spec.specs.Calls as calls
use Rattle.spec.proofs.Booleans.{and_left, and_right}
use Rattle.theorems.specs.Calls.{step_by_table, zero_counts}
use Rattle.theorems.specs.Refusals.{Why, no_event, given-only_when}
use Rattle.state_words.specs.Words.{pick}
use Rattle.reader_contract.specs.declared.State.{State}
use Rattle.reader_contract.specs.declared.Report.{Report}
use Rattle.reader_contract.specs.Meaning.{closed_state, marked, meaning_of}
use Rattle.reader_contract.specs.Meets.{number_of, closing_numbers, Meets}
use Rattle.reader_host.specs.Little.{little, rows}
use Rattle.reader_host.specs.Image.{flag, state_bytes, mode_of, numbers_of, encode, decode}
use Rattle.reader_host.specs.Meets.{Stands, Begins, StartsIn, StepsIn, FinishesIn}
use Rattle.std.specs.Prelude.{Result, Ok, Err}

-- ---- the closing mark in the bytes

-- the first byte says whether a document is closed
abbrev pub closed_bytes : Bytes → Bytes
closed_bytes b = set b 0 1

-- 5 and more close
abbrev pub marked_bytes : ℕ → Bytes → Bytes
marked_bytes n b = pick (ltb 4 n) (closed_bytes b) b

mark_first : (c : Bool) (r t : Bytes) → (little 8 1 ++ r) ++ t ≡ closed_bytes ((little 8 (flag c) ++ r) ++ t)
unfolding little
mark_first true r t = refl
mark_first false r t = refl

encode-closed : (s : State) → encode (closed_state s) ≡ closed_bytes (encode s)
unfolding encode numbers_of rows
encode-closed s = mark_first s.registers.flags.closed _ _

encode-marked : (k : Refusal) (s : State) → encode (marked k s) ≡ marked_bytes (number k) (encode s)
unfolding marked
encode-marked k s = rw (closing_numbers k) (go (closes k))
  where
    go : (c : Bool) → encode (pick c (closed_state s) s) ≡ pick c (closed_bytes (encode s)) (encode s)
    go true = encode-closed s
    go false = refl

-- ---- a refusal

-- an answer that is not 0
refusal : (a : Result Unit Refusal) → (number_of a ≡ 0 → ⊥) → (k : Refusal) × (a ≡ Err k)
refusal (Ok _) h = absurd (h refl)
refusal (Err k) h = (k, refl)

-- nothing is consumed and nothing written; all stays but the mark
pub record Leaves (b w i out : List ℕ) (n c k : ℕ) (b' w' i' out' : List ℕ) : Type 0 where
  pub consumed : c ≡ 0
  pub written : k ≡ 0
  pub state : b' ≡ marked_bytes n b
  pub work : w' ≡ w
  pub ids : i' ≡ i
  pub output : out' ≡ out

-- by cases on what the bytes stand for
pub by_state : {A : Type 0} (b : Bytes) → (decode b ≡ none → A) → ((s : State) → decode b ≡ some s → A) → A
by_state {A} b f g = go (decode b) refl
  where
    go : (o : Option State) → decode b ≡ o → A
    go none e = f e
    go (some s) e = g s e

-- what a call of `reader` that is refused leaves in the bytes
left : {b b' w i out w' i' out' : Bytes} {n : ℕ} (s : State) (r : Report) {d : calls.Report} → b ≡ encode s → Stands b' r.state → n ≡ number_of r.answer → (n ≡ 0 → ⊥)
    → Meets d (λ k. marked k s) w i out r w' i' out' → (b' ≡ marked_bytes n b) × (w' ≡ w) × (i' ≡ i) × (out' ≡ out)
left {b} {n = n} s r e d q z m =
    let x = refusal r.answer (λ h. z (q ∙ h)) in
    let k = m.kept x.0 x.1 in
    let p : n ≡ number x.0 = q ∙ ap number_of x.1 in
    (d.written ∙ (ap encode k.state ∙ (encode-marked x.0 s ∙ (ap (λ (m : ℕ). marked_bytes m (encode s)) (sym p) ∙ ap (marked_bytes n) (sym e)))), k.work, k.ids, k.output)

pub step_leaves : {last : Bool} {input b w i out : Bytes} {n c k : ℕ} {b' w' i' out' : Bytes} → StepsIn last input b w i out n c k b' w' i' out' → (n ≡ 0 → ⊥) → Leaves b w i out n c k b' w' i' out'
step_leaves {last} {input} {b} {w} {i} {out} {n} {c} {k} {b'} {w'} {i'} {out'} x z = by_state b none-case some-case
  where
    none-case : decode b ≡ none → Leaves b w i out n c k b' w' i' out'
    none-case e =
        let h = x.bad e in
        record { consumed = h.1; written = h.2; state = rw h.0 h.3.state; work = h.3.work; ids = h.3.ids; output = h.3.output }

    some-case : (s : State) → decode b ≡ some s → Leaves b w i out n c k b' w' i' out'
    some-case s e =
        let h = x.good s e in
        let m = h.call.0.meets in
        let y = left s h.report h.before h.behind h.answer z m in
        let t = call_step last input (length out) (meaning_of s w i) in
        let o = zero_counts (meaning_of s w i) t (step_by_table last input (length out) (meaning_of s w i)) (λ q. z (h.answer ∙ (m.answer ∙ q))) in
        record {
          consumed = h.call.1 ∙ (m.consumed ∙ o.0);
          written = h.call.2 ∙ (m.wrote.up ∙ rw o.1);
          state = y.0;
          work = y.1;
          ids = y.2;
          output = y.3;
        }

pub finish_leaves : {b w i : Bytes} {n : ℕ} {b' : Bytes} → FinishesIn b w i n b' → (n ≡ 0 → ⊥) → b' ≡ marked_bytes n b
finish_leaves {b} {w} {i} {n} {b'} x z =
    by_state b (λ e. rw (x.bad e).0 (x.bad e).1) (λ s e. let h = x.good s e in (left s h.report h.before h.behind h.answer z h.call.meets).0)

-- what start asks before all else: the buffer has its length, and the number is a mode's
abbrev pub fitting : ℕ → Bytes → Bool
fitting mode b = eqb (length b) state_bytes && leb mode 1

module _ {mode : ℕ} {based : Bool} {base b w i : Bytes} {n : ℕ} {b' w' : Bytes}
    (x : StartsIn mode based base b w i n b' w') where
  pub start_fits : fitting mode b ≡ true → Begins (mode_of mode) based base b w i n b' w'
  start_fits e =
      x.good (eqb-true (length b) 11_128 (and_left _ _ e)) (leb-true mode 1 (and_right (eqb (length b) 11_128) _ e))

  pub start_unfit : fitting mode b ≡ false → (n ≡ 3) × (b' ≡ b) × (w' ≡ w)
  start_unfit = go (eqb (length b) 11_128) refl
    where
      go : (l : Bool) → eqb (length b) 11_128 ≡ l → (l && leb mode 1) ≡ false → (n ≡ 3) × (b' ≡ b) × (w' ≡ w)
      go false e q = x.bad (eqb-false (length b) 11_128 e)
      go true e q = x.unknown (leb-false mode 1 q)

-- a refused start changes nothing
pub start_leaves : {mode : ℕ} {based : Bool} {base b w i : Bytes} {n : ℕ} {b' w' : Bytes} → StartsIn mode based base b w i n b' w' → (n ≡ 0 → ⊥)
    → (b' ≡ b) × (w' ≡ w)
start_leaves {mode} {b = b} {w = w} {n = n} {b' = b'} {w' = w'} x z = go (fitting mode b) refl
  where
    go : (l : Bool) → fitting mode b ≡ l → (b' ≡ b) × (w' ≡ w)
    go false e = let h = start_unfit x e in (h.1, h.2)
    go true e =
        let h = start_fits x e in
        let q = refusal h.report.answer (λ y. z (h.answer ∙ y)) in
        (h.refused q.0 q.1, (h.call.meets.kept q.0 q.1).work)

-- ---- 1 is not given with more than 32,768 bytes at hand

-- all bytes that are at hand surely belong to the event
reach_all : (c : ℕ) (l : Bool) (s : Bytes) → ((reach c l s).1 ≡ sure → ⊥) → length (reach c l s).0 ≡ length s
unfolding reach in_front
reach_all c true [] h = refl
reach_all c false [] h = refl
reach_all c true (b ∷ s) h = go (goes_on c b) refl (reach_all c false s) h
  where
    go : (g : Bool) → goes_on c b ≡ g → (((reach c false s).1 ≡ sure → ⊥) → length (reach c false s).0 ≡ length s) → ((reach c true (b ∷ s)).1 ≡ sure → ⊥)
        → length (reach c true (b ∷ s)).0 ≡ suc (length s)
    go true e f h = rw (e, reach) (ap suc (f (rw (e, reach) at h)))
    go false e f h = absurd (h (rw (e, reach) refl))
reach_all c false (b ∷ s) h = ap suc (reach_all c (eqb b (byte "\n")) s h)

ended_wait : (last : Bool) (r : Bytes × Ending) → ended last r ≡ wait → r.1 ≡ sure → ⊥
unfolding ended
ended_wait last (e, sure) h q = let z : ◌≡◌ {A = ℕ} 0 1 = cc in omega arith
ended_wait last (e, line_end) h q = let z : ◌≡◌ {A = ℕ} 0 1 = cc in omega arith
ended_wait last (e, mid_line) h q = let z : ◌≡◌ {A = ℕ} 0 1 = cc in omega arith

wait_short : (last : Bool) (s : Bytes) → cut last s ≡ wait → length s ≤ 32_768
unfolding cut in_length most_event_bytes when◌then◌else◌
wait_short last [] h = omega arith
wait_short last (c ∷ s) h = go (ltb 32_768 (length (reach c false (c ∷ s)).0)) refl h
  where
    go : (t : Bool) → ltb 32_768 (length (reach c false (c ∷ s)).0) ≡ t → (when t then too_long else ended last (reach c false (c ∷ s))) ≡ wait → length (c ∷ s) ≤ 32_768
    go true e h = let z : ◌≡◌ {A = ℕ} 0 1 = cc in absurd (omega arith)
    go false e h = let l : length (reach c false (c ∷ s)).0 ≡ length (c ∷ s) = reach_all c false (c ∷ s) (ended_wait last _ h) in omega (arith, ltb-false 32_768 (length (reach c false (c ∷ s)).0) e)

pub waits_short : {last : Bool} {input b w i out : Bytes} {c k : ℕ} {b' w' i' out' : Bytes} → StepsIn last input b w i out 1 c k b' w' i' out' → length input ≤ 32_768
waits_short {last} {input} {b} {w} {i} {out} x =
    by_state b (λ e. absurd (let q = (x.bad e).0 in omega arith))
    (λ s e. let h = x.good s e in go (meaning_of s w i) (given-only_when last input (length out) (meaning_of s w i) Incomplete refl (sym (h.answer ∙ h.call.0.meets.answer))))
  where
    go : (t : calls.State) → Why last input (length out) t Incomplete → length input ≤ 32_768
    go t (no_event d e) = wait_short last input e
