-- How step comes to its answer.
use Rattle.std.specs.Prelude.{ℕ, Bool, true, false, List, length, Result, Ok, Err}
use Rattle.std.proofs.Math.Path.{◌≡◌, refl, ap}
use Rattle.std.proofs.Common.{◌∙◌, arith}
use Rattle.spec.specs.Bytes.{Bytes}
use Rattle.spec.specs.Numbers.{refuse}
use Rattle.spec.specs.declared.Refusal.{Refusal}
use Rattle.spec.specs.declared.Refusal.TheVariants.{BadState, Closed}
use Rattle.spec.specs.Calls.{is_open, stepped, call_step}
use Rattle.event.specs.Progress.{Lent, lent, doc_in}
use Rattle.reader_contract.specs.declared.State.{State}
use Rattle.reader_contract.specs.declared.Report.{Report}
use Rattle.reader.specs.declared.stream.Taken.{Taken}
use Rattle.reader_contract.specs.Meaning.{lent_by, lawful_state, doc_from, meaning_of, marked, means_unlawful, means_closed, means_open, facts_lawful}
use Rattle.reader_contract.specs.Meets.{Steps, refusing, state_of, accepting, meets_marked}
use Rattle.reader.specs.Core.{first_accepted, Accepts, Takes}

-- ---- 3 and 4

module _ {last : Bool} {input : Bytes} {s : State} {w i out : List ℕ} {r : Report} where
  pub step_unlawful : lawful_state s w i ≡ false → r ≡ refusing s BadState → Steps last input s w i out r w i out
  unfolding call_step marked
  step_unlawful h e = rw e (record { meets = meets_marked s BadState (rw (means_unlawful s w i h)) })

  pub step-closed : lawful_state s w i ≡ true → s.registers.flags.closed ≡ true → r ≡ refusing s Closed → Steps last input s w i out r w i out
  unfolding call_step marked
  step-closed h c e = rw e (record { meets = meets_marked s Closed (rw (means_closed s w i h c)) })

-- ---- an event

module _ {last : Bool} {input : Bytes} (s : State) {w i out : List ℕ} (h : lawful_state s w i ≡ true) (c : s.registers.flags.closed ≡ false) {o : Result Taken Refusal} {fs bs is w' ia il i' out' : List ℕ}
    (t : Takes last input s.registers s.ids.count o (lent_by s w i out) (lent fs bs is w' ia il i' out')) where
  -- the output is no part of the document
  same-doc : doc_in s.registers s.ids.count (lent_by s w i out) ≡ doc_from s w i
  unfolding doc_from doc_in
  same-doc = refl

  reported : call_step last input (length out) (meaning_of s w i) ≡ stepped (doc_from s w i) (first_accepted last input (length out) (doc_in s.registers s.ids.count (lent_by s w i out)))
  unfolding call_step first_accepted
  reported = rw (means_open s w i h c, same-doc)

  pub step_stop : {n : Refusal} {s' : State} {r : Report} → o ≡ Err n → s' ≡ marked n s → r ≡ refusing s' n → Steps last input s w i out r w' i' out'
  unfolding stepped
  step_stop {n} q m e =
      let x : (first_accepted last input (length out) (doc_in s.registers s.ids.count (lent_by s w i out)) ≡ refuse n) × (lent fs bs is w' ia il i' out' ≡ lent_by s w i out) = rw q at t.cases in
      let ww : w' ≡ w = ap (λ (l : Lent). l.work) x.1 in
      let ii : i' ≡ i = ap (λ (l : Lent). l.ids) x.1 in
      let oo : out' ≡ out = ap (λ (l : Lent). l.out) x.1 in
      rw (e, m, ww, ii, oo) (record { meets = meets_marked s n (reported ∙ rw (x.0, means_open s w i h c)) })

  pub step_did : {d : Taken} {r : Report} → o ≡ Ok d → r ≡ accepting d.consumed d.behind fs bs is ia il → Steps last input s w i out r w' i' out'
  unfolding stepped doc_from doc_in
  step_did {d} q e =
      let x : Accepts (first_accepted last input (length out) (doc_in s.registers s.ids.count (lent_by s w i out))) input d.consumed d.behind (lent_by s w i out) (lent fs bs is w' ia il i' out') = rw q at t.cases in
      rw e
      (record {
        meets = record {
          store = t.store;
          id_store = t.id_store;
          room = t.room;
          answer = rw (reported, x.answer);
          consumed = rw (reported, x.answer) x.consumed;
          wrote = rw (reported, x.answer) x.wrote;
          behind = rw (reported, x.answer) (means_open (state_of d.behind fs bs is ia il) w' i' (facts_lawful (state_of d.behind fs bs is ia il) x.lawful) x.mark ∙ ap is_open x.doc);
          kept = λ k y. let z : ◌≡◌ {A = ℕ} 0 1 = cc in absurd (omega arith);
        };
      })
