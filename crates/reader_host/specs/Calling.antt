-- How the calls come to their answers.
use Rattle.std.specs.Prelude.{ℕ, ◌≤◌, ◌<◌, ◌≡◌, refl, Bool, true, false, [], length}
use Rattle.std.specs.Prelude.{Option as Maybe, is_some}
use Rattle.std.specs.Bool.{then_some}
use denote.Bor.{Bor}
use Rattle.std.proofs.Common.{sym, ap, ◌∙◌, arith}
use Rattle.std.proofs.Math.Option.{Option, none, some}
use Rattle.spec.specs.Bytes.{Bytes}
use Rattle.spec.specs.declared.Mode.{Mode}
use Rattle.theorems.specs.Calls.{number_positive}
use Rattle.reader_contract.specs.declared.State.{State}
use Rattle.reader_contract.specs.declared.Report.{Report}
use Rattle.reader_contract.specs.Meaning.{Nothing, text_of}
use Rattle.reader_contract.specs.Meets.{number_of, Starts, Steps, Finishes}
use Rattle.reader_host.specs.Image.{state_bytes, mode_of, decode}
use Rattle.reader_host.specs.Meets.{Stands, StartsIn, StepsIn, FinishesIn}

-- ---- start

-- a base that is lent where the flag says so
pub lent_start : (flag : Bool) (base : Bor Bytes) {lent : Maybe (Bor Bytes)} {m : Mode} {s : State} {w i : Bytes} {r : Report} {w' : Bytes}
    → lent ≡ then_some flag base → Starts m (is_some lent) (text_of lent) s w i r w' → Starts m flag base.now s w i r w'
lent_start true base e x = rw e at x
lent_start false base {m = m} {s} {w} {i} {r} {w'} e x = let y : Starts m false [] s w i r w' = rw e at x in record { meets = y.meets }

module _ {mode : ℕ} {based : Bool} {base b w i : Bytes} where
  pub start_bad : (length b ≡ state_bytes → ⊥) → StartsIn mode based base b w i 3 b w
  start_bad h = record { bad = λ _. (refl, refl, refl); unknown = λ _. (refl, refl, refl); good = λ l _. absurd (h l) }

  pub start_unknown : 1 < mode → StartsIn mode based base b w i 3 b w
  start_unknown h =
      record {
        bad = λ _. (refl, refl, refl);
        unknown = λ _. (refl, refl, refl);
        good = λ _ k. absurd (omega (arith, h, k));
      }

  module _ (l : length b ≡ state_bytes) (known : mode ≤ 1) {s : State} (h : Nothing s) {m : Mode} (is : m ≡ mode_of mode)
      {r : Report} {w' : Bytes} (x : Starts m based base s w i r w') {n : ℕ} (e : n ≡ number_of r.answer) where
    pub start_refused : (n ≡ 0 → ⊥) → StartsIn mode based base b w i n b w'
    start_refused z =
        record {
          bad = λ k. absurd (k l);
          unknown = λ k. absurd (omega (arith, known, k));
          good = λ _ _.
              record {
                before = s;
                nothing = h;
                report = r;
                call = rw is at x;
                answer = e;
                refused = λ k q. refl;
                done = λ q. absurd (z (e ∙ ap number_of q));
              };
        }

    pub start_done : n ≡ 0 → {b' : Bytes} → Stands b' r.state → StartsIn mode based base b w i n b' w'
    start_done z {b'} d =
        record {
          bad = λ k. absurd (k l);
          unknown = λ k. absurd (omega (arith, known, k));
          good = λ _ _.
              record {
                before = s;
                nothing = h;
                report = r;
                call = rw is at x;
                answer = e;
                refused = λ k q. absurd (number_positive k (sym (ap number_of q) ∙ (sym e ∙ z)));
                done = λ q. d;
              };
        }

-- ---- step and finish

never : {A : Type 0} {s : State} {o : Option State} → o ≡ none → o ≡ some s → A
never p q = let z : ◌≡◌ {A = ℕ} 0 1 = cc in absurd (omega arith)

same_state : {s t : State} {o : Option State} → o ≡ some s → o ≡ some t → s ≡ t
same_state p q = cc

module _ {last : Bool} {input b w i out : Bytes} where
  pub step_bad : decode b ≡ none → StepsIn last input b w i out 3 0 0 b w i out
  step_bad h = record { bad = λ _. (refl, refl, refl, record { state = refl; work = refl; ids = refl; output = refl }); good = λ s e. never h e }

  pub step_good : {s : State} → Stands b s → {r : Report} {w' i' out' : Bytes} → Steps last input s w i out r w' i' out' → {n : ℕ} → n ≡ number_of r.answer → {b' : Bytes} → Stands b' r.state
      → StepsIn last input b w i out n r.consumed r.written b' w' i' out'
  step_good h {r = r} x e d =
      record {
        bad = λ z. never z h.read;
        good = λ t z. rw (same_state z h.read) (record { before = h.written; report = r; call = (x, refl, refl); answer = e; behind = d });
      }

module _ {b w i : Bytes} where
  pub finish_bad : decode b ≡ none → FinishesIn b w i 3 b
  finish_bad h = record { bad = λ _. (refl, refl); good = λ s e. never h e }

  pub finish_good : {s : State} → Stands b s → {r : Report} → Finishes s w i r → {n : ℕ} → n ≡ number_of r.answer → {b' : Bytes} → Stands b' r.state → FinishesIn b w i n b'
  finish_good h {r = r} x e d =
      record { bad = λ z. never z h.read; good = λ t z. rw (same_state z h.read) (record { before = h.written; report = r; call = x; answer = e; behind = d }) }
