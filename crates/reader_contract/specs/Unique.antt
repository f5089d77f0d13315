-- A call's contract determines its result: two that meet it agree, but for words and bytes that mean nothing; refused, to the last byte.
use Rattle.std.specs.Prelude.{ℕ, ◌≡◌, refl, Bool, List, []}
use Rattle.std.proofs.Common.{sym, ap, ◌∙◌}
use Rattle.spec.specs.Bytes.{Bytes}
use Rattle.spec.specs.declared.Mode.{Mode}
use Rattle.spec.specs.declared.Refusal.{Refusal}
use Rattle.spec.specs.declared.Refusal.TheVariants.{BadState}
use Rattle.spec.specs.Calls as calls
use Rattle.theorems.specs.Calls.{number_positive, number_injective}
use Rattle.reader_contract.specs.declared.State.{State}
use Rattle.reader_contract.specs.declared.Report.{Report}
use Rattle.reader_contract.specs.Meaning.{meaning_of, marked}
use Rattle.reader_contract.specs.Meets.{number_of, Kept, Meets, Starts, Steps, Finishes}
use Rattle.std.specs.Prelude.{Result, Ok, Err}

-- two results: a report, work store, ID store and output each
pub record Same (r : Report) (w i out : List ℕ) (q : Report) (v j o : List ℕ) : Type 0 where
  pub answer : r.answer ≡ q.answer
  pub consumed : r.consumed ≡ q.consumed
  pub written : r.written ≡ q.written
  pub output : out ≡ o
  pub meaning : meaning_of r.state w i ≡ meaning_of q.state v j
  pub refused : (n : Refusal) → r.answer ≡ Err n → (r ≡ q) × (w ≡ v) × (i ≡ j)

-- the number tells the answer
pub number_tells : (a b : Result Unit Refusal) → number_of a ≡ number_of b → a ≡ b
number_tells (Ok _) (Ok _) e = refl
number_tells (Ok _) (Err n) e = absurd (number_positive n (sym e))
number_tells (Err n) (Ok _) e = absurd (number_positive n e)
number_tells (Err m) (Err n) e = ap Err (number_injective m n e)

made : {s t : State} {a b : Result Unit Refusal} {c d k l : ℕ} → s ≡ t → a ≡ b → c ≡ d → k ≡ l
    → ◌≡◌ {A = Report} (record { state = s; answer = a; consumed = c; written = k }) (record { state = t; answer = b; consumed = d; written = l })
made p q r s = rw (p, q, r, s)

reports : (r q : Report) → r.state ≡ q.state → r.answer ≡ q.answer → r.consumed ≡ q.consumed → r.written ≡ q.written → r ≡ q
reports r q a b c d = made a b c d

module _ {d : calls.Report} {left : Refusal → State} {w i out : List ℕ} {r : Report} {w₁ i₁ out₁ : List ℕ} {q : Report} {w₂ i₂ out₂ : List ℕ}
    (x : Meets d left w i out r w₁ i₁ out₁) (y : Meets d left w i out q w₂ i₂ out₂) where
  pub unique : Same r w₁ i₁ out₁ q w₂ i₂ out₂
  unique =
      let a : r.answer ≡ q.answer = number_tells r.answer q.answer (x.answer ∙ sym y.answer) in
      let c : r.consumed ≡ q.consumed = x.consumed ∙ sym y.consumed in
      let k : r.written ≡ q.written = x.wrote.up ∙ sym y.wrote.up in
      record {
        answer = a;
        consumed = c;
        written = k;
        output = x.wrote.eq ∙ sym y.wrote.eq;
        meaning = x.behind ∙ sym y.behind;
        refused = λ n e.
            let f = x.kept n e in
            let g = y.kept n (sym a ∙ e) in
            (reports r q (f.state ∙ sym g.state) a c k, f.work ∙ sym g.work, f.ids ∙ sym g.ids);
      }

pub start_unique : {mode : Mode} {based : Bool} {base : Bytes} {s : State} {w i : List ℕ} {r : Report} {w₁ : List ℕ} {q : Report} {w₂ : List ℕ}
    → Starts mode based base s w i r w₁ → Starts mode based base s w i q w₂ → Same r w₁ i [] q w₂ i []
start_unique x y = unique x.meets y.meets

pub step_unique : {last : Bool} {input : Bytes} {s : State} {w i out : List ℕ} {r : Report} {w₁ i₁ out₁ : List ℕ} {q : Report} {w₂ i₂ out₂ : List ℕ}
    → Steps last input s w i out r w₁ i₁ out₁ → Steps last input s w i out q w₂ i₂ out₂ → Same r w₁ i₁ out₁ q w₂ i₂ out₂
step_unique x y = unique x.meets y.meets

pub finish_unique : {s : State} {w i : List ℕ} {r q : Report} → Finishes s w i r → Finishes s w i q → Same r w i [] q w i []
finish_unique x y = unique x.meets y.meets

-- ---- 3 changes nothing, not even the mark

pub step_three_keeps : {last : Bool} {input : Bytes} {s : State} {w i out : List ℕ} {r : Report} {w' i' out' : List ℕ}
    → Steps last input s w i out r w' i' out' → number_of r.answer ≡ 3 → Kept s w i out r w' i' out'
unfolding marked
step_three_keeps {r = r} x e = x.meets.kept BadState (number_tells r.answer (Err BadState) e)

pub finish_three_keeps : {s : State} {w i : List ℕ} {r : Report} → Finishes s w i r → number_of r.answer ≡ 3 → Kept s w i [] r w i []
unfolding marked
finish_three_keeps {r = r} x e = x.meets.kept BadState (number_tells r.answer (Err BadState) e)
