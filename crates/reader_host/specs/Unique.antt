-- The contracts determine the calls: answer, counts, lines and meaning are those of the definitions, for what the bytes mean; what is
-- refused is determined to the last byte.
use Rattle.std.specs.Prelude.{ℕ, ◌≡◌, refl, Bool, true, false, ◌&&◌, ◌⊎◌, List, [], length}
use Rattle.std.proofs.Common.{sym, ap, ◌∙◌, inl, inr, ⊎_elim, arith}
use Rattle.std.proofs.Math.Option.{Option, none, some}
use Rattle.spec.specs.Bytes.{Bytes, ◌>>◌, require◌or◌}
use Rattle.spec.specs.Numbers as numbers
use Rattle.spec.specs.Numbers.{refuse, good}
use Rattle.spec.specs.declared.Refusal.TheVariants.{BadState}
use Rattle.spec.specs.declared.Mode.{Mode}
use Rattle.spec.specs.Calls.{unlawful, marked_by, refused, refused_in, may_start, started, call_start, call_step, call_finish}
use Rattle.spec.specs.Calls as calls
use Rattle.theorems.specs.Calls.{number_positive}
use Rattle.copy.specs.Copy.{Wrote, wrote_none}
use Rattle.reader_contract.specs.declared.State.{State}
use Rattle.reader_contract.specs.Meaning.{base_of, meaning_of}
use Rattle.reader_contract.specs.Meets.{lengths_right}
use Rattle.reader_contract.specs.Unique.{number_tells}
use Rattle.reader_host.specs.Image.{mode_of, decode}
use Rattle.reader_host.specs.Meets.{StartsIn, StepsIn, FinishesIn}
use Rattle.reader_host.specs.Use.{marked_bytes, by_state, fitting, start_fits, start_unfit, start_leaves, step_leaves, finish_leaves}
use Rattle.std.specs.Prelude.{Ok}

-- what a host keeps: the state's bytes, the work store and the ID store
abbrev pub kept : Option State → List ℕ → List ℕ → calls.State
kept none w i = unlawful
kept (some s) w i = meaning_of s w i

unfoldable pub means_in : Bytes → List ℕ → List ℕ → calls.State
means_in b w i = kept (decode b) w i

-- ---- what the definitions report is what the host gets

pub record Reports (d : calls.Report) (n c k : ℕ) (out out' : List ℕ) (m : calls.State) : Type 0 where
  pub answer : n ≡ d.answer
  pub consumed : c ≡ d.consumed
  pub wrote : Wrote out out' 0 k d.output
  pub behind : m ≡ d.behind

module _ (b w i : Bytes) where
  means_none : decode b ≡ none → means_in b w i ≡ unlawful
  unfolding means_in
  means_none e = rw e

  means_some : {s : State} → decode b ≡ some s → means_in b w i ≡ meaning_of s w i
  unfolding means_in
  means_some e = rw e

pub step_reports : {last : Bool} {input b w i out : Bytes} {n c k : ℕ} {b' w' i' out' : Bytes} → StepsIn last input b w i out n c k b' w' i' out'
    → Reports (call_step last input (length out) (means_in b w i)) n c k out out' (means_in b' w' i')
unfolding call_step refused_in refused marked_by
step_reports {last} {input} {b} {w} {i} {out} {n} {c} {k} {b'} {w'} {i'} {out'} x = by_state b no_state of-state
  where
    no_state : decode b ≡ none → Reports (call_step last input (length out) (means_in b w i)) n c k out out' (means_in b' w' i')
    no_state e =
        let h = x.bad e in
        rw (h.0, h.1, h.2, h.3.state, h.3.work, h.3.ids, h.3.output, means_none b w i e)
        (record { answer = refl; consumed = refl; wrote = wrote_none (omega arith); behind = refl })

    of-state : (s : State) → decode b ≡ some s → Reports (call_step last input (length out) (means_in b w i)) n c k out out' (means_in b' w' i')
    of-state s e =
        let h = x.good s e in
        let m = h.call.0.meets in
        rw (means_some b w i e, means_some b' w' i' h.behind.read)
        (record { answer = h.answer ∙ m.answer; consumed = h.call.1 ∙ m.consumed; wrote = rw h.call.2 m.wrote; behind = m.behind })

pub finish_reports : {b w i : Bytes} {n : ℕ} {b' : Bytes} → FinishesIn b w i n b' → (n ≡ (call_finish (means_in b w i)).answer) × (means_in b' w i ≡ (call_finish (means_in b w i)).behind)
unfolding call_finish refused_in refused marked_by
finish_reports {b} {w} {i} {n} {b'} x = by_state b no_state of-state
  where
    no_state : decode b ≡ none → (n ≡ (call_finish (means_in b w i)).answer) × (means_in b' w i ≡ (call_finish (means_in b w i)).behind)
    no_state e = let h = x.bad e in rw (h.0, h.1, means_none b w i e) (refl, refl)

    of-state : (s : State) → decode b ≡ some s → (n ≡ (call_finish (means_in b w i)).answer) × (means_in b' w i ≡ (call_finish (means_in b w i)).behind)
    of-state s e =
        let h = x.good s e in
        rw (means_some b w i e, means_some b' w i h.behind.read) (h.answer ∙ h.call.meets.answer, h.call.meets.behind)

-- ---- start: the state's bytes count by their length alone

-- all three have their lengths, and the number is a mode's
abbrev pub all_right : ℕ → Bytes → List ℕ → List ℕ → Bool
all_right mode b w i = fitting mode b && lengths_right w i

-- the answer does not depend on the state
start_number : (l : Bool) (m : Mode) (o : Option Bytes) (s t : calls.State)
    → (call_start l m o s).answer ≡ (call_start l m o t).answer
unfolding call_start started refused
start_number l m o s t = go (may_start l o)
  where
    go : (a : numbers.Answer (Unit {0})) → (started m o s a).answer ≡ (started m o t a).answer
    go (refuse r) = refl
    go (good u) = refl

start_short : (m : Mode) (o : Option Bytes) (t : calls.State) → call_start false m o t ≡ refused BadState t
unfolding call_start started may_start ◌>>◌ require◌or◌
start_short m none t = refl
start_short m (some o) t = refl

-- accepted, a document begins; refused, the state stays
start_behind : (l : Bool) (m : Mode) (o : Option Bytes) (s t : calls.State)
    → (((call_start l m o s).answer ≡ 0) × ((call_start l m o s).behind ≡ (call_start l m o t).behind)) ⊎ (((call_start l m o s).answer ≡ 0 → ⊥) × ((call_start l m o t).behind ≡ t))
unfolding call_start started refused
start_behind l m o s t = go (may_start l o)
  where
    go : (a : numbers.Answer (Unit {0})) → (((started m o s a).answer ≡ 0) × ((started m o s a).behind ≡ (started m o t a).behind)) ⊎ (((started m o s a).answer ≡ 0 → ⊥) × ((started m o t a).behind ≡ t))
    go (refuse r) = inr (number_positive r, refl)
    go (good u) = inl (refl, refl)

pub start_reports : {mode : ℕ} {based : Bool} {base b w i : Bytes} {n : ℕ} {b' w' : Bytes}
    → StartsIn mode based base b w i n b' w'
    → (n ≡ (call_start (all_right mode b w i) (mode_of mode) (base_of based base) (means_in b w i)).answer)
    × (means_in b' w' i ≡ (call_start (all_right mode b w i) (mode_of mode) (base_of based base) (means_in b w i)).behind)
unfolding refused
start_reports {mode} {based} {base} {b} {w} {i} {n} {b'} {w'} x = go (fitting mode b) refl
  where
    go : (l : Bool) → fitting mode b ≡ l
        → (n ≡ (call_start (l && lengths_right w i) (mode_of mode) (base_of based base) (means_in b w i)).answer)
        × (means_in b' w' i ≡ (call_start (l && lengths_right w i) (mode_of mode) (base_of based base) (means_in b w i)).behind)
    go false e = let h = start_unfit x e in rw (h.0, h.1, h.2, start_short (mode_of mode) (base_of based base) (means_in b w i)) (refl, refl)
    go true e =
        let h = start_fits x e in
        let m = h.call.meets in
        let a : n ≡ (call_start (lengths_right w i) (mode_of mode) (base_of based base) (meaning_of h.before w i)).answer = h.answer ∙ m.answer in (
          a ∙ start_number (lengths_right w i) (mode_of mode) (base_of based base) (meaning_of h.before w i)
              (means_in b w i),
          ⊎_elim
              (λ y. means_some b' w' i (h.done (number_tells h.report.answer (Ok tt) (m.answer ∙ y.0))).read ∙ (m.behind ∙ y.1))
              (λ y. let z = start_leaves x (λ q. y.0 (sym a ∙ q)) in rw (z.0, z.1) (sym y.1))
              (start_behind (lengths_right w i) (mode_of mode) (base_of based base) (meaning_of h.before w i)
              (means_in b w i)),
        )

-- ---- nothing else meets a contract

-- two results: number, counts, state, work store, ID store and output each
pub record Same (n c k : ℕ) (b w i out : List ℕ) (m d l : ℕ) (e v j o : List ℕ) : Type 0 where
  pub answer : n ≡ m
  pub consumed : c ≡ d
  pub written : k ≡ l
  pub output : out ≡ o
  pub meaning : means_in b w i ≡ means_in e v j
  pub refused : (n ≡ 0 → ⊥) → (b ≡ e) × (w ≡ v) × (i ≡ j)

pub step_unique : {last : Bool} {input b w i out : Bytes} {n c k : ℕ} {b₁ w₁ i₁ out₁ : Bytes} {m d l : ℕ} {b₂ w₂ i₂ out₂ : Bytes}
    → StepsIn last input b w i out n c k b₁ w₁ i₁ out₁ → StepsIn last input b w i out m d l b₂ w₂ i₂ out₂ → Same n c k b₁ w₁ i₁ out₁ m d l b₂ w₂ i₂ out₂
step_unique {b = b} x y =
    let p = step_reports x in
    let q = step_reports y in
    let e = p.answer ∙ sym q.answer in
    record {
      answer = e;
      consumed = p.consumed ∙ sym q.consumed;
      written = p.wrote.up ∙ sym q.wrote.up;
      output = p.wrote.eq ∙ sym q.wrote.eq;
      meaning = p.behind ∙ sym q.behind;
      refused = λ z.
          let f = step_leaves x z in
          let g = step_leaves y (λ h. z (e ∙ h)) in
          (f.state ∙ (ap (λ (a : ℕ). marked_bytes a b) e ∙ sym g.state), f.work ∙ sym g.work, f.ids ∙ sym g.ids);
    }

pub finish_unique : {b w i : Bytes} {n : ℕ} {b₁ : Bytes} {m : ℕ} {b₂ : Bytes} → FinishesIn b w i n b₁ → FinishesIn b w i m b₂ → Same n 0 0 b₁ w i [] m 0 0 b₂ w i []
finish_unique {b = b} x y =
    let p = finish_reports x in
    let q = finish_reports y in
    let e = p.0 ∙ sym q.0 in
    record {
      answer = e;
      consumed = refl;
      written = refl;
      output = refl;
      meaning = p.1 ∙ sym q.1;
      refused = λ z. (finish_leaves x z ∙ (ap (λ (a : ℕ). marked_bytes a b) e ∙ sym (finish_leaves y (λ h. z (e ∙ h)))), refl, refl);
    }

pub start_unique : {mode : ℕ} {based : Bool} {base b w i : Bytes} {n : ℕ} {b₁ w₁ : Bytes} {m : ℕ} {b₂ w₂ : Bytes}
    → StartsIn mode based base b w i n b₁ w₁ → StartsIn mode based base b w i m b₂ w₂
    → Same n 0 0 b₁ w₁ i [] m 0 0 b₂ w₂ i []
start_unique x y =
    let p = start_reports x in
    let q = start_reports y in
    let e = p.0 ∙ sym q.0 in
    record {
      answer = e;
      consumed = refl;
      written = refl;
      output = refl;
      meaning = p.1 ∙ sym q.1;
      refused = λ z. let f = start_leaves x z in let g = start_leaves y (λ h. z (e ∙ h)) in (f.0 ∙ sym g.0, f.1 ∙ sym g.1, refl);
    }
