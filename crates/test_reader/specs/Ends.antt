-- How a document ends that is run from a state on, with all of its input at hand and the same room for each event: what `spec` says of it.
use Prim.Native.Nat.{ℕ, zero, suc, ◌+◌, ◌-◌, ◌≤◌, ◌<◌, min}
use Rattle.std.specs.Prelude.{◌≡◌, Bool, ◌&&◌, [], ◌∷◌, ◌++◌, length, drop}
use Rattle.std.proofs.Math.Path.{refl, sym, ap}
use Rattle.std.proofs.Common.{◌∙◌, arith, length-drop, drop-drop}
use Rattle.std.proofs.Math.Bool.{true, false}
use Rattle.std.proofs.Math.Nat.{min-eq_left}
use Rattle.std.proofs.Math.Dec.{eqb}
use borrow.Author.Tests.{eq-eqb, ne_eqb}
use Rattle.spec.specs.Bytes.{Bytes, same, begins}
use Rattle.spec.specs.Calls.{State, Report, call_step, call_finish}
use Rattle.spec.specs.Feeding.{Run, ending, in_front, onward, at_most, run}
use Rattle.theorems.specs.Division.{run-onward}
use Rattle.state_words.specs.Words.{pick}
use Rattle.copy.specs.Texts.{begins-length}

-- steps until an answer is not 0; it is 1 at the end of the input
unfoldable pub steps : ℕ → Bytes → State → Run
steps room s q = run (λ _. room) 1 s q

-- the last call is then finish: the number that it gives, and the state that it leaves
unfoldable pub last_number : Run → ℕ
last_number n = pick (eqb n.answer 1) (call_finish n.behind).answer n.answer

unfoldable pub last_state : Run → State
last_state n = pick (eqb n.answer 1) (call_finish n.behind).behind n.behind

-- a run comes to this number and state; `v`: were the lines before it as expected, and is its output what is left of them?
pub record Comes (n : Run) (rest : Bytes) (before : Bool) (k : ℕ) (t : State) (v : Bool) : Type 0 where
  pub number : last_number n ≡ k
  pub behind : last_state n ≡ t
  pub lines : (before && same n.output rest) ≡ v

-- it has come to it: from `at` on, no expected line is left
pub record Came (last : ℕ) (left : State) (before : Bool) (at : ℕ) (e : Bytes) (k : ℕ) (t : State) (v : Bool) : Type 0 where
  pub number : last ≡ k
  pub behind : left ≡ t
  pub lines : (before && eqb at (length e)) ≡ v

-- ---- a run is a step and the run behind it

any_event : (f room k j : ℕ) (s : Bytes) (q : State) → at_most f (λ _. room) k s q ≡ at_most f (λ _. room) j s q
unfolding at_most
any_event zero room k j s q = refl
any_event (suc f) room k j s q = ap (onward (call_step true s room q)) (any_event f room (suc k) (suc j) (drop (call_step true s room q).consumed s) (call_step true s room q).behind)

module _ (room : ℕ) (s : Bytes) (q : State) where
  steps-onward : steps room s q ≡ onward (call_step true s room q) (steps room (drop (call_step true s room q).consumed s) (call_step true s room q).behind)
  unfolding steps run
  steps-onward =
      let r : Report = call_step true s room q in
      run-onward (λ _. room) 1 s q ∙ ap (onward r) (any_event (length (drop r.consumed s)) room 2 1 (drop r.consumed s) r.behind)

  pub steps_on : (call_step true s room q).answer ≡ 0
      → steps room s q ≡ in_front (call_step true s room q) (steps room (drop (call_step true s room q).consumed s) (call_step true s room q).behind)
  unfolding onward
  steps_on h = steps-onward ∙ rw h

  pub steps_end : 0 < (call_step true s room q).answer → steps room s q ≡ ending (call_step true s room q)
  unfolding onward
  steps_end h = steps-onward ∙ go (call_step true s room q).answer refl
    where
      go : (a : ℕ) → (call_step true s room q).answer ≡ a → onward (call_step true s room q) (steps room (drop (call_step true s room q).consumed s) (call_step true s room q).behind) ≡ ending (call_step true s room q)
      go zero e = absurd (omega arith)
      go (suc a) e = rw e

-- ---- lines, one after the other

and_after : (a b c : Bool) → (a && (b && c)) ≡ ((a && b) && c)
and_after true b c = refl
and_after false b c = refl

-- the first ones, and then what follows
same_front : (l y x : Bytes) → same (l ++ y) x ≡ (begins l x && same y (drop (length l) x))
unfolding same begins
same_front [] y x = refl
same_front (a ∷ l) y [] = refl
same_front (a ∷ l) y (b ∷ x) = ap (eqb a b &&◌) (same_front l y x) ∙ and_after (eqb a b) (begins l x) (same y (drop (length l) x))

-- behind the first ones, in the lines that are left from a place on
same_from : (l y e : Bytes) (at : ℕ) → at ≤ length e
    → same (l ++ y) (drop at e) ≡ (begins l (drop at e) && same y (drop (min (at + length l) (length e)) e))
same_from l y e at h = same_front l y (drop at e) ∙ go (begins l (drop at e)) refl
  where
    go : (b : Bool) → begins l (drop at e) ≡ b → (b && same y (drop (length l) (drop at e))) ≡ (b && same y (drop (min (at + length l) (length e)) e))
    go false q = refl
    go true q =
        let k : at + length l ≤ length e = omega (arith, begins-length l (drop at e) q, length-drop at e) in
        rw (drop-drop (length l) at e, min-eq_left k)

-- none are left
pub same_none : (e : Bytes) (at : ℕ) → at ≤ length e → same [] (drop at e) ≡ eqb at (length e)
unfolding same
same_none e at h = go (drop at e) (length-drop at e)
  where
    go : (x : Bytes) → length x ≡ length e - at → same [] x ≡ eqb at (length e)
    go [] q = sym (eq-eqb at (length e) (omega arith))
    go (b ∷ x) q = sym (ne_eqb at (length e) (λ z. omega arith))

-- ---- what a step does to a run

module _ (room : ℕ) (s : Bytes) (q : State) (e : Bytes) (at : ℕ) (h : at ≤ length e) {b : Bool} {k : ℕ} {t : State} {v : Bool} (c : Comes (steps room s q) (drop at e) b k t v) where
  -- an event is done: what is left is the run behind it
  pub comes_on : (call_step true s room q).answer ≡ 0
      → Comes (steps room (drop (call_step true s room q).consumed s) (call_step true s room q).behind) (drop (min (at + length (call_step true s room q).output) (length e)) e)
      (b && begins (call_step true s room q).output (drop at e)) k t v
  unfolding last_number last_state in_front
  comes_on z =
      let r : Run = steps room (drop (call_step true s room q).consumed s) (call_step true s room q).behind in
      let p : steps room s q ≡ in_front (call_step true s room q) r = steps_on room s q z in
      record {
        number = rw p at c.number;
        behind = rw p at c.behind;
        lines = sym (and_after b _ _) ∙ (ap (b &&◌) (sym (same_from (call_step true s room q).output r.output e at h)) ∙ (rw p at c.lines));
      }

  none_left : 0 < (call_step true s room q).answer → (b && eqb at (length e)) ≡ v
  unfolding ending
  none_left z = ap (b &&◌) (sym (same_none e at h)) ∙ (rw (steps_end room s q z) at c.lines)

  -- it is refused: that is the end
  pub comes_refused : 1 < (call_step true s room q).answer → Came (call_step true s room q).answer (call_step true s room q).behind b at e k t v
  unfolding last_number last_state ending
  comes_refused z =
      let p : steps room s q ≡ ending (call_step true s room q) = steps_end room s q (omega arith) in
      let o : eqb (call_step true s room q).answer 1 ≡ false = ne_eqb (call_step true s room q).answer 1 (λ y. omega arith) in
      record { number = rw o at (rw p at c.number); behind = rw o at (rw p at c.behind); lines = none_left (omega arith) }

  -- no event is left: then finish is the end
  pub comes_over : (call_step true s room q).answer ≡ 1
      → Came (call_finish (call_step true s room q).behind).answer (call_finish (call_step true s room q).behind).behind b at e k t v
  unfolding last_number last_state ending
  comes_over z =
      let p : steps room s q ≡ ending (call_step true s room q) = steps_end room s q (omega arith) in
      record { number = rw z at (rw p at c.number); behind = rw z at (rw p at c.behind); lines = none_left (omega arith) }
