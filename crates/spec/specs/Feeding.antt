-- Document 01, "Events": a host's run of steps over its input, all at hand or in pieces (theorem: Division of `theorems`).
use Rattle.std.specs.Prelude.{◌≡◌, ◌⊎◌, true, List, [], ◌∷◌, ◌++◌, ℕ, zero, suc, ◌+◌, ◌≤◌, eqb, length, drop}
use Rattle.spec.specs.Bytes.{Bytes, when◌then◌else◌, is_empty}
use Rattle.spec.specs.Calls.{State, Report, call_step, call_finish}
use Rattle.spec.specs.Pyx2nt.{last_line}

-- what a run comes to: events accepted, bytes consumed, all output, the answer that ended it, the state behind
pub record Run : Type 0 where
  pub events : ℕ
  pub consumed : ℕ
  pub output : Bytes
  pub answer : ℕ
  pub behind : State

-- a step that ends a run
unfoldable pub ending : Report → Run
ending r = record { events = 0; consumed = 0; output = []; answer = r.answer; behind = r.behind }

-- a step that did an event, and the run behind it
unfoldable pub in_front : Report → Run → Run
in_front r n = record {
  events = suc n.events;
  consumed = r.consumed + n.consumed;
  output = r.output ++ n.output;
  answer = n.answer;
  behind = n.behind;
}

-- by the answer: 0 goes on with the run behind, any other ends it
unfoldable pub onward : Report → Run → Run
onward r n = elim r.answer [ zero ↦ in_front r n | suc m ↦ ending r ]

-- steps over all of the input, from event k on, until an answer is not 0 (1: the input is at its end); event k is given room k
unfoldable pub at_most : ℕ → (ℕ → ℕ) → ℕ → Bytes → State → Run
at_most zero room k s q = ending (call_step true s (room k) q)
at_most (suc f) room k s q =
    let r = call_step true s (room k) q in
    onward r (at_most f room (suc k) (drop r.consumed s) r.behind)

-- there are no more events than bytes
unfoldable pub run : (ℕ → ℕ) → ℕ → Bytes → State → Run
run room k s q = at_most (length s) room k s q

-- a host says "no more" once no piece is to come
abbrev pub host_step : List Bytes → Bytes → ℕ → State → Report
host_step ps rest room q = call_step (is_empty ps) rest room q

-- a host's run from event k on, over a rest and the pieces to come; room k is the most room that event k is given
pub data Feeds (room : ℕ → ℕ) : ℕ → Bytes → List Bytes → State → Run → Type 0 where
  -- it puts the next piece behind the rest, whenever it likes
  gets : {k : ℕ} {rest : Bytes} {p : Bytes} {ps : List Bytes} {q : State} {n : Run} → Feeds room k (rest ++ p) ps q n → Feeds room k rest (p ∷ ps) q n
  -- a step answers 1 or 2: it calls again, with more input or more room
  again : {k : ℕ} {rest : Bytes} {ps : List Bytes} {q : State} {n : Run} (free : ℕ)
      → ((host_step ps rest free q).answer ≡ 1) ⊎ ((host_step ps rest free q).answer ≡ 2)
      → Feeds room k rest ps (host_step ps rest free q).behind n → Feeds room k rest ps q n
  -- a step does an event: the next is handed the rest from where the event ended
  does : {k : ℕ} {rest : Bytes} {ps : List Bytes} {q : State} {n : Run} (free : ℕ) → free ≤ room k → (host_step ps rest free q).answer ≡ 0
      → Feeds room (suc k) (drop (host_step ps rest free q).consumed rest) ps (host_step ps rest free q).behind n
      → Feeds room k rest ps q (in_front (host_step ps rest free q) n)
  -- a step refuses: the run ends there, but at a 1 only if no piece is to come, and at a 2 only if it gave the most room
  ends : {k : ℕ} {rest : Bytes} {ps : List Bytes} {q : State} (free : ℕ) → free ≤ room k → ((host_step ps rest free q).answer ≡ 0 → ⊥)
      → ((host_step ps rest free q).answer ≡ 1 → ps ≡ []) → ((host_step ps rest free q).answer ≡ 2 → free ≡ room k)
      → Feeds room k rest ps q (ending (host_step ps rest free q))

-- what pyx2nt prints of its run from event k on: all lines, then the refusal, where a step or finish refused
unfoldable pub printed : ℕ → Run → Bytes
printed k n = n.output ++ last_line (when eqb n.answer 1 then (call_finish n.behind).answer else n.answer) (k + n.events)
