-- The contracts of the calls for a host: crate `reader`'s, for the state that the bytes stand for.
use Rattle.std.specs.Prelude.{ℕ, ◌≤◌, ◌<◌, ◌≡◌, Bool, not, List, eqb, length}
use Rattle.std.proofs.Math.Option.{none, some}
use Rattle.spec.specs.Bytes.{Bytes}
use Rattle.spec.specs.declared.Refusal.{Refusal}
use Rattle.spec.specs.declared.Mode.{Mode}
use Rattle.reader_contract.specs.declared.State.{State}
use Rattle.reader_contract.specs.declared.Report.{Report}
use Rattle.reader_contract.specs.Meaning.{Nothing}
use Rattle.reader_contract.specs.Meets.{number_of, Starts, Steps, Finishes}
use Rattle.reader_host.specs.Image.{state_bytes, mode_of, encode, decode}
use Rattle.std.specs.Prelude.{Option, Some, None, Ok, Err}

-- every number but 0 says yes
abbrev pub yes : ℕ → Bool
yes n = not (eqb n 0)

-- the bytes of a state
pub record Stands (b : Bytes) (s : State) : Type 0 where
  pub read : decode b ≡ some s
  pub written : b ≡ encode s

-- what is read from bytes
pub record Loads (b : Bytes) (s : Option State) : Type 0 where
  pub bad : s ≡ None → decode b ≡ none
  pub good : (t : State) → s ≡ Some t → Stands b t

-- From the bytes of s a call of `reader` gave this report; the host has its number, and the state behind it in the bytes.
pub record Does (b : Bytes) (s : State) (R : Report → Type 0) (n : ℕ) (b' : Bytes) : Type 0 where
  pub before : b ≡ encode s
  pub report : Report
  pub call : R report
  pub answer : n ≡ number_of report.answer
  pub behind : Stands b' report.state

-- ---- start: whatever the state's bytes hold

-- from the state before any document; refused, the bytes stay
pub record Begins (mode : Mode) (based : Bool) (base : Bytes) (b w i : List ℕ) (n : ℕ) (b' w' : List ℕ) : Type 0 where
  pub before : State
  pub nothing : Nothing before
  pub report : Report
  pub call : Starts mode based base before w i report w'
  pub answer : n ≡ number_of report.answer
  pub refused : (k : Refusal) → report.answer ≡ Err k → b' ≡ b
  pub done : report.answer ≡ Ok tt → Stands b' report.state

-- in the mode of a number, if it is one's
pub record StartsIn (mode : ℕ) (based : Bool) (base : Bytes) (b w i : List ℕ) (n : ℕ) (b' w' : List ℕ) : Type 0 where
  pub bad : (length b ≡ state_bytes → ⊥) → (n ≡ 3) × (b' ≡ b) × (w' ≡ w)
  pub unknown : 1 < mode → (n ≡ 3) × (b' ≡ b) × (w' ≡ w)
  pub good : length b ≡ state_bytes → mode ≤ 1 → Begins (mode_of mode) based base b w i n b' w'

-- ---- step and finish: bytes that stand for no state get 3

-- nothing has changed
pub record Still (b w i out b' w' i' out' : List ℕ) : Type 0 where
  pub state : b' ≡ b
  pub work : w' ≡ w
  pub ids : i' ≡ i
  pub output : out' ≡ out

-- c bytes are consumed, k written
pub record StepsIn (last : Bool) (input : Bytes) (b w i out : List ℕ) (n c k : ℕ) (b' w' i' out' : List ℕ) : Type 0 where
  pub bad : decode b ≡ none → (n ≡ 3) × (c ≡ 0) × (k ≡ 0) × Still b w i out b' w' i' out'
  pub good : (s : State) → decode b ≡ some s → Does b s (λ r. Steps last input s w i out r w' i' out' × (c ≡ r.consumed) × (k ≡ r.written)) n b'

pub record FinishesIn (b w i : List ℕ) (n : ℕ) (b' : List ℕ) : Type 0 where
  pub bad : decode b ≡ none → (n ≡ 3) × (b' ≡ b)
  pub good : (s : State) → decode b ≡ some s → Does b s (λ r. Finishes s w i r) n b'
