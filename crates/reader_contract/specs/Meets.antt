-- The contract of a call.
use Rattle.std.specs.Prelude.{ℕ, ◌≡◌, refl, Bool, ◌&&◌, List, [], eqb, ltb, length}
use Rattle.std.proofs.Common.{arith}
use Rattle.spec.specs.Limits.{work_store_bytes, id_store_bytes}
use Rattle.spec.specs.Bytes.{Bytes}
use Rattle.spec.specs.Numbers.{number, closes}
use Rattle.spec.specs.declared.Refusal.{Refusal}
use Rattle.spec.specs.declared.Refusal.TheVariants.{Incomplete, NoRoom, BadState, Closed, NotPyx, NotWellFormed, OverLimit, NoNamespace, NotNcName, BadLanguage, BadIri, RepeatedId, BadLabel, Reserved, TwoNames, StrayText, EmptyLiteral, LabelsSpent, ProfileBroken}
use Rattle.spec.specs.declared.Mode.{Mode}
use Rattle.spec.specs.Calls.{refused, refused_in, call_start, call_step, call_finish}
use Rattle.spec.specs.Calls as calls
use Rattle.copy.specs.Copy.{Wrote, wrote_none}
use Rattle.event.specs.declared.Advance.{Advance}
use Rattle.reader_contract.specs.declared.State.{State}
use Rattle.reader_contract.specs.declared.Report.{Report}
use Rattle.reader_contract.specs.Meaning.{base_of, meaning_of, marked, meaning-marked}
use Rattle.std.specs.Prelude.{Result, Ok, Err}

-- document 01, "Numbers returned"
abbrev pub number_of : Result Unit Refusal → ℕ
number_of (Ok _) = 0
number_of (Err n) = number n

-- all but 1 to 4 close the document
pub closing_numbers : (r : Refusal) → ltb 4 (number r) ≡ closes r
closing_numbers Incomplete = refl
closing_numbers NoRoom = refl
closing_numbers BadState = refl
closing_numbers Closed = refl
closing_numbers NotPyx = refl
closing_numbers NotWellFormed = refl
closing_numbers OverLimit = refl
closing_numbers NoNamespace = refl
closing_numbers NotNcName = refl
closing_numbers BadLanguage = refl
closing_numbers BadIri = refl
closing_numbers RepeatedId = refl
closing_numbers BadLabel = refl
closing_numbers Reserved = refl
closing_numbers TwoNames = refl
closing_numbers StrayText = refl
closing_numbers EmptyLiteral = refl
closing_numbers LabelsSpent = refl
closing_numbers ProfileBroken = refl

-- ---- the contract

-- a call that is refused leaves this state, and what is lent as it was
pub record Kept (s : State) (w i out : List ℕ) (r : Report) (w' i' out' : List ℕ) : Type 0 where
  pub state : r.state ≡ s
  pub work : w' ≡ w
  pub ids : i' ≡ i
  pub output : out' ≡ out

-- What a call did to state, work store, ID store and output. `d` is what the definitions report; a refusal n leaves `left n`.
pub record Meets (d : calls.Report) (left : Refusal → State) (w i out : List ℕ) (r : Report) (w' i' out' : List ℕ) : Type 0 where
  pub store : length w' ≡ length w
  pub id_store : length i' ≡ length i
  pub room : length out' ≡ length out
  pub answer : number_of r.answer ≡ d.answer
  pub consumed : r.consumed ≡ d.consumed
  pub wrote : Wrote out out' 0 r.written d.output
  pub behind : meaning_of r.state w' i' ≡ d.behind
  pub kept : (n : Refusal) → r.answer ≡ Err n → Kept (left n) w i out r w' i' out'

-- both stores have their lengths
abbrev pub lengths_right : List ℕ → List ℕ → Bool
lengths_right w i = eqb (length w) work_store_bytes && eqb (length i) id_store_bytes

-- refused, it changes nothing
pub record Starts (mode : Mode) (based : Bool) (base : Bytes) (s : State) (w i : List ℕ) (r : Report)
    (w' : List ℕ) : Type 0 where
  pub meets : Meets (call_start (lengths_right w i) mode (base_of based base) (meaning_of s w i)) (λ n. s) w i [] r w' i []

-- refused, it changes the mark alone, where the refusal closes
pub record Steps (last : Bool) (input : Bytes) (s : State) (w i out : List ℕ) (r : Report) (w' i' out' : List ℕ) : Type 0 where
  pub meets : Meets (call_step last input (length out) (meaning_of s w i)) (λ n. marked n s) w i out r w' i' out'

-- the same
pub record Finishes (s : State) (w i : List ℕ) (r : Report) : Type 0 where
  pub meets : Meets (call_finish (meaning_of s w i)) (λ n. marked n s) w i [] r w i []

-- ---- reports with nothing consumed and nothing written

abbrev pub bare : State → Result Unit Refusal → Report
bare s a = record { state = s; answer = a; consumed = 0; written = 0 }

abbrev pub refusing : State → Refusal → Report
refusing s n = bare s (Err n)

abbrev pub doing : State → Report
doing s = bare s (Ok tt)

-- ---- the report of an event, with the state that is made of what it left

abbrev pub state_of : Advance → List ℕ → List ℕ → List ℕ → List ℕ → List ℕ → State
state_of a fs bs is ia il =
    record { registers = a.registers; frames = fs; bindings = bs; inners = is; ids = record { count = a.count; used = a.used; at = ia; len = il } }

abbrev pub accepting : ℕ → Advance → List ℕ → List ℕ → List ℕ → List ℕ → List ℕ → Report
accepting n a fs bs is ia il = record { state = state_of a fs bs is ia il; answer = Ok tt; consumed = n; written = a.written }

-- ---- refused

same_refusal : {m n : Refusal} → ◌≡◌ {A = Result (Unit {0}) Refusal} (Err m) (Err n) → m ≡ n
same_refusal e = cc

-- refused, with this state behind, which means what the definitions have there
pub meets_refused : {d : calls.Report} {left : Refusal → State} {w i out : List ℕ} {t : calls.State} (n : Refusal) → d ≡ refused n t → meaning_of (left n) w i ≡ t
    → Meets d left w i out (refusing (left n) n) w i out
unfolding refused
meets_refused {left} {w} {i} {out} n e m =
    record {
      store = refl;
      id_store = refl;
      room = refl;
      answer = rw e;
      consumed = rw e;
      wrote = rw e (wrote_none (omega arith));
      behind = rw e m;
      kept = λ k q. rw (same_refusal q) (record { state = refl; work = refl; ids = refl; output = refl });
    }

-- by the column "Document"
pub meets_marked : {d : calls.Report} (s : State) {w i out : List ℕ} (n : Refusal) → d ≡ refused_in (meaning_of s w i) n
    → Meets d (λ n. marked n s) w i out (refusing (marked n s) n) w i out
unfolding refused_in
meets_marked s {w} {i} n e = meets_refused {left = λ n. marked n s} n e (meaning-marked n s w i)
