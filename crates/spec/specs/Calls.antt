-- Document 01, "Events" and "Numbers returned": the calls start, step and finish.
use Rattle.std.specs.Prelude.{Bool, [], ℕ, leb, length}
use Rattle.std.proofs.Math.Option.{Option, none, some}
use Rattle.spec.specs.Bytes.{Bytes, ◌>>=◌, ◌>>◌, require◌or◌}
use Rattle.spec.specs.Numbers.{number, Effect, stays_open, unchanged, becomes_closed, effect, Answer, refuse, good}
use Rattle.spec.specs.declared.Refusal.{Refusal}
use Rattle.spec.specs.declared.Refusal.TheVariants.{Incomplete, NoRoom, BadState, Closed, NotPyx, OverLimit, BadIri}
use Rattle.spec.specs.Limits.{most_name_bytes}
use Rattle.spec.specs.Rfc3987.{is_iri}
use Rattle.spec.specs.Pyx.{read_event}
use Rattle.spec.specs.PyxCut.{Cut, wait, unended, too_long, whole, cut}
use Rattle.spec.specs.PyxCut as C
use Rattle.spec.specs.NTriples.{write}
use Rattle.spec.specs.declared.Mode.{Mode}
use Rattle.spec.specs.Modes.{base_mode}
use Rattle.spec.specs.Document.{Doc, fresh}
use Rattle.spec.specs.RdfXml.{next, finish}
use Rattle.spec.specs.RdfXml as X

-- what a call is handed: a document, open, or closed by finish or a refusal; or what the rules of docs/STATE.md do not allow
pub data State : Type 0 where
  is_open is_closed : Doc → State
  unlawful : State

-- what a call reports, and the state that it leaves
pub record Report : Type 0 where
  pub answer : ℕ
  pub consumed : ℕ
  pub output : Bytes
  pub behind : State

-- the state before any document is closed
unfoldable pub no_document : State
no_document = is_closed (fresh base_mode none)

-- the closing mark, and nothing more
unfoldable pub mark_closed : State → State
mark_closed (is_open d) = is_closed d
mark_closed (is_closed d) = is_closed d
mark_closed unlawful = unlawful

-- column "Document"
unfoldable pub marked_by : Effect → State → State
marked_by stays_open s = s
marked_by unchanged s = s
marked_by becomes_closed s = mark_closed s

-- every non-zero answer consumes 0 and writes 0
unfoldable pub refused : Refusal → State → Report
refused r s = record { answer = number r; consumed = 0; output = []; behind = s }

-- by the column
unfoldable pub refused_in : State → Refusal → Report
refused_in s r = refused r (marked_by (effect r) s)

-- ---- start

-- 3: store lengths only, whatever they hold; 11: a base is an IRI; 7: of at most 1,024 bytes
unfoldable pub may_start : Bool → Option Bytes → Answer (Unit {0})
may_start lengths none = require lengths or BadState
may_start lengths (some b) = do
  require lengths or BadState
  require is_iri b or BadIri
  require leb (length b) most_name_bytes or OverLimit

-- refused, it changes nothing; accepted, it empties both stores
unfoldable pub started : Mode → Option Bytes → State → Answer (Unit {0}) → Report
started m base s (refuse r) = refused r s
started m base s (good _) = record { answer = 0; consumed = 0; output = []; behind = is_open (fresh m base) }

-- whether both stores have their lengths, the mode, the base if any, the state
unfoldable pub call_start : Bool → Mode → Option Bytes → State → Report
call_start lengths m base s = started m base s (may_start lengths base)

-- ---- step

-- event length (7), 1, 5: the bytes of the first event
unfoldable pub first_event : Cut → Answer Bytes
first_event too_long = refuse OverLimit
first_event wait = refuse Incomplete
first_event unended = refuse NotPyx
first_event (whole e) = good e

-- an accepted event: how many bytes it has, its lines, and the document behind it
pub record Accepted : Type 0 where
  pub size : ℕ
  pub lines : Bytes
  pub behind : Doc

-- 5; all that the event itself can be refused for; 2: its lines exceed the output room
unfoldable pub accept : Bytes → ℕ → Doc → Answer Accepted
accept bytes room d = do
  event ← read_event bytes
  s ← next event d
  require leb (length (write s.0)) room or NoRoom
  good (record { size = length bytes; lines = write s.0; behind = s.1 })

-- what a step reports of an open document
unfoldable pub stepped : Doc → Answer Accepted → Report
stepped d (refuse r) = refused_in (is_open d) r
stepped d (good a) = record { answer = 0; consumed = a.size; output = a.lines; behind = is_open a.behind }

-- the flag that no more follows, the rest of the input, the free output, the state; 3 and 4 come first
unfoldable pub call_step : Bool → Bytes → ℕ → State → Report
call_step last rest room unlawful = refused_in unlawful BadState
call_step last rest room (is_closed d) = refused_in (is_closed d) Closed
call_step last rest room (is_open d) = stepped d (first_event (cut last rest) >>= λ bytes. accept bytes room d)

-- ---- finish

-- accepted, it closes
unfoldable pub finished : Doc → Answer (Unit {0}) → Report
finished d (refuse r) = refused_in (is_open d) r
finished d (good _) = record { answer = 0; consumed = 0; output = []; behind = is_closed d }

-- finish: 3, 4, 6
unfoldable pub call_finish : State → Report
call_finish unlawful = refused_in unlawful BadState
call_finish (is_closed d) = refused_in (is_closed d) Closed
call_finish (is_open d) = finished d (finish d)

unfoldable pub all : Unit {0}
unfolding C.all X.all no_document mark_closed marked_by refused refused_in may_start started call_start first_event accept stepped call_step finished call_finish
all = tt
