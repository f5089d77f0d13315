-- Events that write no lines: what their handlers promise, and how they come to it.
use Rattle.std.specs.Prelude.{ℕ, ◌+◌, ◌<◌, ◌≤◌, ◌≡◌, Bool, false, List, [], leb, length}
use Rattle.std.proofs.Math.Path.{refl}
use Rattle.std.proofs.Common.{ap, ◌∙◌, arith}
use Rattle.std.proofs.Math.Option.{Option}
use borrow.Author.Tests.{le-leb, lt-leb}
use Rattle.spec.specs.Limits as L
use Rattle.spec.specs.declared.Mode.{Mode}
use Rattle.spec.specs.Bytes.{Bytes, total, size_of}
use Rattle.spec.specs.Numbers.{refuse, good}
use Rattle.spec.specs.declared.Refusal.{Refusal}
use Rattle.spec.specs.declared.Refusal.TheVariants.{OverLimit}
use Rattle.spec.specs.Pyx.{Event}
use Rattle.spec.specs.NTriples.{write}
use Rattle.spec.specs.Document.{Frame as Element, with_frames, frame_bytes, held_bytes, fits}
use Rattle.spec.specs.RdfXml.{on_event}
use Rattle.copy.specs.Copy.{wrote_none}
use Rattle.state.specs.declared.Registers.{Registers}
use Rattle.state.specs.Meaning.{start_of, elements_of, doc_of}
use Rattle.state.specs.Valid.{Valid}
use Rattle.state_stack.specs.Change.{Holds, holds-doc}
use Rattle.state_inner.specs.Calls.{held_in}
use Rattle.state_inner.specs.Laws.{held_read}
use Rattle.event.specs.Result.{handled_by, refused_on, over_limit, all_fits, fits-held, IdsFit, stopped, done, Handles, Asks}
use Rattle.std.specs.Prelude.{Result, Ok, Err}
use Rattle.event.specs.declared.Done.{Done}

-- whatever room there is for lines: none is written
pub record Quietly (e : Event) (r : Registers) (o : Result Done Refusal) (fs bs is w fs' bs' is' w' : List ℕ) : Type 0 where
  pub handles : (out : List ℕ) → Handles e r o fs bs is w out fs' bs' is' w' out

-- an event writes no lines, and leaves these elements open
pub record Quiet (e : Event) (r : Registers) (fs bs is w : List ℕ) (es : List Element) : Type 0 where
  pub step : (ids : List Bytes) → on_event e (doc_of r fs bs is w ids) ≡ good ([], with_frames es (doc_of r fs bs is w ids))

-- held bytes with these elements open
unfoldable pub held_with : Option Bytes → List Element → ℕ
held_with start es = size_of start + total frame_bytes es

pub holds_self : {r : Registers} {fs bs is w : List ℕ} → Valid r fs bs is w → Holds r fs bs is w r.mode (start_of r w) (elements_of r fs bs is w) r.flags.rooted r.counts.labels
holds_self v = record { valid = v; chosen = refl; base = refl; elements = refl; root = refl; count = refl }

-- the same, said otherwise
pub holds_as : {r : Registers} {fs bs is w : List ℕ} {mode mode' : Mode} {start start' : Option Bytes} {es es' : List Element} {rooted rooted' : Bool} {labels labels' : ℕ}
    → Holds r fs bs is w mode start es rooted labels → mode ≡ mode' → start ≡ start' → es ≡ es' → rooted ≡ rooted' → labels ≡ labels' → Holds r fs bs is w mode' start' es' rooted' labels'
holds_as h o p q s t = record { valid = h.valid; chosen = h.chosen ∙ o; base = h.base ∙ p; elements = h.elements ∙ q; root = h.root ∙ s; count = h.count ∙ t }

-- held bytes, from the registers
pub held_with_lem : {r : Registers} {fs bs is w : List ℕ} {mode : Mode} {start : Option Bytes} {es : List Element} {rooted : Bool} {labels : ℕ}
    → Holds r fs bs is w mode start es rooted labels → held_in r ≡ held_with start es
unfolding held_with held_bytes
held_with_lem h = held_read h.valid [] ∙ ap held_bytes (holds-doc h [])

-- the answers of the definitions
module _ {e : Event} {r : Registers} {fs bs is w : List ℕ} where
  pub quiet_refused : {n : Refusal} → ((ids : List Bytes) → on_event e (doc_of r fs bs is w ids) ≡ refuse n) → Quietly e r (Err n) fs bs is w fs bs is w
  quiet_refused {n} q =
      record { handles = λ out. record { result = λ ids i. stopped (handled_by e (length out) (doc_of r fs bs is w ids) (q ids) ∙ refused_on (length out) n) } }

  module _ {es : List Element} (q : Quiet e r fs bs is w es) where
    held_behind : (ids : List Bytes) → held_bytes (with_frames es (doc_of r fs bs is w ids)) ≡ held_with (start_of r w) es
    unfolding held_bytes held_with with_frames doc_of
    held_behind ids = refl

    ids_behind : (ids : List Bytes) → (with_frames es (doc_of r fs bs is w ids)).ids ≡ ids
    unfolding with_frames doc_of
    ids_behind ids = refl

    fits_behind : (ids : List Bytes) → IdsFit ids → fits (with_frames es (doc_of r fs bs is w ids)) ≡ leb (held_with (start_of r w) es) 49_152
    unfolding L.all
    fits_behind ids i = fits-held (with_frames es (doc_of r fs bs is w ids)) (rw (ids_behind ids) i) ∙ rw (held_behind ids)

    -- 7: too much would be held
    pub quiet_over : 49_152 < held_with (start_of r w) es → Quietly e r (Err OverLimit) fs bs is w fs bs is w
    quiet_over l =
        record {
          handles =
              λ out.
              record {
                result =
                    λ ids i.
                    stopped (
                    handled_by e (length out) (doc_of r fs bs is w ids) (q.step ids)
                    ∙ over_limit (length out) ([], with_frames es (doc_of r fs bs is w ids)) (fits_behind ids i ∙ lt-leb (held_with (start_of r w) es) 49_152 l)
                    );
              };
        }

    -- done
    pub quiet_done : {r' : Registers} {fs' bs' is' w' : List ℕ} → Asks r fs bs is w → held_with (start_of r w) es ≤ 49_152
        → Holds r' fs' bs' is' w' r.mode (start_of r w) es r.flags.rooted r.counts.labels → r'.flags.closed ≡ false
        → Quietly e r (Ok (record { written = 0; registers = r' })) fs bs is w fs' bs' is' w'
    unfolding write with_frames doc_of
    quiet_done {r'} {fs'} {bs'} {is'} {w'} a l h m =
        record {
          handles =
              λ out.
              record {
                result =
                    λ ids i.
                    done a.valid refl
                    (record {
                      step = ([], with_frames es (doc_of r fs bs is w ids));
                      answer =
                          handled_by e (length out) (doc_of r fs bs is w ids) (q.step ids)
                          ∙ all_fits (length out) ([], with_frames es (doc_of r fs bs is w ids)) (fits_behind ids i ∙ le-leb (held_with (start_of r w) es) 49_152 l) (le-leb 0 (length out) (omega arith));
                      wrote = wrote_none (omega arith);
                      means = record { valid = h.valid; mark = m; doc = holds-doc h ids };
                    });
              };
        }
