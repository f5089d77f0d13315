-- How start and finish come to their answers.
use Rattle.std.specs.Prelude.{ℕ, ◌≤◌, ◌<◌, Bool, List, eqb, leb, length}
use Rattle.std.specs.Prelude.{Option as Maybe, None, Some, is_some}
use denote.Bor.{Bor}
use Rattle.std.proofs.Math.Path.{◌≡◌, refl, ap}
use Rattle.std.proofs.Common.{sym, ◌∙◌, arith}
use Rattle.std.proofs.Math.Bool.{true, false}
use Rattle.std.proofs.Math.Option.{some}
use borrow.Author.Tests.{eqb-true, leb-true, le-leb, lt-leb}
use Rattle.spec.specs.Limits.{work_store_bytes, id_store_bytes, most_name_bytes}
use Rattle.spec.specs.Bytes.{Bytes, ◌>>◌, require◌or◌}
use Rattle.spec.specs.Numbers.{refuse, good}
use Rattle.spec.specs.Numbers as numbers
use Rattle.spec.specs.declared.Refusal.{Refusal}
use Rattle.spec.specs.declared.Refusal.TheVariants.{BadState, Closed, NotWellFormed, OverLimit, BadIri}
use Rattle.spec.specs.Rfc3987.{is_iri}
use Rattle.spec.specs.declared.Mode.{Mode}
use Rattle.spec.specs.Document.{fresh}
use Rattle.spec.specs.RdfXml.{finish}
use Rattle.spec.specs.Calls.{is_open, mark_closed, may_start, started, call_start, finished, call_finish}
use Rattle.spec.proofs.Booleans.{and_left, and_right}
use Rattle.copy.specs.Copy.{Put, part, put-fits, wrote_part, wrote_none}
use Rattle.state_words.specs.Parts.{TABLE}
use Rattle.state_words.specs.Words.{pick}
use Rattle.state_ids.specs.Ids.{ids_of}
use Rattle.state.specs.declared.Registers.{Registers}
use Rattle.state.specs.Valid.{Valid}
use Rattle.state.specs.Live.{started_with, started_means}
use Rattle.state.specs.Live.{started as valid-fresh}
use Rattle.event.specs.Progress.{Lent, doc_in}
use Rattle.reader_contract.specs.declared.State.{State}
use Rattle.reader_contract.specs.declared.Report.{Report}
use Rattle.reader_contract.specs.Meaning.{base_of, text_of, lawful_state, meaning_of, closed_state, marked, meaning-closed, means_unlawful, means_closed, means_open, over_in, over_read, Fresh, fresh_means}
use Rattle.reader_contract.specs.Meets.{Starts, Finishes, lengths_right, refusing, doing, meets_refused, meets_marked}
use Rattle.std.specs.Prelude.{Result, Ok, Err}

-- an answer, in the definitions' words
abbrev pub told : Result Unit Refusal → numbers.Answer (Unit {0})
told (Ok _) = good tt
told (Err n) = refuse n

-- may a document start?
pub record Judges (a : Result Unit Refusal) (lengths based : Bool) (base : Bytes) : Type 0 where
  pub means : told a ≡ may_start lengths (base_of based base)

-- how many bytes of `base` are the start base
unfoldable pub size_of_base : Bool → Bytes → ℕ
size_of_base based b = pick based (length b) 0

-- ---- the refusals of start, in order

module _ {base : Bytes} {l based : Bool} where
  pub no_lengths : l ≡ false → Judges (Err BadState) l based base
  unfolding may_start ◌>>◌ require◌or◌
  no_lengths e = record { means = rw e (go based) }
    where
      go : (t : Bool) → refuse BadState ≡ may_start false (base_of t base)
      go true = refl
      go false = refl

  module _ (e : l ≡ true) where
    pub no_base : based ≡ false → Judges (Ok tt) l based base
    unfolding may_start require◌or◌
    no_base f = record { means = rw (f, e) }

    module _ (f : based ≡ true) where
      pub no_iri : is_iri base ≡ false → Judges (Err BadIri) l based base
      unfolding may_start ◌>>◌ require◌or◌
      no_iri h = record { means = rw (f, e, h) }

      module _ (h : is_iri base ≡ true) where
        pub base-long : 1_024 < length base → Judges (Err OverLimit) l based base
        unfolding may_start ◌>>◌ require◌or◌ most_name_bytes
        base-long b = record { means = rw (f, e, h, lt-leb (length base) 1_024 b) }

        pub base_good : length base ≤ 1_024 → Judges (Ok tt) l based base
        unfolding may_start ◌>>◌ require◌or◌ most_name_bytes
        base_good b = record { means = rw (f, e, h, le-leb (length base) 1_024 b) }

-- ---- start

-- what an accepted start knows
pub record Allowed (l based : Bool) (base : Bytes) : Type 0 where
  pub lengths : l ≡ true
  pub short : size_of_base based base ≤ 1_024

allowed : (l based : Bool) (base : Bytes) → may_start l (base_of based base) ≡ good tt → Allowed l based base
unfolding may_start size_of_base ◌>>◌ require◌or◌ most_name_bytes
allowed true false base h = record { lengths = refl; short = omega arith }
allowed false false base h = let z : ◌≡◌ {A = ℕ} 0 1 = cc in absurd (omega arith)
allowed false true base h = let z : ◌≡◌ {A = ℕ} 0 1 = cc in absurd (omega arith)
allowed true true base h = go (is_iri base) (leb (length base) 1_024) refl h
  where
    go : (a b : Bool) → leb (length base) 1_024 ≡ b → ((require a or BadIri) >> (require b or OverLimit)) ≡ good tt → Allowed true true base
    go true true e h = record { lengths = refl; short = leb-true _ _ e }
    go true false e h = let z : ◌≡◌ {A = ℕ} 0 1 = cc in absurd (omega arith)
    go false b e h = let z : ◌≡◌ {A = ℕ} 0 1 = cc in absurd (omega arith)

-- the base stands at the front of the work store
base_stored : (based : Bool) (base w w' : List ℕ) {r : Bool} → length base ≤ length w → Put w 0 base w' r
    → base_of based (part w' 0 (size_of_base based base)) ≡ base_of based base
unfolding size_of_base
base_stored false base w w' h p = refl
base_stored true base w w' h p = ap some (wrote_part (put-fits p (omega arith)))

size-empty : (based : Bool) (base : Bytes) → pick based true (eqb (size_of_base based base) 0) ≡ true
unfolding size_of_base
size-empty true base = refl
size-empty false base = refl

pub size-within : (based : Bool) (base : Bytes) → size_of_base based base ≤ length base
unfolding size_of_base
size-within true base = omega arith
size-within false base = omega arith

-- the base that is lent is one whole text
pub text_size : (base : Maybe (Bor Bytes)) → size_of_base (is_some base) (text_of base) ≡ length (text_of base)
unfolding size_of_base
text_size None = refl
text_size (Some b) = refl

-- accepted: the registers are those of a fresh document, and the base stands at the front of the work store
pub record Opened (mode : Mode) (based : Bool) (base : Bytes) (w i : List ℕ) (r : Registers)
    (w' : List ℕ) : Type 0 where
  pub may : may_start (lengths_right w i) (base_of based base) ≡ good tt
  pub registers : r ≡ started_with mode based (size_of_base based base)
  pub stored : base_of based (part w' 0 (size_of_base based base)) ≡ base_of based base

-- refused, it changes nothing
abbrev pub BeginsBy : Mode → Bool → Bytes → List ℕ → List ℕ → Result Registers Refusal → List ℕ → Type 0
BeginsBy mode based base w i (Ok r) w' = Opened mode based base w i r w'
BeginsBy mode based base w i (Err n) w' =
    (may_start (lengths_right w i) (base_of based base) ≡ refuse n) × (w' ≡ w)

-- what a start did on lent stores
pub record Begins (mode : Mode) (based : Bool) (base : Bytes) (w i : List ℕ) (b : Result Registers Refusal) (w' : List ℕ) : Type 0 where
  pub store : length w' ≡ length w
  pub cases : BeginsBy mode based base w i b w'

-- what is known where it was accepted
module _ (based : Bool) (base : Bytes) (w i : List ℕ) (h : may_start (lengths_right w i) (base_of based base) ≡ good tt) where
  may : Allowed (lengths_right w i) based base
  may = allowed (lengths_right w i) based base h

  store_whole : length w ≡ 65_536
  unfolding work_store_bytes
  store_whole = eqb-true (length w) 65_536 (and_left _ _ may.lengths)

  ids_whole : length i ≡ 32_768
  unfolding id_store_bytes
  ids_whole = eqb-true (length i) 32_768 (and_right (eqb (length w) work_store_bytes) _ may.lengths)

module _ (mode : Mode) (based : Bool) (base w i : List ℕ) {a : Result Unit Refusal}
    (h : Judges a (lengths_right w i) based base) where
  pub begin_refused : {n : Refusal} → a ≡ Err n → Begins mode based base w i (Err n) w
  begin_refused q = record { store = refl; cases = (sym h.means ∙ ap told q, refl) }

  pub begin_done : {w' t : List ℕ} {there z : Bool} {r : Registers} → a ≡ Ok tt → size_of_base based base ≡ length base
      → t ≡ base → there ≡ based → Put w 0 t w' z → r ≡ started_with mode there (length t)
      → Begins mode based base w i (Ok r) w'
  begin_done {w'} q k f g p e =
      let m : may_start (lengths_right w i) (base_of based base) ≡ good tt = sym h.means ∙ ap told q in
      let b = (may based base w i m).short in
      record {
        store = p.same;
        cases = record {
          may = m;
          registers = rw (k, ← f, ← g) e;
          stored = base_stored based base w w' (omega (arith, k, store_whole based base w i m)) (rw f at p);
        };
      }

-- a program goes on from there over tables of its own, with no rdf:ID
module _ {mode : Mode} {based : Bool} {base w i : List ℕ} {r : Registers} (l : Lent)
    (o : Opened mode based base w i r l.work) where
  pub opened_means : doc_in r 0 l ≡ fresh mode (base_of based base)
  unfolding doc_in ids_of
  opened_means = rw o.registers (started_means mode based (size_of_base based base) l.frames l.bindings l.inners l.work ∙ ap (fresh mode) o.stored)

  pub opened_valid : length l.frames ≡ TABLE → length l.bindings ≡ 384 → length l.inners ≡ 192 → length l.work ≡ 65_536
      → Valid r l.frames l.bindings l.inners l.work
  opened_valid f b n k =
      let s = (may based base w i o.may).short in
      rw o.registers
      (valid-fresh mode based (size_of_base based base) l.frames l.bindings l.inners l.work
      f b n k (omega arith) (size-empty based base))

module _ (mode : Mode) (based : Bool) (base : Bytes) (s : State) (w i : List ℕ) {b : Result Registers Refusal} {w' : List ℕ}
    (h : Begins mode based base w i b w') where
  pub start_refused : {n : Refusal} {r : Report} → b ≡ Err n → r ≡ refusing s n
      → Starts mode based base s w i r w'
  unfolding call_start started
  start_refused {n} q e =
      let m : BeginsBy mode based base w i (Err n) w' = rw q at h.cases in
      rw (e, m.1) (record { meets = meets_refused {left = λ n. s} n (rw m.0) refl })

  pub start_done : {g : Registers} {t : Bytes} {there : Bool} {s' : State} {r : Report} → b ≡ Ok g → size_of_base based base ≡ length base
      → t ≡ base → there ≡ based → Fresh mode there (length t) s' → r ≡ doing s' → Starts mode based base s w i r w'
  unfolding call_start started
  start_done {g} {s' = s'} q k x y z e =
      let f : Fresh mode based (length base) s' = rw (x, y) at z in
      let o : Opened mode based base w i g w' = rw q at h.cases in
      let m = o.may in
      let short = (may based base w i m).short in
      let begun : meaning_of s' w' i ≡ is_open (fresh mode (base_of based base)) =
      fresh_means w' i f (h.store ∙ store_whole based base w i m) (ids_whole based base w i m) (omega (arith, k)) (rw (← k) (size-empty based base)) ∙ ap (λ o. is_open (fresh mode o)) (rw (← k) o.stored) in
      rw e
      (record {
        meets = record {
          store = h.store;
          id_store = refl;
          room = refl;
          answer = rw m;
          consumed = rw m;
          wrote = rw m (wrote_none (omega arith));
          behind = rw m begun;
          kept = λ x y. let z : ◌≡◌ {A = ℕ} 0 1 = cc in absurd (omega arith);
        };
      })

-- ---- finish

module _ {s : State} {w i : List ℕ} {r : Report} where
  pub finish_unlawful : lawful_state s w i ≡ false → r ≡ refusing s BadState → Finishes s w i r
  unfolding call_finish marked
  finish_unlawful h e = rw e (record { meets = meets_marked s BadState (rw (means_unlawful s w i h)) })

  module _ (h : lawful_state s w i ≡ true) where
    pub finish-closed : s.registers.flags.closed ≡ true → r ≡ refusing s Closed → Finishes s w i r
    unfolding call_finish marked
    finish-closed c e = rw e (record { meets = meets_marked s Closed (rw (means_closed s w i h c)) })

    module _ (c : s.registers.flags.closed ≡ false) where
      pub finish_open : over_in s.registers ≡ false → r ≡ refusing (closed_state s) NotWellFormed → Finishes s w i r
      unfolding call_finish finished finish require◌or◌ marked
      finish_open o e = rw e (record { meets = meets_marked s NotWellFormed (rw (means_open s w i h c, over_read s w i, o)) })

      pub finish_done : over_in s.registers ≡ true → r ≡ doing (closed_state s) → Finishes s w i r
      unfolding call_finish finished finish require◌or◌ mark_closed
      finish_done o e =
          rw e
          (record {
            meets = record {
              store = refl;
              id_store = refl;
              room = refl;
              answer = rw (means_open s w i h c, over_read s w i, o);
              consumed = rw (means_open s w i h c, over_read s w i, o);
              wrote = rw (means_open s w i h c, over_read s w i, o) (wrote_none (omega arith));
              behind = rw (means_open s w i h c, over_read s w i, o) (meaning-closed s w i ∙ rw (means_open s w i h c));
              kept = λ x y. let z : ◌≡◌ {A = ℕ} 0 1 = cc in absurd (omega arith);
            };
          })
