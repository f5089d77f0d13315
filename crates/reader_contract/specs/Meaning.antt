-- What a state means beside its stores, for the calls of `spec`.
use Rattle.std.specs.Prelude.{ℕ, zero, suc, ◌≤◌, ◌≡◌, refl, Bool, true, false, ◌&&◌, List, [], ◌++◌, eqb, length}
use Rattle.std.specs.Prelude.{Option as Maybe, None, Some}
use denote.Bor.{Bor}
use Rattle.std.proofs.Math.Path.{sym}
use Rattle.std.proofs.Common.{ap, ◌∙◌, arith, ne_eqb}
use Rattle.std.proofs.Math.Option.{Option, none, some}
use Rattle.spec.specs.Limits.{id_store_bytes, most_ids}
use Rattle.spec.specs.Bytes.{Bytes, is_empty}
use Rattle.spec.specs.Numbers.{Effect, stays_open, unchanged, becomes_closed, effect, closes}
use Rattle.spec.specs.declared.Refusal.{Refusal}
use Rattle.spec.specs.declared.Mode.{Mode}
use Rattle.spec.specs.Modes.{base_mode}
use Rattle.spec.specs.Document.{Doc, fresh}
use Rattle.spec.specs.Calls.{is_open, is_closed, unlawful, no_document, mark_closed, marked_by}
use Rattle.spec.specs.Calls as calls
use Rattle.spec.proofs.Booleans.{and_left, and_right}
use Rattle.copy.specs.Copy.{part}
use Rattle.state_words.specs.Parts.{TABLE}
use Rattle.state_words.specs.Words.{pick}
use Rattle.state_ids.specs.Ids.{valid_ids}
use Rattle.state_ids.specs.Ids as table
use Rattle.state_ids.specs.Adding as adding
use Rattle.state.specs.declared.Registers.{Registers}
use Rattle.state.specs.Meaning.{start_of, frames_of, inners_of, elements_of, doc_of}
use Rattle.state.specs.Valid.{valid_state, counts_ok, noted_ok, Valid}
use Rattle.state.specs.Valid as state
use Rattle.state.specs.Live.{started_with, started, started_means}
use Rattle.event.specs.Progress.{Lent, lent, doc_in, Lawful}
use Rattle.reader_contract.specs.declared.State.{State}

-- the start base, if there is one
abbrev pub base_of : Bool → Bytes → Option Bytes
base_of based b = pick based (some b) none

-- the bytes of a base that is lent, and none without one
abbrev pub text_of : Maybe (Bor Bytes) → Bytes
text_of None = []
text_of (Some b) = b.now

-- all that is lent for a state, the output too
abbrev pub lent_by : State → List ℕ → List ℕ → List ℕ → Lent
lent_by s w i out = lent s.frames s.bindings s.inners w s.ids.at s.ids.len i out

-- are the parts of a state by the rules of docs/STATE.md, wherever they lie, beside an ID store of n bytes?
abbrev pub lawful_parts : Registers → List ℕ → List ℕ → List ℕ → List ℕ → ℕ → ℕ → List ℕ → List ℕ → ℕ → Bool
lawful_parts r frames bindings inners w count used at len n = valid_state r frames bindings inners w && valid_ids count used at len n

-- is a state?
unfoldable pub lawful_state : State → List ℕ → List ℕ → Bool
lawful_state s w i = lawful_parts s.registers s.frames s.bindings s.inners w s.ids.count s.ids.used s.ids.at s.ids.len (length i)

-- the document that is kept in a state, the work store and the ID store
unfoldable pub doc_from : State → List ℕ → List ℕ → Doc
doc_from s w i = doc_in s.registers s.ids.count (lent_by s w i [])

unfoldable pub meaning_of : State → List ℕ → List ℕ → calls.State
meaning_of s w i = pick (lawful_state s w i) (pick s.registers.flags.closed (is_closed (doc_from s w i)) (is_open (doc_from s w i))) unlawful

-- ---- the test

module _ (r : Registers) (frames bindings inners w : List ℕ) (count used : ℕ) (at len : List ℕ) (n : ℕ) where
  pub not_valid : valid_state r frames bindings inners w ≡ false → false ≡ lawful_parts r frames bindings inners w count used at len n
  not_valid h = rw h

  pub table_decides : {b : Bool} → valid_state r frames bindings inners w ≡ true → b ≡ valid_ids count used at len n
      → b ≡ lawful_parts r frames bindings inners w count used at len n
  table_decides h e = rw h e

module _ (s : State) (w i : List ℕ) where
  pub lawful_as_parts : {b : Bool}
      → b ≡ lawful_parts s.registers s.frames s.bindings s.inners w s.ids.count s.ids.used s.ids.at s.ids.len (length i)
      → lawful_state s w i ≡ b
  unfolding lawful_state
  lawful_as_parts e = sym e

-- ---- the closing mark

abbrev pub closed_registers : Registers → Registers
closed_registers r =
    record {
      mode = r.mode;
      flags = record { closed = true; rooted = r.flags.rooted; based = r.flags.based };
      store = r.store;
      counts = r.counts;
    }

abbrev pub closed_state : State → State
closed_state s = record { registers = closed_registers s.registers; frames = s.frames; bindings = s.bindings; inners = s.inners; ids = s.ids }

-- what a refusal in step or finish does to a state
unfoldable pub marked : Refusal → State → State
marked n s = pick (closes n) (closed_state s) s

module _ (s : State) (n : Refusal) where
  pub mark_set : {s' : State} → closes n ≡ true → s' ≡ closed_state s → s' ≡ marked n s
  unfolding marked
  mark_set h e = rw h e

  pub mark_not : closes n ≡ false → s ≡ marked n s
  unfolding marked
  mark_not h = rw h

-- the mark is no part of the rules, nor of the document
pub meaning-closed : (s : State) (w i : List ℕ) → meaning_of (closed_state s) w i ≡ mark_closed (meaning_of s w i)
unfolding meaning_of lawful_state valid_state counts_ok noted_ok doc_from doc_in doc_of start_of elements_of mark_closed
meaning-closed s w i = go (lawful_state s w i) s.registers.flags.closed
  where
    go : (l c : Bool) → pick l (is_closed (doc_from s w i)) unlawful ≡ mark_closed (pick l (pick c (is_closed (doc_from s w i)) (is_open (doc_from s w i))) unlawful)
    go true true = refl
    go true false = refl
    go false c = refl

pub meaning-marked : (n : Refusal) (s : State) (w i : List ℕ) → meaning_of (marked n s) w i ≡ marked_by (effect n) (meaning_of s w i)
unfolding marked marked_by
meaning-marked n s w i = go (effect n) refl
  where
    go : (m : Effect) → effect n ≡ m → meaning_of (pick (closes n) (closed_state s) s) w i ≡ marked_by (effect n) (meaning_of s w i)
    go stays_open e = rw e
    go unchanged e = rw e
    go becomes_closed e = rw e (meaning-closed s w i)

-- ---- what a state that is lawful means, and the facts in it

module _ (s : State) (w i : List ℕ) where
  pub means_unlawful : lawful_state s w i ≡ false → meaning_of s w i ≡ unlawful
  unfolding meaning_of
  means_unlawful h = rw h

  module _ (h : lawful_state s w i ≡ true) where
    pub means_closed : s.registers.flags.closed ≡ true → meaning_of s w i ≡ is_closed (doc_from s w i)
    unfolding meaning_of
    means_closed c = rw (h, c)

    pub means_open : s.registers.flags.closed ≡ false → meaning_of s w i ≡ is_open (doc_from s w i)
    unfolding meaning_of
    means_open c = rw (h, c)

    -- the two arrays of the ID table have the lengths of their type
    pub lawful_facts : length s.ids.at ≡ 512 → length s.ids.len ≡ 512 → (out : List ℕ) → Lawful s.registers s.ids.count s.ids.used (lent_by s w i out)
    unfolding lawful_state most_ids
    lawful_facts p q out =
        record {
          valid = state.valid_is s.registers s.frames s.bindings s.inners w (and_left _ _ h);
          table = table.valid_is p q (and_right (valid_state s.registers s.frames s.bindings s.inners w) _ h);
        }

-- an open document, for a caller that takes its state apart
pub record Open (s : State) (w i : List ℕ) (d : Doc) : Type 0 where
  pub lawful : lawful_state s w i ≡ true
  pub mark : s.registers.flags.closed ≡ false
  pub doc : doc_from s w i ≡ d

pub open_means : (s : State) (w i : List ℕ) {d : Doc} → meaning_of s w i ≡ is_open d → Open s w i d
unfolding meaning_of
open_means s w i {d} = go (lawful_state s w i) refl s.registers.flags.closed refl
  where
    go : (l : Bool) → lawful_state s w i ≡ l → (c : Bool) → s.registers.flags.closed ≡ c → pick l (pick c (is_closed (doc_from s w i)) (is_open (doc_from s w i))) unlawful ≡ is_open d → Open s w i d
    go true p false q e = record { lawful = p; mark = q; doc = cc }
    go true p true q e = let z : ◌≡◌ {A = ℕ} 0 1 = cc in absurd (omega arith)
    go false p c q e = let z : ◌≡◌ {A = ℕ} 0 1 = cc in absurd (omega arith)

pub facts_lawful : (s : State) {w i out : List ℕ} → Lawful s.registers s.ids.count s.ids.used (lent_by s w i out) → lawful_state s w i ≡ true
unfolding lawful_state
facts_lawful s {w} {i} l = rw (state.is_valid s.registers s.frames s.bindings s.inners w l.valid) (table.is_valid l.table)

-- ---- the end of a document

-- no element is open, and there was a root
unfoldable pub over_in : Registers → Bool
over_in r = eqb r.counts.inner 0 && (eqb r.counts.depth 0 && r.flags.rooted)

pub over_read : (s : State) (w i : List ℕ) → (is_empty (doc_from s w i).frames && (doc_from s w i).rooted) ≡ over_in s.registers
unfolding doc_from doc_in doc_of elements_of inners_of frames_of is_empty over_in
over_read s w i = go s.registers.counts.inner s.registers.counts.depth
  where
    go : (n d : ℕ) → (is_empty (inners_of s.inners s.bindings w n s.registers.counts.bindings ++ frames_of s.frames s.bindings w d s.registers.counts.outer) && s.registers.flags.rooted)
        ≡ (eqb n 0 && (eqb d 0 && s.registers.flags.rooted))
    go zero zero = refl
    go zero (suc d) = rw (ne_eqb (suc d) 0 (λ z. omega arith))
    go (suc n) d = rw (ne_eqb (suc n) 0 (λ z. omega arith))

-- ---- a state of a document that begins, and the one before any

pub record Fresh (mode : Mode) (based : Bool) (n : ℕ) (s : State) : Type 0 where
  pub registers : s.registers ≡ started_with mode based n
  pub frames : length s.frames ≡ TABLE
  pub bindings : length s.bindings ≡ 384
  pub inners : length s.inners ≡ 192
  pub ids : adding.Fresh s.ids

-- whatever else the stores hold
pub fresh_means : {mode : Mode} {based : Bool} {n : ℕ} {s : State} (w i : List ℕ) → Fresh mode based n s → length w ≡ 65_536 → length i ≡ 32_768 → n ≤ 65_536
    → pick based true (eqb n 0) ≡ true → meaning_of s w i ≡ is_open (fresh mode (base_of based (part w 0 n)))
unfolding doc_from doc_in id_store_bytes
fresh_means {mode} {based} {n} {s} w i f lw li k b =
    let v : Valid s.registers s.frames s.bindings s.inners w = rw f.registers (started mode based n s.frames s.bindings s.inners w f.frames f.bindings f.inners lw k b) in
    let l : lawful_state s w i ≡ true = facts_lawful s {out = []} (record { valid = v; table = adding.fresh_valid f.ids i li }) in
    means_open s w i l (rw f.registers)
    ∙ ap is_open (rw (adding.fresh_means f.ids i, f.registers) (started_means mode based n s.frames s.bindings s.inners w))

-- beside stores of the right lengths, whatever they hold
pub record Nothing (s : State) : Type 0 where
  pub means : (w i : List ℕ) → length w ≡ 65_536 → length i ≡ 32_768 → meaning_of s w i ≡ no_document

pub nothing : {s s' : State} → Fresh base_mode false 0 s → s' ≡ closed_state s → Nothing s'
unfolding no_document mark_closed
nothing {s} f e = record { means = λ w i lw li. rw e (meaning-closed s w i ∙ ap mark_closed (fresh_means w i f lw li (omega arith) refl)) }
