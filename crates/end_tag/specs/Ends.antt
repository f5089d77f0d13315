-- An end tag that matches: what the definitions answer, and what a handler has to show of it.
use Rattle.std.specs.Prelude.{ℕ, ◌-◌, ◌<◌, ◌≡◌, true, false, List, [], ◌∷◌, leb, length}
use Rattle.std.proofs.Math.Path.{refl, ap}
use Rattle.std.proofs.Common.{sym, ap, ◌∙◌, arith, le-leb}
use Rattle.spec.specs.Bytes.{Bytes, ◌>>◌, require◌or◌}
use Rattle.spec.specs.Numbers.{Answer, refuse, good}
use Rattle.spec.specs.declared.Refusal.{Refusal}
use Rattle.spec.specs.declared.Refusal.TheVariants.{NoRoom, OverLimit}
use Rattle.spec.specs.Limits.{most_held_bytes}
use Rattle.spec.specs.NTriples.{Triple, write}
use Rattle.spec.specs.Pyx.{closing}
use Rattle.spec.specs.Document.{Frame as Element, Doc, with_frames, language_in_force, fits}
use Rattle.spec.specs.Opening.{Step}
use Rattle.spec.specs.EndTag.{end_kind, close_element}
use Rattle.spec.specs.RdfXml.{on_event}
use Rattle.spec.proofs.Bytes.{same_refl}
use Rattle.copy.specs.Copy.{Wrote, wrote_same, wrote_none}
use Rattle.state_words.specs.Parts.{NAME, BINDINGS}
use Rattle.state_words.specs.declared.Kind.{Kind}
use Rattle.state_words.specs.declared.Frame.{Frame}
use Rattle.state.specs.declared.Registers.{Registers}
use Rattle.state.specs.Meaning.{at, first, span, bindings_of, what_of, element_of, subject_below, frames_of, inners_of, elements_of, doc_of}
use Rattle.state.specs.Valid.{Valid}
use Rattle.state_stack.specs.Change.{top_element}
use Rattle.state_stack.specs.Calls.{top_frame}
use Rattle.state_stack.specs.Laws.{topmost}
use Rattle.state_inner.specs.Calls.{held_in}
use Rattle.state_inner.specs.Laws.{held_read}
use Rattle.writer.specs.Said.{Says}
use Rattle.event.specs.Result.{IdsFit, Handles, handled, handled_by, concluded, refused_on, over_limit, no_room, all_fits, fits-held, stopped, done}
use Rattle.std.specs.Prelude.{Result, Ok, Err, is_ok}
use Rattle.event.specs.declared.Done.{Done}

-- ---- the element on top

-- its name as written
abbrev pub top_name : Registers → List ℕ → List ℕ → Bytes
top_name r fs w = span w (at (top_frame r fs) NAME) (at (top_frame r fs) BINDINGS)

-- it is of kind q, in a state of an open document, with nothing open inside Literal content
pub record Closing (q : Kind) (r : Registers) (fs bs is w : List ℕ) : Type 0 where
  pub valid : Valid r fs bs is w
  pub mark : r.flags.closed ≡ false
  pub flat : r.counts.inner ≡ 0
  pub deep : 0 < r.counts.depth
  pub kind : (top_frame r fs).kind ≡ q

-- its end tag is handled, whatever the bindings are
pub record Ends (q : Kind) (r : Registers) (o : Result Done Refusal) (fs w out fs' w' out' : List ℕ) : Type 0 where
  pub handles : (bs is : List ℕ) → Closing q r fs bs is w → Handles (closing (top_name r fs w)) r o fs bs is w out fs' bs is w' out'

-- the frame on top says which kind it is
pub ends_as : {q : Kind} {r : Registers} {o : Result Done Refusal} {fs w out fs' w' out' : List ℕ} {f : Frame} → f ≡ top_frame r fs → f.kind ≡ q
    → Ends q r o fs w out fs' w' out' → Ends (top_frame r fs).kind r o fs w out fs' w' out'
ends_as e k x = rw (ap (λ (g : Frame). g.kind) (sym e) ∙ k) x

-- ---- what the definitions answer

-- the document without it
unfoldable pub without : Registers → List ℕ → List ℕ → List ℕ → List ℕ → List Bytes → Doc
without r fs bs is w ids = with_frames (frames_of fs bs w (r.counts.depth - 1) (first (top_frame r fs))) (doc_of r fs bs is w ids)

-- by its kind
abbrev pub ended : Kind → Registers → List ℕ → List ℕ → List ℕ → List ℕ → List Bytes → Answer Step
ended q r fs bs is w ids =
    end_kind (what_of q (top_frame r fs) w (subject_below fs w (r.counts.depth - 1))) (top_name r fs w) (language_in_force (elements_of r fs bs is w)) (without r fs bs is w ids)

-- the end tag of the first element
close_first : (n : Bytes) (e : Element) (es fs : List Element) (d : Doc) → fs ≡ e ∷ es → n ≡ e.name → close_element n fs d ≡ end_kind e.kind n (language_in_force fs) (with_frames es d)
unfolding close_element ◌>>◌ require◌or◌
close_first n e es fs d p q = rw (p, q, same_refl e.name)

flat_elements : (r : Registers) (fs bs is w : List ℕ) → r.counts.inner ≡ 0 → elements_of r fs bs is w ≡ frames_of fs bs w r.counts.depth r.counts.outer
unfolding elements_of inners_of
flat_elements r fs bs is w z = rw z

module _ {q : Kind} {r : Registers} {fs bs is w : List ℕ} (c : Closing q r fs bs is w) where
  -- it and the others
  pub top_first : elements_of r fs bs is w
      ≡ element_of (top_frame r fs) (bindings_of bs w (first (top_frame r fs)) (r.counts.outer - first (top_frame r fs))) w (subject_below fs w (r.counts.depth - 1))
      ∷ frames_of fs bs w (r.counts.depth - 1) (first (top_frame r fs))
  top_first = let k = topmost c.valid c.deep in flat_elements r fs bs is w c.flat ∙ (rw (← k.frame) at (top_element c.valid (r.counts.depth - 1) k.depth))

  pub matches : (ids : List Bytes) → on_event (closing (top_name r fs w)) (doc_of r fs bs is w ids) ≡ ended q r fs bs is w ids
  unfolding on_event without doc_of element_of
  matches ids =
      close_first (top_name r fs w) _ _ (elements_of r fs bs is w) (doc_of r fs bs is w ids) top_first refl
      ∙ ap (λ (k : Kind). end_kind (what_of k (top_frame r fs) w (subject_below fs w (r.counts.depth - 1))) (top_name r fs w) (language_in_force (elements_of r fs bs is w)) (without r fs bs is w ids)) c.kind

-- ---- what is left behind it

-- the lines, and the state that means the document behind the end tag
pub record Leaves (q : Kind) (r p : Registers) (fs bs is w gs v : List ℕ) (lines : List Triple) : Type 0 where
  pub answer : (ids : List Bytes) → ended q r fs bs is w ids ≡ good (lines, doc_of p gs bs is v ids)
  pub valid : Valid p gs bs is v
  pub mark : p.flags.closed ≡ false

-- the same where only the registers change, whatever the bindings are
pub record Tells (q : Kind) (r p : Registers) (fs w : List ℕ) (lines : List Triple) : Type 0 where
  pub tells : (bs is : List ℕ) → Closing q r fs bs is w → Leaves q r p fs bs is w fs w lines

ids_of_lem : (r : Registers) (fs bs is w : List ℕ) (ids : List Bytes) → (doc_of r fs bs is w ids).ids ≡ ids
unfolding doc_of
ids_of_lem r fs bs is w ids = refl

-- 7: held bytes decide
pub held_decides : {r : Registers} {fs bs is w : List ℕ} → Valid r fs bs is w → (ids : List Bytes) → IdsFit ids → fits (doc_of r fs bs is w ids) ≡ leb (held_in r) most_held_bytes
held_decides {r} {fs} {bs} {is} {w} x ids i =
    fits-held (doc_of r fs bs is w ids) (rw (ids_of_lem r fs bs is w ids) i) ∙ ap (λ (n : ℕ). leb n most_held_bytes) (sym (held_read x ids))

concludes : {q : Kind} {r : Registers} {fs bs is w : List ℕ} → Closing q r fs bs is w → (room : ℕ) (ids : List Bytes) {a : Answer Step} → ended q r fs bs is w ids ≡ a
    → handled (closing (top_name r fs w)) room (doc_of r fs bs is w ids) ≡ concluded room a
concludes {q} {r} {fs} {bs} {is} {w} c room ids e = handled_by (closing (top_name r fs w)) room (doc_of r fs bs is w ids) (matches c ids ∙ e)

module _ {q : Kind} {r : Registers} {fs bs is w out : List ℕ} (c : Closing q r fs bs is w) where
  pub refused : (n : Refusal) → ((ids : List Bytes) → ended q r fs bs is w ids ≡ refuse n) → Handles (closing (top_name r fs w)) r (Err n) fs bs is w out fs bs is w out
  refused n e = record { result = λ ids i. stopped (concludes c (length out) ids (e ids) ∙ refused_on (length out) n) }

  module _ {lines : List Triple} {d : List Bytes → Doc} (e : (ids : List Bytes) → ended q r fs bs is w ids ≡ good (lines, d ids)) where
    pub refused-held : ((ids : List Bytes) → IdsFit ids → fits (d ids) ≡ false) → Handles (closing (top_name r fs w)) r (Err OverLimit) fs bs is w out fs bs is w out
    refused-held h = record { result = λ ids i. stopped (concludes c (length out) ids (e ids) ∙ over_limit (length out) (lines, d ids) (h ids i)) }

    module _ (h : (ids : List Bytes) → IdsFit ids → fits (d ids) ≡ true) where
      pub refused-room : leb (length (write lines)) (length out) ≡ false → Handles (closing (top_name r fs w)) r (Err NoRoom) fs bs is w out fs bs is w out
      refused-room l = record { result = λ ids i. stopped (concludes c (length out) ids (e ids) ∙ no_room (length out) (lines, d ids) (h ids i) l) }

      pub accepted : {p : Registers} {gs v out' : List ℕ} {k : ℕ} → Wrote out out' 0 k (write lines) → Valid p gs bs is v → p.flags.closed ≡ false
          → ((ids : List Bytes) → doc_of p gs bs is v ids ≡ d ids) → Handles (closing (top_name r fs w)) r (Ok (record { written = k; registers = p })) fs bs is w out gs bs is v out'
      accepted wr x m y =
          record {
            result =
                λ ids i.
                done c.valid (wrote_same wr)
                (record {
                  step = (lines, d ids);
                  answer = concludes c (length out) ids (e ids) ∙ all_fits (length out) (lines, d ids) (h ids i) (le-leb (length (write lines)) (length out) (omega (arith, wr.room)));
                  wrote = wr;
                  means = record { valid = x; mark = m; doc = y ids };
                });
          }

-- ---- lines, if all of them have room

module _ {q : Kind} {r p : Registers} {fs w : List ℕ} {lines : List Triple} (t : Tells q r p fs w lines) where
  pub tells_over : {out : List ℕ} → leb (held_in p) most_held_bytes ≡ false → Ends q r (Err OverLimit) fs w out fs w out
  tells_over h =
      record { handles = λ bs is c. let l = t.tells bs is c in refused-held c l.answer (λ ids i. held_decides l.valid ids i ∙ h) }

  module _ {out out' : List ℕ} {s : Result ℕ Refusal} (h : leb (held_in p) most_held_bytes ≡ true) (a : Says out out' (write lines) s) where
    pub tells_full : {why : Refusal} → s ≡ Err why → Ends q r (Err why) fs w out fs w out'
    tells_full {why} n =
        let full : (why ≡ NoRoom) × (out' ≡ out) = rw n at a.cases in
        rw (full.0, full.1)
        (record { handles = λ bs is x. let l = t.tells bs is x in refused-room x l.answer (λ ids i. held_decides l.valid ids i ∙ h) (sym a.answer ∙ ap is_ok n) })

    pub tells_done : {n : ℕ} → s ≡ Ok n → Ends q r (Ok (record { written = n; registers = p })) fs w out fs w out'
    tells_done y =
        record {
          handles =
              λ bs is x.
              let l = t.tells bs is x in
              accepted x l.answer (λ ids i. held_decides l.valid ids i ∙ h) (rw y at a.cases) l.valid l.mark (λ ids. refl);
        }

-- ---- no lines

pub tells_nothing : {q : Kind} {r p : Registers} {fs w out : List ℕ} → Tells q r p fs w [] → leb (held_in p) most_held_bytes ≡ true → Ends q r (Ok (record { written = 0; registers = p })) fs w out fs w out
unfolding write
tells_nothing t h =
    record {
      handles =
          λ bs is x.
          let l = t.tells bs is x in
          accepted x l.answer (λ ids i. held_decides l.valid ids i ∙ h) (wrote_none (omega arith)) l.valid l.mark (λ ids. refl);
    }
