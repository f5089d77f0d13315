-- How `parse_event` comes to its answer: what was decoded is asked what its handler asks, and what that does is what the event's bytes do.
use Rattle.std.specs.Prelude.{ℕ, ◌≤◌, ◌≡◌, Bool, true, false, ◌||◌, List, ltb, take}
use Rattle.std.proofs.Math.Path.{refl}
use Rattle.std.proofs.Common.{sym, arith}
use Rattle.std.proofs.lemmas.Bool.{false≢true}
use Rattle.std.proofs.Math.ListN.{length}
use borrow.Author.Tests.{ltb-false}
use Rattle.spec.specs.Bytes.{Bytes}
use Rattle.spec.specs.Limits.{most_event_bytes}
use Rattle.spec.specs.Numbers.{Answer}
use Rattle.spec.specs.declared.Refusal.{Refusal}
use Rattle.spec.specs.declared.Refusal.TheVariants.{NotPyx}
use Rattle.spec.specs.Pyx as P
use Rattle.spec.specs.Document.{with_frames}
use Rattle.spec.specs.Opening.{Step}
use Rattle.spec.specs.RdfXml.{on_event}
use Rattle.pyx.specs.declared.Event.{Event}
use Rattle.pyx.specs.declared.Event.TheVariants.{Malformed, NoScratch, Instruction, Text, Closing, Opening, Crowded}
use Rattle.pyx.specs.Decode.{unread, Decodes}
use Rattle.start_names.specs.Tag.{attributes_of}
use Rattle.state_ids.specs.Ids.{ids_of}
use Rattle.state.specs.declared.Registers.{Registers}
use Rattle.state.specs.Meaning.{elements_of, doc_of}
use Rattle.event.specs.Result.{parsed, Handles}
use Rattle.event.specs.Progress.{Lent, lent, doc_in, Progresses, HandlesAll, stopped}
use Rattle.literal.specs.Quiet.{Quiet, Quietly}
use Rattle.text.specs.Blank.{Unchanged}
use Rattle.start_form.specs.Tie.{colon_tells, splits}
use Rattle.start_form.specs.Crowd.{Crowd, Refuses, crowd, refused_call}
use Rattle.reader.specs.Asked.{Asks, Roomy, Tagged, handler_asks}
use Rattle.reader.specs.Dispatch.{with_ids, without_ids, decoded_malformed, decoded_instruction, decoded_text, decoded_closing, decoded_opening, never_unread}
use Rattle.std.specs.Prelude.{Result, Err}
use Rattle.event.specs.declared.Done.{Done}
use Rattle.event.specs.declared.Advance.{Advance}

-- ---- a decoded start tag

or-false : (a b : Bool) → (a || b) ≡ false → (a ≡ false) × (b ≡ false)
or-false true b h = absurd (false≢true (sym h))
or-false false b h = (refl, h)

short : (s d : Bytes) → unread s d ≡ false → length s ≤ 32_768
unfolding unread most_event_bytes
short s d u = ltb-false 32_768 (length s) (or-false (ltb 32_768 (length s)) _ u).0

pub tagged : (s : Bytes) {d e w v room : List ℕ} {m c k : ℕ} → unread s d ≡ false → Roomy d w room → Decodes (Opening m c k) s d e w v → Tagged e v m c k room
tagged s {d} u y h =
    let n : length s ≤ 32_768 = short s d u in
    record {
      tag = record {
        few = omega (arith, y.spans, h.means.fits);
        name = omega (arith, h.means.within);
        colon = colon_tells h.means.colon;
        splits = splits h.means.placed;
        within = λ j l. omega (arith, (h.means.placed j l).within);
      };
      texts = omega (arith, y.scratch, h.kept.same);
      words = omega (arith, y.spans, h.means.fits, h.words);
      area = y.area;
      most = y.most;
    }

-- ---- by what was decoded

-- the same answer, said otherwise
progress_as : {a b : Answer Step} {o : Result Advance Refusal} {l l' : Lent} → Progresses a o l l' → a ≡ b → Progresses b o l l'
progress_as p e = rw (← e) p

module _ (s : Bytes) {d e x v : List ℕ} {y : Event} (u : unread s d ≡ false) (z : Decodes y s d e x v) where
  as_decoded : {f : Event} → y ≡ f → Decodes f s d e x v
  as_decoded q = rw q at z

  long : length s ≤ length e
  unfolding unread
  long =
      let n : length s ≤ length d = ltb-false (length d) (length s) (or-false (ltb (length d) (length s)) _ (or-false (ltb most_event_bytes (length s)) _ u).1).0 in
      omega (arith, z.kept.same)

  pub never : {A : Type 0} → y ≡ NoScratch → A
  never q = never_unread s d e x v u (as_decoded q)

  pub fits-text : {m : ℕ} → y ≡ Text m → m ≤ length e
  fits-text q = omega (arith, long, (as_decoded q).means.1)

  pub fits_closing : {m : ℕ} → y ≡ Closing m → m ≤ length e
  fits_closing q = omega (arith, long, (as_decoded q).means.1)

  pub opened : {m c k : ℕ} {room : List ℕ} → Roomy d x room → y ≡ Opening m c k → Tagged e v m c k room
  opened t q = tagged s u t (as_decoded q)

  pub crowds : {room : List ℕ} → Roomy d x room → y ≡ Crowded → Crowd s e
  crowds t q = crowd u t.spans (as_decoded q)

  module _ {r : Registers} {count used : ℕ} {fs bs is w ia il st out : List ℕ} (a : Asks r count used (lent fs bs is w ia il st out)) where
    pub on_malformed : y ≡ Malformed → Progresses (parsed s (length out) (doc_in r count (lent fs bs is w ia il st out))) (Err NotPyx) (lent fs bs is w ia il st out) (lent fs bs is w ia il st out)
    on_malformed q = stopped (decoded_malformed s d e x v (length out) (doc_in r count (lent fs bs is w ia il st out)) (as_decoded q))

    pub on_crowded : {n : Refusal} {room : List ℕ} → Roomy d x room → y ≡ Crowded → Refuses n s r fs bs w
        → Progresses (parsed s (length out) (doc_in r count (lent fs bs is w ia il st out))) (Err n) (lent fs bs is w ia il st out) (lent fs bs is w ia il st out)
    unfolding doc_in
    on_crowded t q h = stopped (refused_call h (crowds t q) a.lawful.valid (length out) (ids_of ia il st count))

    pub on_opening_lem : {m c k : ℕ} {p : Result Advance Refusal} {l' : Lent} → y ≡ Opening m c k → HandlesAll (P.opening (take m e) (attributes_of e v k)) r count p (lent fs bs is w ia il st out) l'
        → Progresses (parsed s (length out) (doc_in r count (lent fs bs is w ia il st out))) p (lent fs bs is w ia il st out) l'
    on_opening_lem q h = progress_as h (decoded_opening s d e x v (length out) (doc_in r count (lent fs bs is w ia il st out)) (as_decoded q))

    unmoved : Quiet P.instruction r fs bs is w (elements_of r fs bs is w)
    unfolding on_event with_frames doc_of
    unmoved = record { step = λ ids. refl }

    module _ {o : Result Done Refusal} {p : Result Advance Refusal} (i : p ≡ with_ids o count used) where
      pub on_instruction : y ≡ Instruction → Unchanged r o
          → Progresses (parsed s (length out) (doc_in r count (lent fs bs is w ia il st out))) p (lent fs bs is w ia il st out) (lent fs bs is w ia il st out)
      on_instruction q h =
          progress_as (without_ids a.lawful.table ((h.quietly (handler_asks a) unmoved).handles out) i)
          (decoded_instruction s d e x v (length out) (doc_in r count (lent fs bs is w ia il st out)) (as_decoded q))

      module _ {m : ℕ} {fs' bs' is' w' : List ℕ} where
        pub on_text_lem : y ≡ Text m → Quietly (P.text (take m e)) r o fs bs is w fs' bs' is' w'
            → Progresses (parsed s (length out) (doc_in r count (lent fs bs is w ia il st out))) p (lent fs bs is w ia il st out) (lent fs' bs' is' w' ia il st out)
        on_text_lem q h =
            progress_as (without_ids a.lawful.table (h.handles out) i)
            (decoded_text s d e x v (length out) (doc_in r count (lent fs bs is w ia il st out)) (as_decoded q))

        pub on_closing : {out' : List ℕ} → y ≡ Closing m → Handles (P.closing (take m e)) r o fs bs is w out fs' bs' is' w' out'
            → Progresses (parsed s (length out) (doc_in r count (lent fs bs is w ia il st out))) p (lent fs bs is w ia il st out) (lent fs' bs' is' w' ia il st out')
        on_closing q h =
            progress_as (without_ids a.lawful.table h i)
            (decoded_closing s d e x v (length out) (doc_in r count (lent fs bs is w ia il st out)) (as_decoded q))
