-- From what an event was decoded as to what is done.
use Rattle.std.specs.Prelude.{ℕ, ◌≡◌, refl, false, List, take}
use Rattle.std.proofs.Common.{sym, ◌∙◌}
use Rattle.std.proofs.lemmas.Bool.{false≢true}
use Rattle.spec.specs.Limits.{most_ids, most_id_bytes}
use Rattle.spec.specs.Bytes.{Bytes, ◌>>=◌}
use Rattle.spec.specs.Numbers.{refuse, good}
use Rattle.spec.specs.declared.Refusal.{Refusal}
use Rattle.spec.specs.declared.Refusal.TheVariants.{NotPyx}
use Rattle.spec.specs.Pyx as P
use Rattle.spec.specs.Document.{Doc}
use Rattle.pyx.specs.declared.Event.TheVariants.{Malformed, NoScratch, Instruction, Text, Closing, Opening}
use Rattle.pyx.specs.Decode.{unread, Decodes}
use Rattle.start_names.specs.Tag.{attributes_of}
use Rattle.state_ids.specs.Ids.{ids_of, ValidIds, length_ids, total_ids}
use Rattle.state.specs.declared.Registers.{Registers}
use Rattle.event.specs.declared.Done.{Done}
use Rattle.event.specs.Result.{handled, parsed, IdsFit, Handles}
use Rattle.event.specs.Progress.{lent, HandlesAll, without_stop, without_did}
use Rattle.start_form.specs.Tie.{attributes-same}
use Rattle.std.specs.Prelude.{Result, Ok, Err}
use Rattle.event.specs.declared.Advance.{Advance}

-- ---- an event that enters no rdf:ID

abbrev pub with_ids : Result Done Refusal → ℕ → ℕ → Result Advance Refusal
with_ids (Err n) count used = Err n
with_ids (Ok d) count used = Ok (record { written = d.written; registers = d.registers; count = count; used = used })

pub ids_stop : {o : Result Done Refusal} {n : Refusal} (count used : ℕ) → o ≡ Err n → Err n ≡ with_ids o count used
ids_stop count used e = rw e

pub ids_did : {o : Result Done Refusal} {d : Done} (count used : ℕ) → o ≡ Ok d → Ok (record { written = d.written; registers = d.registers; count = count; used = used }) ≡ with_ids o count used
ids_did count used e = rw e

ids_fit : {count used : ℕ} {ia il st : List ℕ} → ValidIds count used ia il st → IdsFit (ids_of ia il st count)
unfolding most_ids most_id_bytes
ids_fit {count} {used} {ia} {il} {st} v = record { few = rw (length_ids ia il st count) v.few; small = rw (total_ids v) v.within }

by_outcome : {e : P.Event} {r : Registers} {count used : ℕ} {fs bs is w out fs' bs' is' w' out' : List ℕ} (ia il st : List ℕ) (o : Result Done Refusal)
    → ValidIds count used ia il st → Handles e r o fs bs is w out fs' bs' is' w' out'
    → HandlesAll e r count (with_ids o count used) (lent fs bs is w ia il st out) (lent fs' bs' is' w' ia il st out')
by_outcome {count = count} ia il st (Err n) v h = without_stop count ia il st (ids_fit v) h refl
by_outcome {count = count} ia il st (Ok d) v h = without_did count ia il st (ids_fit v) h refl v

pub without_ids : {e : P.Event} {r : Registers} {count used : ℕ} {fs bs is w ia il st out fs' bs' is' w' out' : List ℕ} {o : Result Done Refusal} {p : Result Advance Refusal}
    → ValidIds count used ia il st → Handles e r o fs bs is w out fs' bs' is' w' out' → p ≡ with_ids o count used
    → HandlesAll e r count p (lent fs bs is w ia il st out) (lent fs' bs' is' w' ia il st out')
without_ids {ia = ia} {il} {st} {o = o} v h q = rw q (by_outcome ia il st o v h)

-- ---- by what was decoded

module _ (s : Bytes) (d e w v : List ℕ) (room : ℕ) (doc : Doc) where
  read_as : {x : P.Event} → P.read_event s ≡ good x → handled x room doc ≡ parsed s room doc
  unfolding parsed ◌>>=◌
  read_as h = rw h

  read_wrong : P.read_event s ≡ refuse NotPyx → parsed s room doc ≡ refuse NotPyx
  unfolding parsed ◌>>=◌
  read_wrong h = rw h

  pub decoded_malformed : Decodes Malformed s d e w v → parsed s room doc ≡ refuse NotPyx
  decoded_malformed h = read_wrong h.means

  pub decoded_instruction : Decodes Instruction s d e w v → handled P.instruction room doc ≡ parsed s room doc
  decoded_instruction h = read_as h.means

  pub decoded_text : {m : ℕ} → Decodes (Text m) s d e w v → handled (P.text (take m e)) room doc ≡ parsed s room doc
  decoded_text h = read_as h.means.0

  pub decoded_closing : {m : ℕ} → Decodes (Closing m) s d e w v → handled (P.closing (take m e)) room doc ≡ parsed s room doc
  decoded_closing h = read_as h.means.0

  pub decoded_opening : {m c k : ℕ} → Decodes (Opening m c k) s d e w v → handled (P.opening (take m e) (attributes_of e v k)) room doc ≡ parsed s room doc
  decoded_opening {m} {c} {k} h = read_as (rw (← attributes-same e v k) h.means.is)

pub never_unread : {A : Type 0} (s d e w v : List ℕ) → unread s d ≡ false → Decodes NoScratch s d e w v → A
never_unread s d e w v u h = absurd (false≢true (sym u ∙ sym h.refused))
