-- Events that change nothing, and text where only blank text may stand.
use Rattle.std.specs.Prelude.{ℕ, ◌<◌, ◌≤◌, ◌≡◌, refl, true, false, List, []}
use Rattle.std.proofs.Common.{◌∙◌}
use Rattle.spec.specs.Bytes.{Bytes, ◌>>◌, require◌or◌}
use Rattle.spec.specs.Numbers.{good}
use Rattle.spec.specs.NTriples.{Subject}
use Rattle.spec.specs.declared.Refusal.TheVariants.{OverLimit, StrayText}
use Rattle.spec.specs.Pyx.{Event, text}
use Rattle.spec.specs.Document as D
use Rattle.spec.specs.Document.{with_frames, place_in}
use Rattle.spec.specs.RdfXml.{on_event, on_text, is_blank}
use Rattle.state.specs.declared.Registers.{Registers}
use Rattle.state.specs.Meaning.{elements_of, doc_of}
use Rattle.state.specs.Valid.{Valid}
use Rattle.state_inner.specs.Calls.{held_in}
use Rattle.event.specs.declared.Place.{Place}
use Rattle.event.specs.declared.Place.TheVariants.{Outside, Nodes, Properties, Xml}
use Rattle.event.specs.Place.{place_at, place_is, place_read}
use Rattle.event.specs.Result.{Asks}
use Rattle.literal.specs.Quiet.{Quietly, Quiet, held_with_lem, holds_self, quiet_refused, quiet_over, quiet_done}
use Rattle.std.specs.Prelude.{Result, Ok, Err}
use Rattle.event.specs.declared.Done.{Done}
use Rattle.spec.specs.declared.Refusal.{Refusal}

-- o is the outcome of an event that changes nothing
pub record Unchanged (r : Registers) (o : Result Done Refusal) : Type 0 where
  pub quietly : {e : Event} {fs bs is w : List ℕ} → Asks r fs bs is w → Quiet e r fs bs is w (elements_of r fs bs is w) → Quietly e r o fs bs is w fs bs is w

module _ (r : Registers) where
  pub unchanged_over : 49_152 < held_in r → Unchanged r (Err OverLimit)
  unchanged_over l = record { quietly = λ a q. quiet_over q (rw (held_with_lem (holds_self a.valid)) at l) }

  pub unchanged_done : held_in r ≤ 49_152 → Unchanged r (Ok (record { written = 0; registers = r }))
  unchanged_done l = record { quietly = λ a q. quiet_done q a (rw (held_with_lem (holds_self a.valid)) at l) (holds_self a.valid) a.mark }

-- may only blank text stand here?
pub data Bare : D.Place → Type 0 where
  outside : Bare D.outside
  nodes : Bare D.nodes
  properties : {s : Subject} {n : ℕ} → Bare (D.properties s n)

-- o is the outcome of text s in such a place
pub record BlankOnly (r : Registers) (s : Bytes) (o : Result Done Refusal) : Type 0 where
  pub quietly : {fs bs is w : List ℕ} → Asks r fs bs is w → Bare (place_in (elements_of r fs bs is w)) → Quietly (text s) r o fs bs is w fs bs is w

bare-text : {p : D.Place} → Bare p → (s : Bytes) (d : D.Doc) → on_text p s d ≡ ((require is_blank s or StrayText) >> good ([], d))
unfolding on_text
bare-text outside s d = refl
bare-text nodes s d = refl
bare-text properties s d = refl

module _ {r : Registers} (s : Bytes) where
  -- 16
  pub blank_stray : is_blank s ≡ false → BlankOnly r s (Err StrayText)
  unfolding on_event doc_of require◌or◌ ◌>>◌
  blank_stray h = record { quietly = λ a b. quiet_refused (λ ids. bare-text b s _ ∙ rw h) }

  pub blank_stays : {o : Result Done Refusal} → is_blank s ≡ true → Unchanged r o → BlankOnly r s o
  unfolding on_event doc_of require◌or◌ ◌>>◌ with_frames
  blank_stays h u = record { quietly = λ a b. u.quietly a (record { step = λ ids. bare-text b s _ ∙ rw h }) }

-- ---- the places, as `place_at` tells them

module _ {r : Registers} {fs bs is w : List ℕ} (v : Valid r fs bs is w) {p : Place} (e : p ≡ place_at r fs) where
  pub stands-outside : p ≡ Outside → Bare (place_in (elements_of r fs bs is w))
  unfolding place_is
  stands-outside q = rw (place_read v, ← e, q) outside

  pub stands-nodes : p ≡ Nodes → Bare (place_in (elements_of r fs bs is w))
  unfolding place_is
  stands-nodes q = rw (place_read v, ← e, q) nodes

  pub stands_properties : p ≡ Properties → Bare (place_in (elements_of r fs bs is w))
  unfolding place_is
  stands_properties q = rw (place_read v, ← e, q) properties

  pub stands_xml : p ≡ Xml → place_in (elements_of r fs bs is w) ≡ D.xml
  unfolding place_is
  stands_xml q = place_read v ∙ rw (← e, q)
