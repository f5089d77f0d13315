-- A start tag that was read and has too many attributes, and why it is refused.
use Rattle.std.specs.Prelude.{ℕ, ◌*◌, ◌<◌, ◌≤◌, ◌≡◌, refl, Bool, true, false, ◌||◌, List, ltb, length, take}
use Rattle.std.proofs.Common.{sym, ap, ◌∙◌, arith}
use Rattle.std.proofs.lemmas.Bool.{false≢true}
use borrow.Author.Tests.{ltb-false}
use Rattle.spec.specs.Bytes.{Bytes, ◌>>=◌}
use Rattle.spec.specs.Limits.{most_event_bytes, most_attributes}
use Rattle.spec.specs.Numbers.{refuse, good}
use Rattle.spec.specs.declared.Refusal.{Refusal}
use Rattle.spec.specs.Pyx.{Attribute, Event, opening, read_event}
use Rattle.spec.specs.RdfXml.{on_event}
use Rattle.pyx.specs.Lines.{spaced}
use Rattle.pyx.specs.Decode.{unread, Decodes}
use Rattle.pyx.specs.declared.Event as pyx
use Rattle.pyx.specs.declared.Event.TheVariants.{Malformed, NoScratch, Instruction, Text, Closing, Opening, Crowded}
use Rattle.pyx.proofs.Attributes.{length-attributes}
use Rattle.pyx.proofs.Few.{attributes-few}
use Rattle.state.specs.declared.Registers.{Registers}
use Rattle.state.specs.Meaning.{doc_of}
use Rattle.state.specs.Valid.{Valid}
use Rattle.event.specs.Result.{parsed, handled_by, refused_on}
use Rattle.start_names.specs.Tag.{attributes_of, Splits}
use Rattle.start_form.specs.Tie.{attributes-same, splits}
use Rattle.start_form.specs.CrowdedOrder.{refusal_by, refused}
use Rattle.start_form.specs.Own.{Within}
use Rattle.start_form.specs.CrowdedForm.{Forms}

-- a start tag with more attributes than an element may have, of bytes s that are read with a scratch d
pub record Crowd (s d : Bytes) : Type 0 where
  pub read : unread s d ≡ false
  pub name : Bytes
  pub attributes : List Attribute
  pub is : read_event s ≡ good (opening name attributes)
  pub many : most_attributes < length attributes

-- the event of bytes s gets x, whatever elements are open inside Literal content and whatever the rdf:IDs so far
pub record Refuses (x : Refusal) (s : Bytes) (r : Registers) (fs bs w : List ℕ) : Type 0 where
  pub is : {is : List ℕ} → Valid r fs bs is w → (ids : List Bytes) {e : Event} → read_event s ≡ good e → on_event e (doc_of r fs bs is w ids) ≡ refuse x

-- ---- from what was decoded with words for 64

still_read : (s d e : Bytes) → length e ≡ length d → unread s d ≡ false → unread s e ≡ false
unfolding unread
still_read s d e l h = rw l h

pub crowd : {s d e w v : List ℕ} → unread s d ≡ false → length w ≡ 256 → Decodes Crowded s d e w v → Crowd s e
unfolding most_attributes
crowd {s} {d} {e} u l h =
    record {
      read = still_read s d e h.kept.same u;
      name = h.means.name;
      attributes = h.means.attributes;
      is = h.means.is;
      many = omega (arith, h.means.many);
    }

-- ---- to what is decoded with words for 8,192

abbrev pub count_of : pyx.Event → ℕ
count_of Malformed = 0
count_of NoScratch = 0
count_of Instruction = 0
count_of (Text m) = 0
count_of (Closing m) = 0
count_of (Opening m c k) = k
count_of Crowded = 0

-- all k attributes are where the words v say
pub record Reread (s e v : List ℕ) (k : ℕ) : Type 0 where
  pub name : Bytes
  pub is : read_event s ≡ good (opening name (attributes_of e v k))
  pub many : most_attributes < k
  pub few : k ≤ 8_192
  pub splits : Splits e v k
  pub within : Within v k

or-false : (a b : Bool) → (a || b) ≡ false → (a ≡ false) × (b ≡ false)
or-false true b h = absurd (false≢true (sym h))
or-false false b h = (refl, h)

module _ {s d : Bytes} (c : Crowd s d) where
  short : length s ≤ 32_768
  unfolding unread most_event_bytes
  short = ltb-false 32_768 (length s) (or-false (ltb 32_768 (length s)) _ c.read).0

  clear : spaced s ≡ false
  unfolding unread
  clear = (or-false (ltb (length d) (length s)) _ (or-false (ltb most_event_bytes (length s)) _ c.read).1).1

  -- no event has more
  few : 4 * length c.attributes ≤ 32_768
  few = omega (arith, attributes-few s clear c.is, short)

  same-attributes : {n : Bytes} {as' : List Attribute} → read_event s ≡ good (opening n as') → as' ≡ c.attributes
  same-attributes e = cc c.is

  by_event : {e w v : List ℕ} (x : pyx.Event) → length w ≡ 32_768 → Decodes x s d e w v → Reread s e v (count_of x)
  by_event Malformed l h = let z : ◌≡◌ {A = ℕ} 0 1 = cc (c.is, h.means) in absurd (omega arith)
  by_event NoScratch l h = absurd (false≢true (sym (h.refused ∙ c.read)))
  by_event Instruction l h = let z : ◌≡◌ {A = ℕ} 0 1 = cc (c.is, h.means) in absurd (omega arith)
  by_event (Text m) l h = let z : ◌≡◌ {A = ℕ} 0 1 = cc (c.is, h.means.0) in absurd (omega arith)
  by_event (Closing m) l h = let z : ◌≡◌ {A = ℕ} 0 1 = cc (c.is, h.means.0) in absurd (omega arith)
  by_event {e} {w} {v} (Opening m i k) l h =
      let n : length c.attributes ≡ k = rw (← same-attributes h.means.is) (length-attributes e v k) in
      record {
        name = take m e;
        is = rw (← attributes-same e v k) h.means.is;
        many = rw (← n) c.many;
        few = omega (arith, few);
        splits = splits h.means.placed;
        within = record { at = λ j l. record { ends = omega (arith, (h.means.placed j l).within, short) } };
      }
  by_event Crowded l h =
      let n : length h.means.attributes ≡ length c.attributes = ap length (same-attributes h.means.is) in
      absurd (omega (arith, few, h.means.many))

  pub reread : {e w v : List ℕ} {x : pyx.Event} {k : ℕ} → length w ≡ 32_768 → Decodes x s d e w v → k ≡ count_of x → Reread s e v k
  reread {x = x} l h q = rw q (by_event x l h)

-- ---- by whether it is well-formed

-- what `is_well_formed` asks
pub ready : {s e v : List ℕ} {k : ℕ} → Reread s e v k → Splits e v k × Within v k × (k ≤ 8_192)
ready a = (a.splits, a.within, a.few)

pub refuses : {s e v : List ℕ} {k : ℕ} {r : Registers} {fs bs w : List ℕ} {b : Bool} → Reread s e v k → Forms b r fs bs w e v k → (t : Bool) → b ≡ t → Refuses (refusal_by t) s r fs bs w
unfolding on_event
refuses {s} {e} {v} {k} {r} {fs} {bs} {w} {b} a f t q = record { is = λ {is} x ids {e = y} z. go is x ids y (cc (a.is, z)) }
  where
    go : (is : List ℕ) → Valid r fs bs is w → (ids : List Bytes) (y : Event) → y ≡ opening a.name (attributes_of e v k) → on_event y (doc_of r fs bs is w ids) ≡ refuse (refusal_by t)
    go is x ids y z =
        let n : length (attributes_of e v k) ≡ k = ap length (sym (attributes-same e v k)) ∙ length-attributes e v k in
        rw (z, ← q, f.is x ids) (refused a.name (attributes_of e v k) (doc_of r fs bs is w ids) (rw n a.many))

-- ---- so is the call

pub refused_call : {x : Refusal} {s d : Bytes} {r : Registers} {fs bs is w : List ℕ} → Refuses x s r fs bs w → Crowd s d → Valid r fs bs is w
    → (room : ℕ) (ids : List Bytes) → parsed s room (doc_of r fs bs is w ids) ≡ refuse x
unfolding parsed ◌>>=◌
refused_call {x} {r = r} {fs = fs} {bs = bs} {is = is} {w = w} h c v room ids =
    rw c.is (handled_by (opening c.name c.attributes) room (doc_of r fs bs is w ids) (h.is v ids c.is) ∙ refused_on room x)
