-- Is a start tag well-formed where it stands? By the registers, the frame on top, and the words of its attributes.
use Rattle.std.specs.Prelude.{ℕ, zero, suc, ◌+◌, ◌/◌, ◌≤◌, ◌≡◌, refl, Bool, true, false, ◌&&◌, not, List, [], ◌∷◌, eqb, length}
use Rattle.std.proofs.Common.{sym, ◌∙◌, zero-add, arith, ne_eqb, le-leb}
use Rattle.spec.specs.Bytes.{Bytes, when◌then◌else◌, is_empty}
use Rattle.spec.specs.NTriples.{Subject}
use Rattle.spec.specs.Namespaces.{declared, all_legal, repeats_written}
use Rattle.spec.specs.Document.{Frame, place_in}
use Rattle.spec.specs.Opening.{is_second_root, is_xml, repeated}
use Rattle.state.specs.declared.Registers.{Registers}
use Rattle.state.specs.Meaning.{count, subject_of, elements_of, doc_of}
use Rattle.state.specs.Valid.{Valid}
use Rattle.state.specs.Held as H
use Rattle.state.specs.Live.{in_scope_lem}
use Rattle.start_names.specs.Tag.{attributes_of, Splits}
use Rattle.start_names.specs.Found.{scope}
use Rattle.start_names.specs.Pairs.{pairs}
use Rattle.start_names.specs.Classes.{same_keys, Classifies, expanded_means}
use Rattle.event.specs.declared.Place.{Place}
use Rattle.event.specs.declared.Place.TheVariants.{Outside, Nodes, Properties, NodesOrText, Xml}
use Rattle.event.specs.Place.{place_at, place_is, top_of, place_read}
use Rattle.start_form.specs.Own.{Finds}
use Rattle.start_form.specs.CrowdedOrder.{well_formed}

-- ---- what is found

-- the k attributes repeat, where the tag stands
pub record Repeats (b : Bool) (r : Registers) (fs bs w e v : List ℕ) (k : ℕ) : Type 0 where
  pub is : {is : List ℕ} → Valid r fs bs is w → (ids : List Bytes) → b ≡ repeated (place_in (elements_of r fs bs is w)) (attributes_of e v k) (doc_of r fs bs is w ids)

-- the tag is well-formed
pub record Forms (b : Bool) (r : Registers) (fs bs w e v : List ℕ) (k : ℕ) : Type 0 where
  pub is : {is : List ℕ} → Valid r fs bs is w → (ids : List Bytes) → b ≡ well_formed (attributes_of e v k) (doc_of r fs bs is w ids)

-- ---- a second root

abbrev pub is_second : Registers → Bool
is_second r = (r.flags.rooted && eqb r.counts.depth 0) && eqb r.counts.inner 0

no_elements : (es : List Frame) → is_empty es ≡ eqb (length es) 0
unfolding is_empty
no_elements [] = refl
no_elements (x ∷ es) = sym (ne_eqb (suc (length es)) 0 (λ z. omega arith))

both_zero : (b : Bool) (m n : ℕ) → (b && eqb (m + n) 0) ≡ ((b && eqb m 0) && eqb n 0)
both_zero false m n = refl
both_zero true zero n = rw (zero-add n)
both_zero true (suc m) n = rw (ne_eqb (suc m + n) 0 (λ z. omega arith), ne_eqb (suc m) 0 (λ z. omega arith))

second_read : (r : Registers) (fs bs is w : List ℕ) (ids : List Bytes) → is_second_root (doc_of r fs bs is w ids) ≡ is_second r
unfolding is_second_root doc_of
second_read r fs bs is w ids = rw (no_elements (elements_of r fs bs is w), H.depth r fs bs is w) (both_zero r.flags.rooted r.counts.depth r.counts.inner)

-- ---- where it stands

abbrev pub is_xml_at : Place → Bool
is_xml_at Outside = false
is_xml_at Nodes = false
is_xml_at Properties = false
is_xml_at NodesOrText = false
is_xml_at Xml = true

place_xml : (p : Place) (s : Subject) (n : ℕ) → is_xml (place_is p s n) ≡ is_xml_at p
unfolding is_xml place_is
place_xml Outside s n = refl
place_xml Nodes s n = refl
place_xml Properties s n = refl
place_xml NodesOrText s n = refl
place_xml Xml s n = refl

-- ---- repeated attributes

module _ {r : Registers} {fs bs w : List ℕ} (e v : List ℕ) (k : ℕ) {p : Place} {i : Bool} (a : p ≡ place_at r fs) (q : i ≡ is_xml_at p) where
  xml_read : {is : List ℕ} → Valid r fs bs is w → is_xml (place_in (elements_of r fs bs is w)) ≡ i
  xml_read x = rw (place_read x, ← a) (place_xml p (subject_of (top_of r fs) w) (count (top_of r fs)) ∙ sym q)

  pub repeats-written : i ≡ true → {b : Bool} → b ≡ repeats_written (attributes_of e v k) → Repeats b r fs bs w e v k
  unfolding repeated when◌then◌else◌
  repeats-written t h = record { is = λ x ids. rw (xml_read x, t) h }

  pub repeats_expanded_lem : i ≡ false → Splits e v k → {b : Bool} → Finds e v k w bs r.counts.bindings b → Repeats b r fs bs w e v k
  unfolding repeated when◌then◌else◌ doc_of scope
  repeats_expanded_lem t s f = record { is = λ x ids. rw (xml_read x, t, in_scope_lem x) (f.is ∙ expanded_means f.are s) }

-- ---- few attributes: each is compared with each

pub finds_few : {e w : List ℕ} {k : ℕ} {v bs : List ℕ} {n : ℕ} {cs ds : List ℕ} {y b : Bool} → Classifies e w k v bs n cs ds y → k ≤ length cs / 3
    → b ≡ pairs (same_keys e w v ds) 0 k → Finds e w k v bs n b
finds_few {k = k} {cs = cs} {ds = ds} z l h = record { classes = ds; are = z.are (z.answer ∙ le-leb k (length cs / 3) l); is = h }

-- ---- all three

module _ {r : Registers} {fs bs w : List ℕ} (e v : List ℕ) (k : ℕ) {o : Bool} (s : o ≡ is_second r) where
  pub forms_second : o ≡ true → Forms false r fs bs w e v k
  unfolding well_formed
  forms_second t = record { is = λ {is} x ids. rw (second_read r fs bs is w ids, ← s, t) }

  module _ (f : o ≡ false) {l : Bool} (g : l ≡ all_legal (declared (attributes_of e v k))) where
    pub forms_illegal : l ≡ false → Forms false r fs bs w e v k
    unfolding well_formed
    forms_illegal t = record { is = λ {is} x ids. rw (second_read r fs bs is w ids, ← s, f, ← g, t) }

    pub forms_repeats : l ≡ true → {b : Bool} → Repeats b r fs bs w e v k → Forms (not b) r fs bs w e v k
    unfolding well_formed doc_of
    forms_repeats t h = record { is = λ {is} x ids. rw (second_read r fs bs is w ids, ← s, f, ← g, t, ← h.is x ids) }
