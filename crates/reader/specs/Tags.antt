-- Start tags and end tags, by whether they stand in Literal content.
use Prim.Native.Nat.{ℕ, zero, suc}
use Rattle.std.specs.Prelude.{◌≡◌, Bool, true, false, List}
use Rattle.std.proofs.Math.Path.{refl}
use Rattle.std.proofs.Common.{sym, ap, ◌∙◌, arith, ne_eqb}
use Rattle.std.proofs.lemmas.Bool.{false≢true}
use Rattle.spec.specs.Limits.{most_attributes}
use Rattle.spec.specs.NTriples.{Subject}
use Rattle.spec.specs.Document as D
use Rattle.spec.specs.Document.{place_in}
use Rattle.spec.specs.Opening.{is_xml}
use Rattle.state.specs.declared.Registers.{Registers}
use Rattle.state.specs.Meaning.{count, subject_of, elements_of}
use Rattle.state.specs.Valid.{Valid}
use Rattle.event.specs.declared.Place.{Place}
use Rattle.event.specs.declared.Place.TheVariants.{Outside, Nodes, Properties, NodesOrText, Xml}
use Rattle.event.specs.Place.{place_at, place_is, top_of, place_read}
use Rattle.literal.specs.Judged.{Tag}
use Rattle.reader.specs.Asked.{Tagged}

abbrev pub is_literal : Place → Bool
is_literal Outside = false
is_literal Nodes = false
is_literal Properties = false
is_literal NodesOrText = false
is_literal Xml = true

pub told : {p q x : Place} → p ≡ q → p ≡ x → is_literal x ≡ is_literal q
told e t = ap is_literal (sym t ∙ e)

literal_is : (p : Place) (s : Subject) (n : ℕ) → is_xml (place_is p s n) ≡ is_literal p
unfolding is_xml place_is
literal_is Outside s n = refl
literal_is Nodes s n = refl
literal_is Properties s n = refl
literal_is NodesOrText s n = refl
literal_is Xml s n = refl

xml_is : (p : D.Place) → is_xml p ≡ true → p ≡ D.xml
unfolding is_xml
xml_is D.outside h = absurd (false≢true h)
xml_is D.nodes h = absurd (false≢true h)
xml_is D.nodes_or_text h = absurd (false≢true h)
xml_is D.xml h = refl
xml_is (D.properties s n) h = absurd (false≢true h)

-- ---- as `stands_in_literal` tells it

module _ {r : Registers} {fs bs is w : List ℕ} (v : Valid r fs bs is w) {b : Bool} (e : b ≡ is_literal (place_at r fs)) where
  stands : is_xml (place_in (elements_of r fs bs is w)) ≡ b
  stands = rw (place_read v) (literal_is (place_at r fs) (subject_of (top_of r fs) w) (count (top_of r fs)) ∙ sym e)

  pub stands-inside : b ≡ true → place_in (elements_of r fs bs is w) ≡ D.xml
  stands-inside t = xml_is (place_in (elements_of r fs bs is w)) (stands ∙ t)

  pub stands-outside : b ≡ false → is_xml (place_in (elements_of r fs bs is w)) ≡ false
  stands-outside f = stands ∙ f

module _ (r : Registers) (fs : List ℕ) {b : Bool} (e : b ≡ is_literal (place_at r fs)) where
  -- then no element is open inside Literal content
  pub stands_flat : b ≡ false → r.counts.inner ≡ 0
  unfolding place_at
  stands_flat f = go r.counts.inner refl
    where
      go : (n : ℕ) → r.counts.inner ≡ n → r.counts.inner ≡ 0
      go zero q = q
      go (suc n) q = absurd (false≢true (sym f ∙ (e ∙ rw (ne_eqb r.counts.inner 0 (λ z. omega arith)))))

-- ---- what is asked of a start tag in Literal content

pub inside-tag : {e v room : List ℕ} {m c k : ℕ} → Tagged e v m c k room → Tag e v m c k
unfolding most_attributes
inside-tag t = record { short = omega (arith, t.texts); few = omega (arith, t.tag.few); name = t.tag.colon; names = t.tag.splits }
