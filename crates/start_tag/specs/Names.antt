-- An element's expanded name as the rules see it: one that is longer than an IRI may be is none of the names that they know.
use Prim.Native.Nat.{ℕ}
use Rattle.std.specs.Prelude.{◌≡◌, Bool, List, []}
use Rattle.std.proofs.Common.{sym, ap, ◌∙◌, arith}
use Rattle.std.proofs.Math.Option.{some}
use Rattle.spec.specs.Bytes.{Bytes, same}
use Rattle.spec.specs.Numbers.{good}
use Rattle.spec.specs.Rdf.{rdf, may_be_node, may_be_property}
use Rattle.spec.specs.Rdf as F
use Rattle.spec.specs.Productions.{is_li}
use Rattle.copy.specs.Copy.{part}
use Rattle.start_references.specs.declared.reference.Reference.{Reference}
use Rattle.start_references.specs.declared.reference.Reference.TheVariants.{Missing, Bad, Long, Made}
use Rattle.start_references.specs.Reference.{Refers}
use Rattle.start_rules.specs.Names.{long-rdf, long-description, long-alt, long-li, long-node, long-property}

abbrev pub iri_text : Reference → List ℕ → Bytes
iri_text Missing a = []
iri_text Bad a = []
iri_text Long a = []
iri_text (Made n) a = part a 5120 n

-- a test that says the same of the empty name and of every long one
through : {f : Bytes → Bool} (a : List ℕ) (i : Bytes) (r : Reference) → Refers r a 5120 (good (some i)) → ((l : Bytes) → Prim.Native.Nat.◌<◌ 1024 (lib.ListN.length l) → f l ≡ f []) → f (iri_text r a) ≡ f i
through a i Missing h g = absurd (let z : ◌≡◌ {A = ℕ} 0 1 = cc in omega arith)
through a i Bad h g = absurd (let z : ◌≡◌ {A = ℕ} 0 1 = cc in omega arith)
through {f} a i Long h g = let q : i ≡ h.text = cc h.is in sym (ap f q ∙ g h.text h.long)
through {f} a i (Made n) h g = let q : i ≡ part a 5120 n = cc h.is in ap f (sym q)

module _ (a : List ℕ) (i : Bytes) (r : Reference) (h : Refers r a 5120 (good (some i))) where
  pub node-name : may_be_node (iri_text r a) ≡ may_be_node i
  unfolding F.all
  node-name = through {f = may_be_node} a i r h (λ l q. long-node l q)

  pub property-name : may_be_property (iri_text r a) ≡ may_be_property i
  unfolding F.all
  property-name = through {f = may_be_property} a i r h (λ l q. long-property l q)

  pub li-name : is_li (iri_text r a) ≡ is_li i
  unfolding F.all is_li
  li-name = through {f = is_li} a i r h (λ l q. long-li l q)

  pub rdf-name : same (iri_text r a) (rdf "RDF") ≡ same i (rdf "RDF")
  unfolding F.all
  rdf-name = through {f = λ x. same x (rdf "RDF")} a i r h (λ l q. long-rdf l q)

  pub description-name : same (iri_text r a) (rdf "Description") ≡ same i (rdf "Description")
  unfolding F.all
  description-name = through {f = λ x. same x (rdf "Description")} a i r h (λ l q. long-description l q)

  pub alt-name : same (iri_text r a) (rdf "Alt") ≡ same i (rdf "Alt")
  unfolding F.all
  alt-name = through {f = λ x. same x (rdf "Alt")} a i r h (λ l q. long-alt l q)

-- ---- the arms of `iri_text`

module _ (a : List ℕ) {r : Reference} where
  pub text_missing : r ≡ Missing → [] ≡ iri_text r a
  text_missing h = rw h

  pub text_bad : r ≡ Bad → [] ≡ iri_text r a
  text_bad h = rw h

  pub text-long : r ≡ Long → [] ≡ iri_text r a
  text-long h = rw h

  pub text-made : {n : ℕ} {s : Bytes} → r ≡ Made n → s ≡ part a 5120 n → s ≡ iri_text r a
  text-made h q = q ∙ rw h
