-- Where an event stands, from the registers and the frame on top.
use Prim.Native.Nat.{ℕ, zero, suc, ◌-◌}
use Rattle.std.specs.Prelude.{◌≡◌, List, eqb}
use Rattle.std.proofs.Math.Path.{refl}
use Rattle.std.proofs.Common.{◌∙◌}
use native.Mathlib.Omega.{arith}
use borrow.Author.Tests.{eq-eqb, ne_eqb}
use Rattle.spec.specs.NTriples.{Subject}
use Rattle.spec.specs.Document as D
use Rattle.state_words.specs.declared.Kind.{Kind}
use Rattle.state_words.specs.declared.Kind.TheVariants.{Rdf, NodeElt, PropertyElt, ParseTypeCollectionPropertyElt, ParseTypeLiteralPropertyElt, ParseTypeOtherPropertyElt, Wrapper}
use Rattle.state_words.specs.declared.Frame.{Frame}
use Rattle.state_words.specs.Words.{pick, frame_at, load_frame, load_frame_lem}
use Rattle.state.specs.declared.Registers.{Registers}
use Rattle.state.specs.Meaning.{count, subject_of, what_of, element_of, frames_of, inner_of, inners_of, elements_of}
use Rattle.state.specs.Valid.{Valid}
use Rattle.event.specs.declared.Place.{Place}
use Rattle.event.specs.declared.Place.TheVariants.{Outside, Nodes, Properties, NodesOrText, Xml}

abbrev pub place_of : Kind → Place
place_of Rdf = Nodes
place_of NodeElt = Properties
place_of PropertyElt = NodesOrText
place_of ParseTypeCollectionPropertyElt = Nodes
place_of ParseTypeLiteralPropertyElt = Xml
place_of ParseTypeOtherPropertyElt = Xml
place_of Wrapper = Outside

unfoldable pub place_at : Registers → List ℕ → Place
place_at r fs = pick (eqb r.counts.inner 0) (pick (eqb r.counts.depth 0) Outside (place_of (load_frame fs (r.counts.depth - 1)).kind)) Xml

-- ---- in the definitions' words

-- s and n: the subject of the node on top, and how many rdf:li it has had
unfoldable pub place_is : Place → Subject → ℕ → D.Place
place_is Outside s n = D.outside
place_is Nodes s n = D.nodes
place_is Properties s n = D.properties s n
place_is NodesOrText s n = D.nodes_or_text
place_is Xml s n = D.xml

kind_place : (k : Kind) (f : Frame) (w : List ℕ) (s : Subject) → D.in_kind (what_of k f w s) ≡ place_is (place_of k) (subject_of f w) (count f)
unfolding what_of D.in_kind D.in_value place_is
kind_place Rdf f w s = refl
kind_place NodeElt f w s = refl
kind_place PropertyElt f w s = refl
kind_place ParseTypeCollectionPropertyElt f w s = refl
kind_place ParseTypeLiteralPropertyElt f w s = refl
kind_place ParseTypeOtherPropertyElt f w s = refl
kind_place Wrapper f w s = refl

-- the frame on top, if there is one
abbrev pub top_of : Registers → List ℕ → Frame
top_of r fs = frame_at fs (r.counts.depth - 1)

module _ {r : Registers} {fs bs is w : List ℕ} (x : Valid r fs bs is w) where
  in_xml : (n : ℕ) → r.counts.inner ≡ suc n → D.place_in (elements_of r fs bs is w) ≡ D.xml
  unfolding D.place_in elements_of inners_of inner_of D.in_kind
  in_xml n d = rw d

  in_frame : r.counts.inner ≡ 0 → (n : ℕ) → r.counts.depth ≡ suc n
      → D.place_in (elements_of r fs bs is w) ≡ place_is (place_of (frame_at fs n).kind) (subject_of (frame_at fs n) w) (count (frame_at fs n))
  unfolding D.place_in elements_of inners_of frames_of element_of
  in_frame z n d = rw (z, d) (kind_place (frame_at fs n).kind (frame_at fs n) w _)

  in_nothing : r.counts.inner ≡ 0 → r.counts.depth ≡ 0 → D.place_in (elements_of r fs bs is w) ≡ D.outside
  unfolding D.place_in elements_of inners_of frames_of
  in_nothing z d = rw (z, d)

  pub place_read : D.place_in (elements_of r fs bs is w) ≡ place_is (place_at r fs) (subject_of (top_of r fs) w) (count (top_of r fs))
  unfolding place_at place_is
  place_read = go r.counts.inner refl r.counts.depth refl
    where
      go : (i : ℕ) → r.counts.inner ≡ i → (d : ℕ) → r.counts.depth ≡ d
          → D.place_in (elements_of r fs bs is w) ≡ place_is (place_at r fs) (subject_of (top_of r fs) w) (count (top_of r fs))
      go (suc i) p d q = rw (ne_eqb r.counts.inner 0 (λ z. omega arith)) (in_xml i p)
      go zero p zero q = rw (eq-eqb r.counts.inner 0 p, eq-eqb r.counts.depth 0 q) (in_nothing p q)
      go zero p (suc d) q =
          let e : r.counts.depth - 1 ≡ d = omega arith in
          rw (eq-eqb r.counts.inner 0 p, ne_eqb r.counts.depth 0 (λ z. omega arith), e, load_frame_lem fs d (omega (arith, x.frame_words, x.deep))) (in_frame p d q)

-- ---- how `place_at` comes to its answer

module _ (r : Registers) (fs : List ℕ) where
  pub place_inside : (r.counts.inner ≡ 0 → ⊥) → Xml ≡ place_at r fs
  unfolding place_at
  place_inside h = rw (ne_eqb r.counts.inner 0 h)

  pub place_outside : r.counts.inner ≡ 0 → r.counts.depth ≡ 0 → Outside ≡ place_at r fs
  unfolding place_at
  place_outside z d = rw (eq-eqb r.counts.inner 0 z, eq-eqb r.counts.depth 0 d)

  pub place_there : {f : Frame} {p : Place} → r.counts.inner ≡ 0 → (r.counts.depth ≡ 0 → ⊥) → f ≡ load_frame fs (r.counts.depth - 1) → p ≡ place_of f.kind → p ≡ place_at r fs
  unfolding place_at
  place_there z d e q = q ∙ rw (eq-eqb r.counts.inner 0 z, ne_eqb r.counts.depth 0 d, e)
