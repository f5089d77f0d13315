-- The object of a default property, from the marks and parts of its frame.
use Rattle.std.specs.Prelude.{ℕ, ◌-◌, ◌≡◌, refl, Bool, not, length, eqb}
use Rattle.std.proofs.Common.{◌∙◌, arith}
use Rattle.std.proofs.Math.Bool.{true, false}
use Rattle.std.proofs.Math.Option.{none, some}
use mathlib.Core.List.{List, [], ◌∷◌, ◌++◌, append-nil}
use borrow.Author.Tests.{eq-eqb, ne_eqb}
use Rattle.spec.specs.Bytes.{Bytes}
use Rattle.spec.specs.Rdf.{rdf}
use Rattle.spec.specs.NTriples.{Subject, named, blank, typed, Triple, write}
use Rattle.spec.specs.Productions.{literal_of, statement}
use Rattle.spec.specs.Document.{Property, no_object, text_object}
use Rattle.spec.specs.EndTag.{object_term}
use Rattle.copy.specs.Copy.{part}
use Rattle.state_words.specs.Parts.{MAIN, ID, DATATYPE, TAIL, END, BLANK, IDENTIFIED, TYPED, PENDING}
use Rattle.state_words.specs.declared.Frame.{Frame}
use Rattle.state_words.specs.Words.{pick}
use Rattle.state.specs.Meaning.{at, has, span, optional, node_of, object_of, subject_of, property_of}
use Rattle.spec.specs.XmlLang.{written}
use Rattle.state.specs.Language.{language_of}
use Rattle.ntriples.specs.declared.Node.{Node}
use Rattle.ntriples.specs.declared.Term.{Term}
use Rattle.ntriples.specs.declared.Term.TheVariants as term-kind
use Rattle.ntriples.specs.Terms as T

-- the statement of a default property of frame f, in the node of frame n, where the language of tag l is in force
abbrev pub property_lines : Frame → Frame → Bytes → List ℕ → List Triple
property_lines n f l w =
    statement (property_of f w (subject_of n w)) (object_term (optional (has f TYPED) (span w (at f DATATYPE) (at f TAIL))) (language_of l) (object_of (has f PENDING) (span w (at f TAIL) (at f END))))

-- that of a Literal property
abbrev pub literal_lines : Frame → Frame → List ℕ → List Triple
literal_lines n f w = statement (property_of f w (subject_of n w)) (typed (span w (at f TAIL) (at f END)) (rdf "XMLLiteral"))

-- ---- what kind of term it is, whatever its bytes are

-- a literal: t marks a datatype, and there may be a language, of tag l
pub record LiteralFor (t : ℕ) (l : Bytes) (r : Term) : Type 0 where
  pub says : (v d : Bytes) → T.term_of r v (pick (eqb t 0) l d) ≡ literal_of (optional t d) (language_of l) v

-- an object: h marks what it is
pub record TermFor (h t : ℕ) (l : Bytes) (r : Term) : Type 0 where
  pub says : (s d : Bytes) → T.term_of r (pick (eqb h 0) [] s) (pick (eqb t 0) l d) ≡ object_term (optional t d) (language_of l) (object_of h s)

-- a node, blank or not
pub node_is_lem : (b : Bool) {r : Node} → r ≡ T.node_for b → (s : Bytes) → T.subject_of r s ≡ pick b (blank s) (named s)
unfolding T.subject_of T.node_for
node_is_lem true e s = rw e
node_is_lem false e s = rw e

-- the mark of a frame, 0 for a named node
pub node-marked : (h : ℕ) {r : Node} → r ≡ T.node_for (not (eqb h 0)) → (s : Bytes) → T.subject_of r s ≡ node_of h s
unfolding node_of
node-marked h e s = node_is_lem (not (eqb h 0)) e s ∙ go (eqb h 0)
  where
    go : (t : Bool) → pick (not t) (blank s) (named s) ≡ pick t (named s) (blank s)
    go true = refl
    go false = refl

-- datatype beats language
pub literal-typed : {t : ℕ} (l : Bytes) → (t ≡ 0 → ⊥) → LiteralFor t l term-kind.Typed
unfolding T.term_of literal_of optional
literal-typed {t} l z = record { says = λ v d. rw (ne_eqb t 0 z) }

pub literal_tagged : {t : ℕ} (l : Bytes) → t ≡ 0 → (length l ≡ 0 → ⊥) → LiteralFor t l term-kind.Tagged
unfolding T.term_of literal_of language_of written optional
literal_tagged {t} [] z e = absurd (e refl)
literal_tagged {t} (c ∷ l) z e = record { says = λ v d. rw (eq-eqb t 0 z) }

pub literal-plain : {t : ℕ} (l : Bytes) → t ≡ 0 → length l ≡ 0 → LiteralFor t l term-kind.Plain
unfolding T.term_of literal_of language_of optional
literal-plain {t} [] z e = record { says = λ v d. rw (eq-eqb t 0 z) }
literal-plain {t} (c ∷ l) z e = absurd (omega arith)

module _ {h t : ℕ} {l : Bytes} where
  pub term_named : h ≡ 1 → TermFor h t l term-kind.Named
  unfolding T.term_of object_term object_of
  term_named e = record { says = λ s d. rw e }

  pub term_blank : h ≡ 2 → TermFor h t l term-kind.Blank
  unfolding T.term_of object_term object_of
  term_blank e = record { says = λ s d. rw e }

  pub term_literal : {r : Term} → (h ≡ 1 → ⊥) → (h ≡ 2 → ⊥) → LiteralFor t l r → TermFor h t l r
  unfolding object_term object_of
  term_literal {r} a b i = record { says = λ s d. rw (ne_eqb h 1 a, ne_eqb h 2 b) (go s d (eqb h 0)) }
    where
      go : (s d : Bytes) (z : Bool) → T.term_of r (pick z [] s) (pick (eqb t 0) l d) ≡ object_term (optional t d) (language_of l) (pick z no_object (text_object s))
      go s d true = i.says [] d
      go s d false = i.says s d

-- ---- the parts of a frame, as they are lent

pub span-lent : {r : List ℕ} {from n : ℕ} (w : List ℕ) (a b : ℕ) → r ≡ part w from n → from ≡ a → n ≡ b - a → r ≡ span w a b
unfolding span
span-lent w a b e p q = e ∙ rw (p, q)

nothing_lent : (w : List ℕ) → part w 0 0 ≡ []
unfolding part
nothing_lent w = refl

-- one or the other, by a mark
pub lent_unmarked : {r a : List ℕ} (h : ℕ) (b : List ℕ) → h ≡ 0 → r ≡ a → r ≡ pick (eqb h 0) a b
lent_unmarked h b z e = e ∙ rw (eq-eqb h 0 z)

pub lent_none : {r : List ℕ} (w : List ℕ) (h : ℕ) (b : List ℕ) → h ≡ 0 → r ≡ part w 0 0 → r ≡ pick (eqb h 0) [] b
lent_none w h b z e = lent_unmarked h b z (e ∙ nothing_lent w)

pub lent-marked : {r b : List ℕ} (h : ℕ) (a : List ℕ) → (h ≡ 0 → ⊥) → r ≡ b → r ≡ pick (eqb h 0) a b
lent-marked h a z e = e ∙ rw (ne_eqb h 0 z)

-- ---- the statement of a property

property-marked : (f : Frame) (w : List ℕ) (s : Subject)
    → T.property_of (not (eqb (has f IDENTIFIED) 0)) (span w (at f ID) (at f DATATYPE)) s (span w (at f MAIN) (at f ID)) ≡ property_of f w s
unfolding T.property_of T.id_of property_of optional
property-marked f w s = go (eqb (has f IDENTIFIED) 0)
  where
    go : (t : Bool)
        → ◌≡◌ {A = Property} (record { subject = s; iri = span w (at f MAIN) (at f ID); id = T.id_of (not t) (span w (at f ID) (at f DATATYPE)) })
        (record { subject = s; iri = span w (at f MAIN) (at f ID); id = pick t none (some (span w (at f ID) (at f DATATYPE))) })
    go true = refl
    go false = refl

pub stated : {id s iri : List ℕ} {node : Node} (n f : Frame) (w front extra : List ℕ) (term : Term)
    → node ≡ T.node_for (not (eqb (has n BLANK) 0)) → s ≡ span w (at n MAIN) (at n ID) → iri ≡ span w (at f MAIN) (at f ID) → id ≡ span w (at f ID) (at f DATATYPE)
    → write (statement (T.property_of (not (eqb (has f IDENTIFIED) 0)) id (T.subject_of node s) (iri ++ [])) (T.term_of term (front ++ []) extra))
    ≡ write (statement (property_of f w (subject_of n w)) (T.term_of term front extra))
unfolding subject_of
stated {s = s} {iri = iri} n f w front extra term x p q i =
    rw (append-nil front, append-nil iri, q, i, node-marked (has n BLANK) x s, p, property-marked f w (node_of (has n BLANK) (span w (at n MAIN) (at n ID))))

pub said : {text extra : List ℕ} {term : Term} (f : Frame) (w : List ℕ) (l : Bytes) (p : Property) → TermFor (has f PENDING) (has f TYPED) l term
    → text ≡ pick (eqb (has f PENDING) 0) [] (span w (at f TAIL) (at f END)) → extra ≡ pick (eqb (has f TYPED) 0) l (span w (at f DATATYPE) (at f TAIL))
    → write (statement p (T.term_of term text extra))
    ≡ write (statement p (object_term (optional (has f TYPED) (span w (at f DATATYPE) (at f TAIL))) (language_of l) (object_of (has f PENDING) (span w (at f TAIL) (at f END)))))
said f w l p t x y = rw (x, y, t.says (span w (at f TAIL) (at f END)) (span w (at f DATATYPE) (at f TAIL)))
