-- The most bytes that the statement of a property has, from the sizes of its frame's parts.
use Rattle.std.specs.Prelude.{◌≡◌, refl, Bool, true, false, List, [], ◌∷◌, ℕ, ◌+◌, ◌-◌, ◌*◌, ◌≤◌, eqb, length}
use Rattle.std.proofs.Math.Option.{Option, none, some}
use native.Mathlib.Omega.{arith}
use Rattle.std.proofs.Common.{length-take, eq-eqb, ne_eqb}
use Rattle.spec.specs.Bytes.{Bytes, ascii}
use Rattle.spec.specs.Rdf.{rdf}
use Rattle.spec.specs.NTriples.{named, blank, Term, write_subject, write_term, write}
use Rattle.spec.specs.Document.{no_object, node_object, text_object}
use Rattle.spec.specs.Productions.{literal_of, statement}
use Rattle.spec.specs.EndTag.{object_term}
use Rattle.copy.specs.Copy.{part}
use Rattle.state_words.specs.Parts.{MAIN, ID, DATATYPE, TAIL, END, BLANK, IDENTIFIED, TYPED, PENDING}
use Rattle.state_words.specs.declared.Frame.{Frame}
use Rattle.state_words.specs.Words.{pick}
use Rattle.state.specs.Meaning.{at, has, span, optional, node_of, object_of, subject_of, property_of}
use Rattle.spec.specs.XmlLang.{written}
use Rattle.state.specs.Language.{language_of}
use Rattle.ntriples.specs.Room.{length_named, length_blank, length-node, length-plain, length_tagged, length-typed, statement_room, length-statement}
use Rattle.end_tag.specs.Object.{property_lines, literal_lines}

part_at_most : (w : List ℕ) (a n : ℕ) → length (part w a n) ≤ n
unfolding part
part_at_most w a n = rw length-take (omega arith)

span_at_most : (w : List ℕ) (a b : ℕ) → length (span w a b) ≤ b - a
unfolding span
span_at_most w a b = part_at_most w a (b - a)

length-node_of : (h : ℕ) (s : Bytes) → length (write_subject (node_of h s)) ≤ 6 * length s + 2
unfolding node_of
length-node_of h s = go (eqb h 0)
  where
    go : (t : Bool) → length (write_subject (pick t (named s) (blank s))) ≤ 6 * length s + 2
    go true = length_named s
    go false = omega (arith, length_blank s)

-- ---- a statement, whose object has at most so many bytes beside six marks

pub record StatementFits (n f : Frame) (object room : ℕ) : Type 0 where
  pub fits : (w : List ℕ) (o : Term) → length (write_term o) ≤ object + 6
      → length (write (statement (property_of f w (subject_of n w)) o)) ≤ room

-- its own line
abbrev pub line_room : Frame → Frame → ℕ → ℕ
line_room n f object = 6 * (at n ID - at n MAIN) + 6 * (at f ID - at f MAIN) + object + 15

own_line : (n f : Frame) (object : ℕ) (w : List ℕ) (o : Term) → length (write_term o) ≤ object + 6
    → length (write_subject (subject_of n w)) + 6 * length (span w (at f MAIN) (at f ID)) + length (write_term o) + 7 ≤ line_room n f object
unfolding subject_of
own_line n f object w o h =
    let s : Bytes = span w (at n MAIN) (at n ID) in
    omega (arith, length-node_of (has n BLANK) s, span_at_most w (at n MAIN) (at n ID), span_at_most w (at f MAIN) (at f ID))

module _ {n f : Frame} {object room : ℕ} where
  pub fits_one : has f IDENTIFIED ≡ 0 → line_room n f object ≤ room → StatementFits n f object room
  unfolding property_of optional statement_room
  fits_one z l =
      record {
        fits = λ w o h.
            rw (eq-eqb (has f IDENTIFIED) 0 z)
            (omega (arith, length-statement (subject_of n w) (span w (at f MAIN) (at f ID)) o none (own_line n f object w o h)));
      }

  -- and the four of an rdf:ID
  pub fits_five : (has f IDENTIFIED ≡ 0 → ⊥) → 2 * line_room n f object + 24 * (at f DATATYPE - at f ID) + 1533 ≤ room → StatementFits n f object room
  unfolding property_of optional statement_room
  fits_five z l =
      record {
        fits = λ w o h.
            rw (ne_eqb (has f IDENTIFIED) 0 z)
            (omega (
              arith,
              span_at_most w (at f ID) (at f DATATYPE),
              length-statement (subject_of n w) (span w (at f MAIN) (at f ID)) o (some (span w (at f ID) (at f DATATYPE)))
                  (own_line n f object w o h),
            ));
      }

-- ---- the object of a default property: h marks what it is

abbrev pub object_room : ℕ → ℕ → ℕ
object_room h n = pick (eqb h 1) (6 * n) (2 * n)

-- a datatype, if there is one
size : Option Bytes → ℕ
size none = 0
size (some s) = length s

length-literal : (d : Option Bytes) (l v : Bytes) → length (write_term (literal_of d (language_of l) v)) ≤ 2 * length v + 6 * size d + length l + 6
unfolding literal_of language_of written size
length-literal (some d) l v = omega (arith, length-typed v d)
length-literal none [] v = omega (arith, length-plain v)
length-literal none (c ∷ l) v = omega (arith, length_tagged v (c ∷ l))

length-object : (d : Option Bytes) (l : Bytes) (h : ℕ) (s : Bytes) {n : ℕ} → length s ≤ n
    → length (write_term (object_term d (language_of l) (object_of h s))) ≤ object_room h n + 6 * size d + length l + 6
unfolding object_of object_term
length-object d l h s {n} e = go (eqb h 0) (eqb h 1) (eqb h 2)
  where
    go : (a b c : Bool)
        → length (write_term (object_term d (language_of l) (pick a no_object (pick b (node_object (named s)) (pick c (node_object (blank s)) (text_object s))))))
        ≤ pick b (6 * n) (2 * n) + 6 * size d + length l + 6
    go true true c = omega (arith, length-literal d l [])
    go true false c = omega (arith, length-literal d l [])
    go false true c = omega (arith, length-node (named s), length_named s)
    go false false true = omega (arith, length-node (blank s), length_blank s)
    go false false false = omega (arith, length-literal d l s)

size-optional : (h : ℕ) (s : Bytes) → size (optional h s) ≤ length s
unfolding optional size
size-optional h s = go (eqb h 0)
  where
    go : (t : Bool) → size (pick t none (some s)) ≤ length s
    go true = omega arith
    go false = omega arith

pub property-fits : {n f : Frame} {room : ℕ} (l : Bytes)
    → StatementFits n f (object_room (has f PENDING) (at f END - at f TAIL) + 6 * (at f TAIL - at f DATATYPE) + length l) room
    → (w : List ℕ) → length (write (property_lines n f l w)) ≤ room
property-fits {f = f} l p w =
    let d : Bytes = span w (at f DATATYPE) (at f TAIL) in
    p.fits w _
    (omega (
      arith,
      length-object (optional (has f TYPED) d) l (has f PENDING) (span w (at f TAIL) (at f END)) (span_at_most w (at f TAIL) (at f END)),
      size-optional (has f TYPED) d,
      span_at_most w (at f DATATYPE) (at f TAIL),
    ))

-- ---- the text of a Literal property

length_datatype : length (rdf "XMLLiteral") ≡ 53
unfolding rdf ascii
length_datatype = refl

pub literal-fits : {n f : Frame} {room : ℕ} → StatementFits n f (2 * (at f END - at f TAIL) + 6 * 53) room
    → (w : List ℕ) → length (write (literal_lines n f w)) ≤ room
literal-fits {f = f} p w =
    let s : Bytes = span w (at f TAIL) (at f END) in
    p.fits w _ (omega (arith, length-typed s (rdf "XMLLiteral"), length_datatype, span_at_most w (at f TAIL) (at f END)))
