-- The most bytes that a statement has: an IRI is written with at most 6 for each of its bytes, a text with 2.
use Rattle.std.specs.Prelude.{◌≡◌, refl, ℕ, ◌+◌, ◌*◌, ◌≤◌, length}
use mathlib.Core.List.{append-nil}
use Rattle.std.proofs.Math.Option.{Option, none, some}
use native.Mathlib.Omega.{arith}
use Rattle.std.proofs.Math.ListN.{length-append}
use Rattle.spec.specs.Bytes.{Bytes, ascii}
use Rattle.spec.specs.NTriples.{Subject, named, blank, Term, node, plain, tagged, typed, triple, iri_byte, literal_byte, write_iri, write_subject, quoted, write_term, line, write}
use Rattle.spec.specs.Rdf.{rdf}
use Rattle.spec.specs.Productions.{reification, statement}
use Rattle.writer.specs.Words.{length_iri_byte, length-literal-byte}
use Rattle.writer.specs.Coded.{length-coded}

-- ---- terms

pub length_iri : (i : Bytes) → length (write_iri i) ≤ 6 * length i + 2
unfolding write_iri
length_iri i = simp length-append (omega (arith, length-coded iri_byte 6 length_iri_byte i))

pub length-quoted : (s : Bytes) → length (quoted s) ≤ 2 * length s + 2
unfolding quoted
length-quoted s = simp length-append (omega (arith, length-coded literal_byte 2 length-literal-byte s))

pub length_named : (i : Bytes) → length (write_subject (named i)) ≤ 6 * length i + 2
unfolding write_subject
length_named i = length_iri i

pub length_blank : (l : Bytes) → length (write_subject (blank l)) ≡ length l + 2
unfolding write_subject ascii
length_blank l = omega arith

pub length-node : (s : Subject) → length (write_term (node s)) ≡ length (write_subject s)
unfolding write_term
length-node s = refl

pub length-plain : (s : Bytes) → length (write_term (plain s)) ≤ 2 * length s + 2
unfolding write_term
length-plain s = length-quoted s

pub length_tagged : (s l : Bytes) → length (write_term (tagged s l)) ≤ 2 * length s + length l + 3
unfolding write_term ascii
length_tagged s l = simp length-append (omega (arith, length-quoted s))

pub length-typed : (s d : Bytes) → length (write_term (typed s d)) ≤ 2 * length s + 6 * length d + 6
unfolding write_term ascii
length-typed s d = simp length-append (omega (arith, length-quoted s, length_iri d))

-- ---- lines

length-line : (s : Subject) (p : Bytes) (o : Term)
    → length (line (triple s p o)) ≤ length (write_subject s) + 6 * length p + length (write_term o) + 7
unfolding line ascii
length-line s p o = simp length-append (omega (arith, length_iri p))

-- the lines of an rdf:ID have one name of the rdf namespace, or two
length-rdf : (length (rdf "type") ≡ 47) × (length (rdf "Statement") ≡ 52)
    × (length (rdf "subject") ≡ 50) × (length (rdf "predicate") ≡ 52) × (length (rdf "object") ≡ 49)
unfolding rdf ascii
length-rdf = (refl, refl, refl, refl, refl)

-- a statement whose own line has at most m bytes; an rdf:ID adds four lines
unfoldable pub statement_room : ℕ → Option Bytes → ℕ
statement_room m none = m
statement_room m (some i) = 2 * m + 24 * length i + 1533

module _ (s : Subject) (p : Bytes) (o : Term) where
  pub length-statement : (i : Option Bytes) {m : ℕ}
      → length (write_subject s) + 6 * length p + length (write_term o) + 7 ≤ m
      → length (write (statement (record { subject = s; iri = p; id = i }) o)) ≤ statement_room m i
  unfolding statement_room statement reification write
  length-statement none h = rw append-nil (omega (arith, length-line s p o))
  length-statement (some i) h =
      simp length-append
      (omega (
        arith,
        length-rdf,
        length_named i,
        length_named p,
        length_named (rdf "Statement"),
        length-node s,
        length-node (named p),
        length-node (named (rdf "Statement")),
        length-line (named i) (rdf "type") (node (named (rdf "Statement"))),
        length-line (named i) (rdf "subject") (node s),
        length-line (named i) (rdf "predicate") (node (named p)),
        length-line (named i) (rdf "object") o,
        length-line s p o,
      ))
