-- What is written piece by piece is the definitions' text.
use Rattle.std.specs.Prelude.{◌≡◌, true, false, ℕ, suc}
use Rattle.std.proofs.Common.{sym}
use mathlib.Core.List.{List, [], ◌∷◌, ◌++◌, append_assoc, append-nil}
use Rattle.std.proofs.Math.Option.{some}
use Rattle.spec.specs.Bytes.{Bytes, byte}
use Rattle.spec.specs.NTriples.{Subject, named, blank, Term, node, Triple, triple, label, coded, iri_byte, literal_byte, write_iri, quoted, line, write}
use Rattle.spec.specs.Rdf.{rdf}
use Rattle.spec.specs.Productions.{reification, statement}
use Rattle.spec.specs.EndTag.{cells}
use Rattle.writer.specs.Coded.{coded-append}
use Rattle.ntriples.specs.Terms.{id_of, property_of, cell_of}

-- ---- a term in two parts

pub iri_parts : (f b : Bytes) → (60 ∷ []) ++ (coded iri_byte f ++ (coded iri_byte b ++ (62 ∷ []))) ≡ write_iri (f ++ b)
unfolding write_iri byte
iri_parts f b = rw (coded-append iri_byte f b, append_assoc)

pub text_parts : (f b : Bytes) → (34 ∷ []) ++ (coded literal_byte f ++ (coded literal_byte b ++ (34 ∷ []))) ≡ quoted (f ++ b)
unfolding quoted byte
text_parts f b = rw (coded-append literal_byte f b, append_assoc)

-- ---- lines in a row

module _ (s : Subject) (p : Bytes) (o : Term) where
  pub reified : (i : Bytes)
      → line (triple (named i) (rdf "type") (node (named (rdf "Statement"))))
      ++ (line (triple (named i) (rdf "subject") (node s))
      ++ (line (triple (named i) (rdf "predicate") (node (named p))) ++ line (triple (named i) (rdf "object") o)))
      ≡ write (reification (some i) s p o)
  unfolding reification write
  reified i = simp append-nil

  -- with an rdf:ID, and without
  pub stated : (i : Bytes) → write (reification (some i) s p o) ++ line (triple s p o) ≡ write (statement (property_of true i s p) o)
  unfolding statement property_of id_of reification write
  stated i = simp (append_assoc, append-nil)

  pub stated_plain : (i : Bytes) → line (triple s p o) ≡ write (statement (property_of false i s p) o)
  unfolding statement property_of id_of reification write
  stated_plain i = simp append-nil

pub cell-lines : (l : Bytes) (first rest : Subject)
    → line (triple (blank l) (rdf "first") (node first)) ++ line (triple (blank l) (rdf "rest") (node rest)) ≡ write (cell_of l first rest)
unfolding cell_of write
cell-lines l first rest = simp append-nil

-- ---- what callers cite

pub write-one : (t : Triple) → line t ≡ write (t ∷ [])
unfolding write
write-one t = sym (append-nil (line t))

-- a list is written cell by cell
pub cells_more : (n : ℕ) (rest c : Subject) (cs : List Subject)
    → write (cell_of (label (suc n)) c rest) ++ write (cells (suc n) (blank (label (suc n))) cs) ≡ write (cells n rest (c ∷ cs))
unfolding cell_of cells write
cells_more n rest c cs = simp (append_assoc, append-nil)
