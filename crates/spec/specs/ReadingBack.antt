-- Demand 3 in its own words: the cells of a list, and the triples that accepted events gave.
use Rattle.std.specs.Prelude.{◌≡◌, List, [], ◌∷◌, ◌++◌}
use Rattle.std.proofs.Math.Option.{Option}
use Rattle.spec.specs.Bytes.{Bytes}
use Rattle.spec.specs.Numbers.{good}
use Rattle.spec.specs.Pyx.{Event}
use Rattle.spec.specs.NTriples.{Subject, named, node, Triple, triple}
use Rattle.spec.specs.Rdf.{rdf}
use Rattle.spec.specs.declared.Mode.{Mode}
use Rattle.spec.specs.Document.{Doc, fresh}
use Rattle.spec.specs.RdfXml.{next}
use Rattle.spec.specs.Lists.{After}

-- a triple is one of these
pub data Among (t : Triple) : List Triple → Type 0 where
  first : {ts : List Triple} → Among t (t ∷ ts)
  later : {u : Triple} {ts : List Triple} → Among t ts → Among t (u ∷ ts)

-- c is a cell of the list at x, in these lines: x itself, or a cell of the list that an rdf:rest of x names. rdf:nil has none.
pub data CellOf (ts : List Triple) : Subject → Subject → Type 0 where
  this : {x : Subject} → (x ≡ named (rdf "nil") → ⊥) → CellOf ts x x
  behind : {x y c : Subject} → (x ≡ named (rdf "nil") → ⊥) → Among (triple x (rdf "rest") (node y)) ts → CellOf ts y c
      → CellOf ts x c

-- Triples that accepted events gave: of any event of any document, and two such sequences one behind the other. So of a part
-- of a document, of a whole one, of several one after the other.
pub data Given : List Triple → Type 0 where
  none_given : Given []
  by_event : (m : Mode) (b : Option Bytes) {d : Doc} {ts : List Triple} → After (fresh m b) d ts
      → (e : Event) (d' : Doc) (us : List Triple) → next e d ≡ good (us, d') → Given us
  and_then : {ts us : List Triple} → Given ts → Given us → Given (ts ++ us)
