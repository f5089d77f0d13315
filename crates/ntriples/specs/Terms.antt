-- Subjects, objects and statements, from a kind and the bytes beside it.
use Rattle.std.specs.Prelude.{◌≡◌, refl, Bool, true, false, List, [], ◌∷◌, ◌++◌}
use Rattle.std.specs.Prelude.{Option as Maybe, None, Some, is_some}
use Rattle.std.specs.Bool.{then_some}
use denote.Bor.{Bor}
use Rattle.std.proofs.Math.Option.{Option, none, some}
use Prim.Native.String.{String}
use Rattle.spec.specs.Bytes.{Bytes, ascii}
use Rattle.spec.specs.NTriples.{Subject, named, blank, node, plain, tagged, typed, Triple, triple}
use Rattle.spec.specs.NTriples as N
use Rattle.spec.specs.Rdf.{rdf}
use Rattle.spec.specs.Document.{Property}
use Rattle.ntriples.specs.declared.Node.{Node}
use Rattle.ntriples.specs.declared.Node.TheVariants as node-kind
use Rattle.ntriples.specs.declared.Term.{Term}
use Rattle.ntriples.specs.declared.Term.TheVariants as term-kind

-- with a label, or with an IRI
unfoldable pub node_for : Bool → Node
node_for true = node-kind.Blank
node_for false = node-kind.Named

-- an IRI, or a label
unfoldable pub subject_of : Node → Bytes → Subject
subject_of node-kind.Named i = named i
subject_of node-kind.Blank l = blank l

-- an IRI, a label, or a text; beside a text its tag or its datatype
unfoldable pub term_of : Term → Bytes → Bytes → N.Term
term_of term-kind.Named i x = node (named i)
term_of term-kind.Blank l x = node (blank l)
term_of term-kind.Plain s x = plain s
term_of term-kind.Tagged s l = tagged s l
term_of term-kind.Typed s d = typed s d

-- a node as an object
unfoldable pub as_term : Node → Term
as_term node-kind.Named = term-kind.Named
as_term node-kind.Blank = term-kind.Blank

pub as_term_lem : (n : Node) (s x : Bytes) → term_of (as_term n) s x ≡ node (subject_of n s)
unfolding term_of as_term subject_of
as_term_lem node-kind.Named s x = refl
as_term_lem node-kind.Blank s x = refl

-- a name of the rdf namespace, from its local part
unfoldable pub in_rdf : Bytes → Bytes
in_rdf n = ascii "http://www.w3.org/1999/02/22-rdf-syntax-ns#" ++ n

pub in_rdf_lem : (s : String) → in_rdf (ascii s) ≡ rdf s
unfolding in_rdf rdf
in_rdf_lem s = refl

-- an rdf:ID, where there is one
unfoldable pub id_of : Bool → Bytes → Option Bytes
id_of true i = some i
id_of false i = none

-- the property of a statement
unfoldable pub property_of : Bool → Bytes → Subject → Bytes → Property
property_of has i s p = record { subject = s; iri = p; id = id_of has i }

-- the text that is lent, and no bytes where there is none
abbrev pub text_of : Maybe (Bor Bytes) → Bytes
text_of None = []
text_of (Some i) = i.now

-- one that is lent where the flag says so
pub lent_id : (has : Bool) (i : Bor Bytes) {lent : Maybe (Bor Bytes)} → lent ≡ then_some has i → id_of (is_some lent) (text_of lent) ≡ id_of has i.now
unfolding id_of
lent_id true i e = rw e refl
lent_id false i e = rw e refl

pub lent_property : (has : Bool) (i : Bor Bytes) {lent : Maybe (Bor Bytes)} (s : Subject) (p : Bytes) → lent ≡ then_some has i
    → property_of (is_some lent) (text_of lent) s p ≡ property_of has i.now s p
unfolding property_of
lent_property has i s p e = rw (lent_id has i e)

-- the two lines of a list's cell: its member, and the list of the others
unfoldable pub cell_of : Bytes → Subject → Subject → List Triple
cell_of l first rest = triple (blank l) (rdf "first") (node first) ∷ triple (blank l) (rdf "rest") (node rest) ∷ []
