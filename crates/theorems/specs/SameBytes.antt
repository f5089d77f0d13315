-- Demand 3: two different sequences of this reader's triples never have the same bytes, since reading gives back the triples.
use Rattle.std.specs.Prelude.{◌≡◌, List, [], ◌∷◌, ◌++◌, ◌+◌, length}
use Rattle.std.proofs.Common.{sym, ◌∙◌, ap, arith}
use Rattle.std.proofs.Math.Option.{Option, some-injective}
use Rattle.spec.specs.Bytes.{Bytes, All}
use Rattle.spec.specs.NTriples.{Triple, write}
use Rattle.spec.specs.NTriplesReading.{lines}
use Rattle.spec.specs.declared.Mode.{Mode}
use Rattle.spec.specs.Document.{Doc, fresh}
use Rattle.spec.specs.Lists.{After, here, event}
use Rattle.spec.specs.ReadingBack.{Given, none_given, by_event, and_then}
use Rattle.theorems.specs.Always.{all_append}
use Rattle.theorems.specs.Children.{after_append}
use Rattle.theorems.specs.NTriplesGrammar.{LabelTriple, labels_after}
use Rattle.theorems.specs.NTriplesReading.{lines_back}

-- ---- labels and tags of all of them are of the grammar

behind : (P : Triple → Type 0) (ts us : List Triple) → All P (ts ++ us) → All P us
behind P [] us h = h
behind P (t ∷ ts) us h = behind P ts us h.1

given_labels : {ts : List Triple} → Given ts → All LabelTriple ts
given_labels none_given = tt
given_labels (by_event m b {ts = ts} a e d' us q) = behind LabelTriple ts us (labels_after m b d' (ts ++ us) (event a e d' us q))
given_labels (and_then {ts = ts} {us = us} g h) = all_append LabelTriple ts us (given_labels g) (given_labels h)

-- ---- the theorem

pub same_bytes_same_triples : (ts us : List Triple) → Given ts → Given us → write ts ≡ write us → ts ≡ us
same_bytes_same_triples ts us g h e =
    let n = length ts + length us in
    some-injective ts us
    (sym (lines_back n ts (omega arith) (given_labels g)) ∙ (ap (lines n) e ∙ lines_back n us (omega arith) (given_labels h)))

-- ---- what is given

-- by a part of a document
pub part-given : (m : Mode) (b : Option Bytes) (d d' : Doc) (ts us : List Triple) → After (fresh m b) d ts → After d d' us → Given us
part-given m b d d' ts us before here = none_given
part-given m b d d'' ts us before (event {d = d₁} {ts = vs} a e d' ws q) =
    and_then (part-given m b d d₁ ts vs before a) (by_event m b (after_append before a) e d' ws q)

-- by a document from its start
pub whole-given : (m : Mode) (b : Option Bytes) (d : Doc) (ts : List Triple) → After (fresh m b) d ts → Given ts
whole-given m b d ts a = part-given m b (fresh m b) d [] ts here a
