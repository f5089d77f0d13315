-- `ntriples::subject` meets its contract, kind by kind.
use mathlib.Core.List.{append-nil}
use Rattle.spec.specs.NTriples.{write_subject}
use Rattle.ntriples.specs.Terms.{subject_of}
use Rattle.ntriples.proofs.subject.Goals as goal

pub returns-in-Named : goal.returns-in-Named
unfolding write_subject subject_of
returns-in-Named c = rw c.in-Named.is (rw append-nil at c.iri.ensures)

pub returns-in-Blank : goal.returns-in-Blank
unfolding subject_of
returns-in-Blank c = rw c.in-Blank.is (rw append-nil at c.label.ensures)
