-- `ntriples::object` meets its contract, kind by kind.
use Rattle.spec.specs.NTriples.{write_subject, write_term}
use Rattle.ntriples.specs.Terms.{term_of}
use Rattle.ntriples.proofs.object.Goals as goal

pub returns-in-Named : goal.returns-in-Named
unfolding write_subject write_term term_of
returns-in-Named c = rw c.in-Named.is c.iri.ensures

pub returns-in-Blank : goal.returns-in-Blank
unfolding write_term term_of
returns-in-Blank c = rw c.in-Blank.is c.label.ensures

pub returns-in-Plain : goal.returns-in-Plain
unfolding write_term term_of
returns-in-Plain c = rw c.in-Plain.is c.text.ensures

pub returns-in-Tagged : goal.returns-in-Tagged
unfolding term_of
returns-in-Tagged c = rw c.in-Tagged.is c.tagged.ensures

pub returns-in-Typed : goal.returns-in-Typed
unfolding term_of
returns-in-Typed c = rw c.in-Typed.is c.typed.ensures
