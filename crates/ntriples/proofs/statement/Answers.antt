-- `ntriples::statement` meets its contract: its line alone, or behind the four of its rdf:ID.
use Rattle.writer.specs.Put.{puts, put_as}
use Rattle.ntriples.specs.Lines.{stated, stated_plain}
use Rattle.ntriples.proofs.statement.Goals as goal

pub returns-in-None : goal.returns-in-None
returns-in-None c = rw c.in-None.is (put_as c.line.ensures (stated_plain _ _ _ _))

pub returns-in-Some : goal.returns-in-Some
returns-in-Some c = rw c.in-Some.is (put_as (puts c.reification-to.ensures c.line_behind.ensures) (stated _ _ _ _))
