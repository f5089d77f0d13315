-- `ntriples::Node::of` meets its contract.
use Rattle.ntriples.specs.Terms.{node_for}
use Rattle.ntriples.proofs.Node.of.Goals as goal

pub returns-then-blank : goal.returns-then-blank
unfolding node_for
returns-then-blank c = rw c.if-blank.true

pub returns-else-blank : goal.returns-else-blank
unfolding node_for
returns-else-blank c = rw c.if-blank.false
