-- `end_tag::statements::object_room` meets its contract. By the mark of the object.
use borrow.Author.Tests.{eq-eqb, ne_eqb}
use native.Mathlib.Omega.{arith}
use Rattle.end_tag.proofs.statements.object_room.Goals as goal

pub returns-then-what-eq-NAMED_NODE : goal.returns-then-what-eq-NAMED_NODE
returns-then-what-eq-NAMED_NODE c = (rw (eq-eqb _ 1 c.if-what-eq-NAMED_NODE.true), omega arith)

pub returns : goal.returns
returns c = (rw (ne_eqb _ 1 c.if-what-eq-NAMED_NODE.false), omega arith)
