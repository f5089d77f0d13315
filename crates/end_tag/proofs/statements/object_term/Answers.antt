-- `end_tag::statements::object_term` meets its contract. By the mark of the tail.
use Rattle.end_tag.specs.Object.{term_named, term_blank, term_literal}
use Rattle.end_tag.proofs.statements.object_term.Goals as goal

pub returns-then-what-eq-NAMED_NODE : goal.returns-then-what-eq-NAMED_NODE
returns-then-what-eq-NAMED_NODE c = term_named c.if-what-eq-NAMED_NODE.true

pub returns-then-what-eq-BLANK_NODE : goal.returns-then-what-eq-BLANK_NODE
returns-then-what-eq-BLANK_NODE c = term_blank c.if-what-eq-BLANK_NODE.true

pub returns : goal.returns
returns c = term_literal c.if-what-eq-NAMED_NODE.false c.if-what-eq-BLANK_NODE.false c.new_literal.ensures
