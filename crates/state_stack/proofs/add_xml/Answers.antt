-- `state_stack::add_xml` meets its contract. A law of specs/ for each return, with the tests that led there.
use Rattle.state_words.specs.declared.Kind.TheVariants.{ParseTypeLiteralPropertyElt, ParseTypeOtherPropertyElt}
use Rattle.state_stack.specs.Calls.{is_kind, not_kind}
use Rattle.state_stack.specs.Calls.{xml_dropped, xml_other, xml_done}
use Rattle.state_stack.proofs.add_xml.Goals as goal

pub returns-then-eq : goal.returns-then-eq
returns-then-eq c = xml_dropped c.top-f.ensures (is_kind _ ParseTypeOtherPropertyElt c.eq.ensures c.if-eq.true)

pub returns-then-ne : goal.returns-then-ne
returns-then-ne c = xml_other c.top-f.ensures (is_kind _ ParseTypeOtherPropertyElt c.eq.ensures c.if-eq.false) (not_kind _ ParseTypeLiteralPropertyElt c.ne.ensures c.if-ne.true)

pub returns : goal.returns
returns c = xml_done c.top-f.ensures (is_kind _ ParseTypeOtherPropertyElt c.eq.ensures c.if-eq.false) (not_kind _ ParseTypeLiteralPropertyElt c.ne.ensures c.if-ne.false) (rw c.wide.ensures.0 at c.write_tail.ensures)
