-- `state_stack::nodes::take_node` meets its contract. A law of specs/ for each return, with the tests that led there.
use Rattle.state_words.specs.declared.Kind.TheVariants.{PropertyElt, ParseTypeCollectionPropertyElt}
use Rattle.state_stack.specs.Calls.{is_kind}
use Rattle.state_stack.specs.Take.{took_object, took_child, took_none}
use Rattle.state_stack.proofs.nodes.take_node.Goals as goal

pub returns-then-eq : goal.returns-then-eq
returns-then-eq c = took_object c.top-f.ensures (is_kind _ PropertyElt c.eq.ensures c.if-eq.true) c.take_object.ensures

pub returns-then-eq-2 : goal.returns-then-eq-2
returns-then-eq-2 c = took_child c.top-f.ensures (is_kind _ PropertyElt c.eq.ensures c.if-eq.false) (is_kind _ ParseTypeCollectionPropertyElt c.eq-2.ensures c.if-eq-2.true) c.take_child.ensures

pub returns : goal.returns
returns c = took_none c.top-f.ensures (is_kind _ PropertyElt c.eq.ensures c.if-eq.false) (is_kind _ ParseTypeCollectionPropertyElt c.eq-2.ensures c.if-eq-2.false)
