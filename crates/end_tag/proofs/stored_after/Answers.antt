-- `end_tag::stored_after` meets its contract. A law of specs/ for each kind of the element around the node.
use Rattle.state_words.specs.declared.Kind.TheVariants.{PropertyElt, ParseTypeCollectionPropertyElt}
use Rattle.state_stack.specs.Calls.{is_kind}
use Rattle.end_tag.specs.Node.{after_object, after_child, after_none}
use native.Mathlib.Omega.{arith}
use Rattle.end_tag.proofs.stored_after.Goals as goal

pub overflow_add-result : goal.overflow_add-result
overflow_add-result c = omega (arith, c.wide.ensures, c.main_size-size.ensures)

pub returns-then-eq : goal.returns-then-eq
returns-then-eq c = after_object c.pop.ensures c.unwrap_or-behind.ensures c.top-n.ensures c.main_size-size.ensures.0 c.top-f.ensures (is_kind _ PropertyElt c.eq.ensures c.if-eq.true) c.wide.ensures.0

pub overflow_add-result-then-eq-2 : goal.overflow_add-result-then-eq-2
overflow_add-result-then-eq-2 c = omega (arith, c.wide-then-eq-2.ensures, c.main_size-size.ensures)

pub overflow_add-result-then-eq-2-2 : goal.overflow_add-result-then-eq-2-2
overflow_add-result-then-eq-2-2 c = omega (arith, c.wide-then-eq-2.ensures, c.main_size-size.ensures)

pub returns-then-eq-2 : goal.returns-then-eq-2
returns-then-eq-2 c = after_child c.pop.ensures c.unwrap_or-behind.ensures c.top-n.ensures c.main_size-size.ensures.0 c.top-f.ensures (is_kind _ PropertyElt c.eq.ensures c.if-eq.false) (is_kind _ ParseTypeCollectionPropertyElt c.eq-2.ensures c.if-eq-2.true) c.wide-then-eq-2.ensures.0

pub returns : goal.returns
returns c = after_none c.pop.ensures c.unwrap_or-behind.ensures c.top-n.ensures c.main_size-size.ensures.0 c.top-f.ensures (is_kind _ PropertyElt c.eq.ensures c.if-eq.false) (is_kind _ ParseTypeCollectionPropertyElt c.eq-2.ensures c.if-eq-2.false)
