-- `state_stack::nodes::close_node` meets its contract. A law of specs/ for each return, with the tests that led there.
use Rattle.state_words.specs.declared.Kind.TheVariants.{NodeElt}
use Rattle.state_stack.specs.Calls.{not_kind}
use Rattle.spec.specs.Limits.{work_store_bytes}
use Rattle.state_stack.specs.Take.{close_store, close_other, close_none, close_done}
use native.Mathlib.Omega.{arith}
use borrow.Author.Rules.{rules}
use Rattle.state_stack.proofs.nodes.close_node.Goals as goal

pub returns-then-work-ne-STORE : goal.returns-then-work-ne-STORE
returns-then-work-ne-STORE c = close_store c.if-work-ne-STORE.true

pub returns-then-ne : goal.returns-then-ne
returns-then-ne c = close_other (omega arith) c.top-n.ensures (not_kind _ NodeElt c.ne.ensures c.if-ne.true)

pub returns-in_err-q : goal.returns-in_err-q
returns-in_err-q c = rw c.from_residual.ensures (close_none (omega arith) c.top-n.ensures (not_kind _ NodeElt c.ne.ensures c.if-ne.false) c.in_err-q.ensures)

pub take_node-requires : goal.take_node-requires
unfolding work_store_bytes
take_node-requires c = search rules

pub returns : goal.returns
returns c = close_done (omega (arith, c.if-work-ne-STORE.false)) c.top-n.ensures (not_kind _ NodeElt c.ne.ensures c.if-ne.false) c.in_ok-q.ensures c.take_node.ensures
