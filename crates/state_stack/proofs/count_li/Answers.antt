-- `state_stack::count_li` meets its contract. A law of specs/ for each return, with the tests that led there.
use Rattle.state_words.specs.declared.Kind.TheVariants.{NodeElt}
use Rattle.state_stack.specs.Calls.{not_kind}
use Rattle.state_stack.specs.Calls.{count-other, count-empty, count-spent, count_done}
use native.Mathlib.Omega.{arith}
use Rattle.state_stack.proofs.count_li.Goals as goal

pub returns-then-ne : goal.returns-then-ne
returns-then-ne c = count-other c.top-f.ensures (not_kind _ NodeElt c.ne.ensures c.if-ne.true)

pub returns-then-r-eq0 : goal.returns-then-r-eq0
returns-then-r-eq0 c = count-empty c.top-f.ensures (not_kind _ NodeElt c.ne.ensures c.if-ne.false) c.if-r-eq0.true

pub returns-then-count-ge-MOST_LABELS : goal.returns-then-count-ge-MOST_LABELS
returns-then-count-ge-MOST_LABELS c = count-spent c.top-f.ensures (not_kind _ NodeElt c.ne.ensures c.if-ne.false) c.if-r-eq0.false (omega (arith, c.wide-count.ensures.0))

pub returns : goal.returns
returns c = count_done c.top-f.ensures (not_kind _ NodeElt c.ne.ensures c.if-ne.false) c.if-r-eq0.false (omega (arith, c.wide-count.ensures.0)) (rw c.wide-count.ensures.0 at c.store.ensures)
