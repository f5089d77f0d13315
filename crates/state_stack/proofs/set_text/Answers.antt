-- `state_stack::set_text` meets its contract. A law of specs/ for each return, with the tests that led there.
use Rattle.state_words.specs.declared.Kind.TheVariants.{PropertyElt}
use Rattle.state_stack.specs.Calls.{not_kind}
use Rattle.state_stack.specs.Calls.{text-other, text_done}
use Rattle.state_stack.proofs.set_text.Goals as goal

pub returns-then-ne : goal.returns-then-ne
returns-then-ne c = text-other c.top-f.ensures (not_kind _ PropertyElt c.ne.ensures c.if-ne.true)

pub returns : goal.returns
returns c = text_done c.top-f.ensures (not_kind _ PropertyElt c.ne.ensures c.if-ne.false) (rw c.wide.ensures.0 at c.write_tail.ensures)
