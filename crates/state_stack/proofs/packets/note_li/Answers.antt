-- `packets::note_li` meets its contract. By whether an rdf:Alt is on top that waits.
use Rattle.state_words.specs.declared.Kind.TheVariants.{NodeElt}
use Rattle.state_stack.specs.Calls.{not_kind}
use Rattle.state_stack.specs.Packets.{no_node, not_waiting, li-noted}
use native.Mathlib.Omega.{arith}
use Rattle.state_stack.proofs.packets.note_li.Goals as goal

pub returns-then-ne : goal.returns-then-ne
returns-then-ne c = no_node c.top-f.ensures (not_kind _ NodeElt c.ne.ensures c.if-ne.true)

pub returns-then-has-ne-AWAITED : goal.returns-then-has-ne-AWAITED
returns-then-has-ne-AWAITED c = not_waiting c.top-f.ensures (not_kind _ NodeElt c.ne.ensures c.if-ne.false) c.if-has-ne-AWAITED.true

pub returns : goal.returns
returns c = li-noted c.top-f.ensures (not_kind _ NodeElt c.ne.ensures c.if-ne.false) (omega (arith, c.if-has-ne-AWAITED.false)) (rw c.carried_word.ensures at c.mark.ensures)
