-- `packets::note_about` meets its contract. By whether an rdf:RDF is on top that waits.
use Rattle.state_words.specs.declared.Kind.TheVariants.{Rdf}
use Rattle.state_stack.specs.Calls.{not_kind}
use Rattle.state_stack.specs.Packets.{no_rdf, rdf-noted, about-noted}
use native.Mathlib.Omega.{arith}
use Rattle.state_stack.proofs.packets.note_about.Goals as goal

pub returns-then-ne : goal.returns-then-ne
returns-then-ne c = no_rdf c.top-f.ensures (not_kind _ Rdf c.ne.ensures c.if-ne.true)

pub returns-then-has-ne-AWAITED : goal.returns-then-has-ne-AWAITED
returns-then-has-ne-AWAITED c = rdf-noted c.top-f.ensures (not_kind _ Rdf c.ne.ensures c.if-ne.false) c.if-has-ne-AWAITED.true

pub returns : goal.returns
returns c = about-noted c.top-f.ensures (not_kind _ Rdf c.ne.ensures c.if-ne.false) (omega (arith, c.if-has-ne-AWAITED.false)) (rw c.wide-from.ensures.0 at c.write_tail.ensures) (rw c.unwrap_or-q.ensures at c.noting.ensures)
