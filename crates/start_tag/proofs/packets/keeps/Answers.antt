-- `packets::keeps` meets its contract.
use Rattle.start_tag.specs.Packets.{keeps_not, keeps-base, keeps_so}
use borrow.Author.Tests.{not-true, not-false}
use Rattle.start_tag.proofs.packets.keeps.Goals as goal

pub returns-then-not-r : goal.returns-then-not-r
returns-then-not-r c = keeps-base (not-true _ c.if-not-r.true)

pub returns-then-has_one_out : goal.returns-then-has_one_out
returns-then-has_one_out c = keeps_not (not-false _ c.if-not-r.false) c.has_one_out.ensures c.if-has_one_out.true

pub returns : goal.returns
returns c = keeps_so (not-false _ c.if-not-r.false) c.has_one_out.ensures c.if-has_one_out.false c.iri_text-name.ensures (rw c.is_said.ensures at c.keeps_around.ensures)
