-- `langtag::Reader::step` is `step`: a hyphen ends the subtag, any other byte makes it grow.
use Rattle.spec.specs.Bytes.{byte, when◌then◌else◌}
use borrow.Author.Tests.{eq-eqb, ne_eqb}
use Rattle.langtag.specs.Machine.{step}
use Rattle.langtag.proofs.Reader.step.Goals as goal

pub returns-then-b-eq45 : goal.returns-then-b-eq45
unfolding step byte when◌then◌else◌
returns-then-b-eq45 c = rw (eq-eqb _ _ c.if-b-eq45.true, c.ended.ensures, c.fresh.ensures)

pub returns-else-b-eq45 : goal.returns-else-b-eq45
unfolding step byte when◌then◌else◌
returns-else-b-eq45 c = rw (ne_eqb _ _ c.if-b-eq45.false, c.grown.ensures)
