-- `langtag::longer` is `longer`.
use Rattle.spec.specs.Bytes.{when◌then◌else◌}
use borrow.Author.Tests.{le-leb, lt-leb}
use Rattle.langtag.specs.Machine.{longer}
use Rattle.langtag.proofs.longer.Goals as goal

pub returns-then-n-le8 : goal.returns-then-n-le8
unfolding longer when◌then◌else◌
returns-then-n-le8 c = rw (le-leb _ _ c.if-n-le8.true)

pub returns-else-n-le8 : goal.returns-else-n-le8
unfolding longer when◌then◌else◌
returns-else-n-le8 c = rw (lt-leb _ _ c.if-n-le8.false)
