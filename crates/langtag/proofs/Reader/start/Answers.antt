-- `langtag::Reader::start` is `start`.
use Rattle.langtag.specs.Machine.{start}
use Rattle.langtag.proofs.Reader.start.Goals as goal

pub returns : goal.returns
unfolding start
returns c = rw c.fresh.ensures
