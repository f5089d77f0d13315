-- `langtag::Reader::ended` is `ended`.
use Rattle.langtag.specs.Machine.{ended}
use Rattle.langtag.proofs.Reader.ended.Goals as goal

pub returns : goal.returns
unfolding ended
returns c = rw (← c.kind.ensures) c.follow.ensures
