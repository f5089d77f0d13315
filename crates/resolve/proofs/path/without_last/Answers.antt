-- `resolve::path::without_last` meets its contract.
use Rattle.resolve.specs.Last.{without_none, without-some}
use Rattle.resolve.proofs.path.without_last.Goals as goal

pub returns-then-n-eq0 : goal.returns-then-n-eq0
returns-then-n-eq0 c = without_none c.through_last-n.ensures c.if-n-eq0.true

pub returns : goal.returns
returns c = without-some c.through_last-n.ensures c.if-n-eq0.false
