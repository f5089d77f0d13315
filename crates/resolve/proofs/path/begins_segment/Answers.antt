-- `resolve::path::begins_segment` meets its contract.
use Rattle.resolve.specs.Segments.{starts_at, starts_behind}
use Rattle.resolve.proofs.path.begins_segment.Goals as goal

pub returns-then-at-eq0 : goal.returns-then-at-eq0
unfolding starts_at
returns-then-at-eq0 c = rw c.if-at-eq0.true

pub returns : goal.returns
returns c = starts_behind c.args.path.now c.args.at c.if-at-eq0.false
