-- `telling::tell_unopened` is safe: the line is no longer than what is lent for it.
use Rattle.streams.specs.Telling.{line-size}
use Rattle.iceshaft.proofs.telling.tell_unopened.Goals as goal

pub slice_bounds-fail-end : goal.slice_bounds-fail-end
slice_bounds-fail-end c = line-size c.named-n.ensures
