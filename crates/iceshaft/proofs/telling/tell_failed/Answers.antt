-- `telling::tell_failed` is safe: the line is no longer than what is lent for it.
use Rattle.streams.specs.Telling.{line-size}
use Rattle.iceshaft.proofs.telling.tell_failed.Goals as goal

pub slice_bounds-tell-end : goal.slice_bounds-tell-end
slice_bounds-tell-end c = line-size c.named-n.ensures
