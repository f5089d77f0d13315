-- `telling::tell_refused` is safe: the line is no longer than what is lent for it.
use Rattle.streams.specs.Telling.{line-size}
use Rattle.iceshaft.proofs.telling.tell_refused.Goals as goal

pub slice_bounds-tell_line-end : goal.slice_bounds-tell_line-end
slice_bounds-tell_line-end c = line-size c.refusal_line-n.ensures
