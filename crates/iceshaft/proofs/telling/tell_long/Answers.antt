-- `telling::tell_long` is safe: the line is no longer than what is lent for it.
use Rattle.streams.specs.Telling.{line-size}
use Rattle.iceshaft.proofs.telling.tell_long.Goals as goal

pub slice_bounds-tell_line-end : goal.slice_bounds-tell_line-end
slice_bounds-tell_line-end c = line-size c.long_line-n.ensures
