-- `pyx2nt::print_last` is safe: the line is no longer than what is lent for it, and its bytes can be counted.
use mathlib.Core.Path.{refl}
use Rattle.streams.specs.Telling.{line-size}
use Rattle.pyx2nt.specs.LastLine.{last-counted}
use Rattle.pyx2nt.proofs.print_last.Goals as goal

pub slice_bounds-print-end : goal.slice_bounds-print-end
slice_bounds-print-end c = line-size c.last_line-n.ensures

pub overflow_add-bytes : goal.overflow_add-bytes
overflow_add-bytes c = last-counted refl c.last_line-n.ensures c.print-printed.ensures c.taken-taken.ensures c.requires.1

pub tell_unwritten-requires : goal.tell_unwritten-requires
tell_unwritten-requires c = c.requires.0.later
