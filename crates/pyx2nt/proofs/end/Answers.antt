-- `pyx2nt::end` is safe: each end is one of a way from the start, behind which an event can be counted.
use Rattle.convert.specs.Running.{end_event}
use Rattle.pyx2nt.proofs.end.Goals as goal

pub print_last-requires : goal.print_last-requires
print_last-requires c = rw c.in-Done.is at c.requires

pub tell_unwritten-requires : goal.tell_unwritten-requires
tell_unwritten-requires c = end_event _ c.args.outcome c.requires.0

pub overflow_sub-event : goal.overflow_sub-event
overflow_sub-event c = end_event _ c.args.outcome c.requires.0

pub print_last-requires-in-Unstarted : goal.print_last-requires-in-Unstarted
print_last-requires-in-Unstarted c = absurd (rw c.in-Unstarted.is at c.requires.0)
