-- `telling::tell` is safe: behind a failure an event can be counted.
use Rattle.iceshaft.specs.Telling.{cut_event, unread_event}
use Rattle.iceshaft.proofs.telling.tell.Goals as goal

pub overflow_sub-event : goal.overflow_sub-event
overflow_sub-event c = cut_event c.requires.1 c.in-Unwritten.is

pub overflow_sub-event-in-Unread : goal.overflow_sub-event-in-Unread
overflow_sub-event-in-Unread c = unread_event c.requires.1 c.in-Unread.is
