-- `stream::core` meets its contract: no event, or what `parse_event` answers of the first one.
use mathlib.Core.Path.{refl, sym}
use Rattle.reader.specs.Core.{take_wait, take_unended, take_long, take-size, take_read, take-parsed}
use Rattle.reader.proofs.stream.core.Goals as goal

pub slice_bounds-parse_event-end : goal.slice_bounds-parse_event-end
slice_bounds-parse_event-end c = sym (take-size c.first_event.ensures c.in-Ok.is)

pub parse_event-progress-requires : goal.parse_event-progress-requires
parse_event-progress-requires c = (c.requires.0, c.requires.1, take_read c.first_event.ensures c.in-Ok.is _ c.requires.1.scratch)

pub returns-in-Err-Wait : goal.returns-in-Err-Wait
returns-in-Err-Wait c = (take_wait c.first_event.ensures (rw c.in-Err-Wait.field-0-is at c.in-Err-Wait.is), record { scratch = refl; spans = refl; area = refl })

pub returns-in-Err-Unended : goal.returns-in-Err-Unended
returns-in-Err-Unended c = (take_unended c.first_event.ensures (rw c.in-Err-Unended.field-0-is at c.in-Err-Unended.is), record { scratch = refl; spans = refl; area = refl })

pub returns-in-Err-TooLong : goal.returns-in-Err-TooLong
returns-in-Err-TooLong c = (take_long c.first_event.ensures (rw c.in-Err-TooLong.field-0-is at c.in-Err-TooLong.is), record { scratch = refl; spans = refl; area = refl })

pub shape_of-frames : goal.shape_of-frames
shape_of-frames c = c.frames-1.given

pub shape_of-bindings : goal.shape_of-bindings
shape_of-bindings c = c.bindings-1.given

pub shape_of-inners : goal.shape_of-inners
shape_of-inners c = c.inners-1.given

pub shape_of-work : goal.shape_of-work
shape_of-work c = c.work-1.given

pub shape_of-ids : goal.shape_of-ids
shape_of-ids c = c.ids-1.given

pub shape_of-out : goal.shape_of-out
shape_of-out c = c.out-1.given

pub shape_of-scratch : goal.shape_of-scratch
shape_of-scratch c = c.scratch-1.given

pub shape_of-spans : goal.shape_of-spans
shape_of-spans c = c.spans-1.given

pub shape_of-area : goal.shape_of-area
shape_of-area c = c.area-1.given

pub returns-in-Ok : goal.returns-in-Ok
returns-in-Ok c = (take-parsed c.first_event.ensures c.in-Ok.is c.parse_event-progress.ensures.0 c.took.ensures, c.parse_event-progress.ensures.1)
