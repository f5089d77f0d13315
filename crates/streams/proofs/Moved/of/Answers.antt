-- `Moved::of` meets its contract: by the answer's sign, and below 0 by errno.
use Rattle.streams.specs.Deciding.{some_cast, some_moved, none_moved, interrupted, would_wait, other_error}
use Rattle.streams.proofs.Moved.of.Goals as goal

pub overflow_cast-got : goal.overflow_cast-got
overflow_cast-got c = some_cast c.ranges.got c.if-got-ge0.true

pub returns-then-got-ge0 : goal.returns-then-got-ge0
returns-then-got-ge0 c = some_moved c.ranges.got _ _ c.if-got-ge0.true c.min.ensures

pub returns-then-error-eq-EINTR : goal.returns-then-error-eq-EINTR
returns-then-error-eq-EINTR c = none_moved c.ranges.got _ _ c.if-got-ge0.false (interrupted c.ranges.error c.if-error-eq-EINTR.true)

pub returns-then-error-eq-EAGAIN : goal.returns-then-error-eq-EAGAIN
returns-then-error-eq-EAGAIN c = none_moved c.ranges.got _ _ c.if-got-ge0.false (would_wait c.ranges.error c.if-error-eq-EAGAIN.true)

pub returns : goal.returns
returns c = none_moved c.ranges.got _ _ c.if-got-ge0.false (other_error c.args.error c.if-error-eq-EINTR.false c.if-error-eq-EAGAIN.false)
