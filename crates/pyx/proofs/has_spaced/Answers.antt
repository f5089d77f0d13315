-- `pyx::has_spaced` meets its contract: one line by one law, several by `find_spaced`.
use mathlib.Core.Path.{sym}
use Rattle.copy.specs.Texts.{length_up_to}
use Rattle.pyx.proofs.Reach.{is_end}
use Rattle.pyx.proofs.Lines.{spaced-one}
use native.Mathlib.Omega.{arith}
use Rattle.pyx.proofs.has_spaced.Goals as goal

pub overflow_sub-event : goal.overflow_sub-event
overflow_sub-event c = omega (arith, c.requires, length_up_to is_end c.args.event.now)

pub returns-then-event-n-le1 : goal.returns-then-event-n-le1
returns-then-event-n-le1 c = sym (spaced-one c.args.event.now (omega (arith, c.requires)))
