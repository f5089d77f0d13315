-- `literal::has_room` meets its contract, test by test.
use Rattle.literal.specs.Added.{room-spent, room_short, room-rest}
use native.Mathlib.Omega.{arith}
use Rattle.literal.proofs.has_room.Goals as goal

pub returns-then-held-gt-MOST_HELD : goal.returns-then-held-gt-MOST_HELD
returns-then-held-gt-MOST_HELD c = room-spent c.args.r _ _ c.held-held.ensures (omega arith)

pub returns-then-size-left : goal.returns-then-size-left
returns-then-size-left c = room_short c.args.r _ _ c.held-held.ensures (omega arith)

pub returns : goal.returns
returns c = room-rest c.args.r _ _ c.held-held.ensures (omega arith) (omega arith)
