-- `resolve::path::room_for` meets its contract.
use Rattle.resolve.specs.Output.{room_led, room_first}
use Rattle.resolve.proofs.path.room_for.Goals as goal

pub returns-then-begun : goal.returns-then-begun
returns-then-begun c = room_led c.args.begun c.args.room c.args.size c.if-begun.true

pub returns : goal.returns
returns c = room_first c.args.begun c.args.room c.args.size c.if-begun.false
