-- `streams::in_line` meets its contract.
use Rattle.streams.specs.Telling.{marked, unmarked}
use Rattle.streams.proofs.in_line.Goals as goal

pub returns-then-b-lt32 : goal.returns-then-b-lt32
returns-then-b-lt32 c = marked c.args.b c.if-b-lt32.true

pub returns-else-b-lt32 : goal.returns-else-b-lt32
returns-else-b-lt32 c = unmarked c.args.b c.if-b-lt32.false
