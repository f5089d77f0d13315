-- `resolve::path::step_back` meets its contract.
use Rattle.resolve.specs.Output.{stepped_beyond, stepped_back}
use Rattle.resolve.proofs.path.step_back.Goals as goal

pub returns-then-out-gt0 : goal.returns-then-out-gt0
returns-then-out-gt0 c = stepped_beyond (record { order = c.requires.1; within = c.requires.0 }) c.if-out-gt0.true

pub returns : goal.returns
returns c = stepped_back (record { order = c.requires.1; within = c.requires.0 }) c.if-out-gt0.false c.without_last.ensures
