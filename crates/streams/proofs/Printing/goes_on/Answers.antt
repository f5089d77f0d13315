-- `streams::Printing::goes_on` meets its contract.
use Rattle.streams.specs.Answers.{goes_on}
use Rattle.streams.proofs.Printing.goes_on.Goals as goal

pub returns-then-self : goal.returns-then-self
unfolding goes_on
returns-then-self c = rw c.if-self.true

pub returns : goal.returns
unfolding goes_on
returns c = rw c.if-self.false
