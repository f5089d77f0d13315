-- `Moved::waits` meets its contract: a case for each way that a call comes to.
use borrow.Author.Rules.{rules}
use Rattle.streams.specs.Answers.{waits_for}
use Rattle.streams.proofs.Moved.waits.Goals as goal

pub returns-in-Bytes : goal.returns-in-Bytes
unfolding waits_for
returns-in-Bytes c = search rules

pub returns-in-Later : goal.returns-in-Later
unfolding waits_for
returns-in-Later c = rw c.in-Later.is

pub returns-in-Failed : goal.returns-in-Failed
unfolding waits_for
returns-in-Failed c = search rules
