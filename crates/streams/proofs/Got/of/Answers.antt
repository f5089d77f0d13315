-- `Got::of` meets its contract: a case for each way that a read comes to.
use borrow.Author.Rules.{rules}
use Rattle.streams.specs.Answers.{got_of}
use Rattle.streams.specs.Deciding.{got_some}
use Rattle.streams.proofs.Got.of.Goals as goal

pub returns-then-n-eq0 : goal.returns-then-n-eq0
unfolding got_of
returns-then-n-eq0 c = search rules

pub returns-else-n-eq0 : goal.returns-else-n-eq0
unfolding got_of
returns-else-n-eq0 c = got_some _ c.in-Bytes.is c.if-n-eq0.false

pub returns-in-Later : goal.returns-in-Later
unfolding got_of
returns-in-Later c = search rules

pub returns-in-Failed : goal.returns-in-Failed
unfolding got_of
returns-in-Failed c = search rules
