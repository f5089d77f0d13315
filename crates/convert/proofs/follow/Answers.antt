-- `convert::follow` meets its contract: a way on, or the end, for each refusal.
use Rattle.convert.specs.Turning.{follow_on, follow-refused, waiting}
use Rattle.convert.proofs.follow.Goals as goal

pub returns-in-None : goal.returns-in-None
returns-in-None g c = follow_on c.in-None.is

pub end_or_read-requires : goal.end_or_read-requires
end_or_read-requires g c = record { rest = c.requires.rest; block = c.requires.block (waiting c.in-Some.is c.in-Incomplete.is) }

pub returns-in-Incomplete : goal.returns-in-Incomplete
returns-in-Incomplete g c = rw (c.in-Some.is, c.in-Incomplete.is) c.end_or_read.ensures

pub returns-in_default : goal.returns-in_default
returns-in_default g c = follow-refused c.in-Some.is c.in_default.not-Incomplete c.over.ensures
