-- `resolve::path::close` meets its contract.
use borrow.Author.Tests.{not-true, not-false}
use Rattle.resolve.specs.Output.{closed-inside, closed_first, closed_end}
use Rattle.resolve.proofs.path.close.Goals as goal

pub returns-then-not-last : goal.returns-then-not-last
returns-then-not-last c = λ from o. closed-inside c.args.last (record { order = o; within = c.requires.within }) c.if-not-last.true

pub returns-then-not-out : goal.returns-then-not-out
returns-then-not-out c = λ from o. closed_first c.args.last (record { order = o; within = c.requires.within }) (not-true _ c.if-not-out.true)

pub shape_of-area : goal.shape_of-area
shape_of-area c = c.area-1.given

pub returns : goal.returns
returns c = λ from o. closed_end c.args.last c.if-not-last.false (not-false _ c.if-not-out.false) (c.append.ensures from o)
