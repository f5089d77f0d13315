-- `settle` meets its contract.
use borrow.Author.Tests.{not-false}
use Rattle.iceshaft.proofs.settle.Goals as goal

pub returns : goal.returns
returns c = (c.if-chosen.false, not-false _ c.if-not-chosen.false)
