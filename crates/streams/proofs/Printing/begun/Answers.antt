-- `streams::Printing::begun` meets its contract.
use borrow.Author.Rules.{rules}
use Rattle.streams.specs.Answers.{begun}
use Rattle.streams.proofs.Printing.begun.Goals as goal

pub returns : goal.returns
unfolding begun
returns c = search rules
