-- `streams::Printing::after` meets its contract.
use borrow.Author.Rules.{rules}
use Rattle.streams.specs.Answers.{after_write}
use Rattle.streams.proofs.Printing.after.Goals as goal

pub returns : goal.returns
unfolding after_write
returns c = search rules
