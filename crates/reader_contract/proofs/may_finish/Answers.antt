-- `reader_contract::may_finish` meets its contract: the tests are those of the definition.
use borrow.Author.Rules.{rules}
use Rattle.reader_contract.specs.Meaning.{over_in}
use Rattle.reader_contract.proofs.may_finish.Goals as goal

pub returns : goal.returns
unfolding over_in
returns c = search rules
