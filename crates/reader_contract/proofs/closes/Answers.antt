-- `reader_contract::closes` meets its contract: the numbers from 5 on close.
use Rattle.reader_contract.specs.Meets.{closing_numbers}
use Rattle.reader_contract.proofs.closes.Goals as goal

pub returns : goal.returns
returns c = rw c.from.ensures (closing_numbers c.args.r)
