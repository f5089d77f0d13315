-- `streams::put_number` meets its contract: the text, the digits.
use Rattle.streams.specs.Telling.{number_put}
use Rattle.streams.proofs.put_number.Goals as goal

pub returns : goal.returns
returns c = number_put c.requires c.of-decimal.ensures c.put.ensures c.put-2.ensures
