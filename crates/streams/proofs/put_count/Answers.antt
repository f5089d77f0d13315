-- `streams::put_count` meets its contract: by whether the number is 0, which has no digits of its own.
use Rattle.spec.specs.Bytes.{ascii}
use Rattle.streams.specs.Telling.{shown-some, count_none}
use Rattle.streams.proofs.put_count.Goals as goal

pub returns-then-number-gt0 : goal.returns-then-number-gt0
returns-then-number-gt0 c = rw (shown-some _ c.if-number-gt0.true) c.put_number.ensures

pub returns : goal.returns
unfolding ascii
returns c = count_none _ c.requires c.if-number-gt0.false c.put.ensures c.put-2.ensures
