-- `Value::is_marked` meets its contract: a byte that passes no test stands for itself.
use Rattle.writer.specs.Words.{value_unmarked}
use Rattle.writer.proofs.value.ValueCoding.is_marked.Goals as goal

pub returns : goal.returns
returns c = value_unmarked c.args.b
