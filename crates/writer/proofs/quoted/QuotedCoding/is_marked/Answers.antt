-- `Quoted::is_marked` meets its contract: a byte that passes no test stands for itself.
use Rattle.writer.specs.Words.{literal_unmarked}
use Rattle.writer.proofs.quoted.QuotedCoding.is_marked.Goals as goal

pub returns : goal.returns
returns c = literal_unmarked c.args.b
