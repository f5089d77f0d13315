-- `Content::is_marked` meets its contract: a byte that passes no test stands for itself.
use Rattle.writer.specs.Words.{text_unmarked}
use Rattle.writer.proofs.content.ContentCoding.is_marked.Goals as goal

pub returns : goal.returns
returns c = text_unmarked c.args.b
