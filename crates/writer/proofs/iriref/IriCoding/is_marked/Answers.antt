-- `Iri::is_marked` meets its contract: a byte that passes no test stands for itself.
use Rattle.writer.specs.Words.{iri_unmarked}
use Rattle.writer.proofs.iriref.IriCoding.is_marked.Goals as goal

pub returns : goal.returns
returns c = iri_unmarked c.args.b
