-- `xmltext::open_tag` meets its contract: two pieces.
use Rattle.spec.specs.Bytes.{ascii}
use Rattle.writer.specs.Put.{puts}
use Rattle.xmltext.specs.Tags.{open_xml}
use Rattle.xmltext.proofs.open_tag.Goals as goal

pub returns : goal.returns
unfolding open_xml ascii
returns c = puts c.byte-to.ensures c.bytes.ensures
