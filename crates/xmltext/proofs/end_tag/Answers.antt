-- `xmltext::end_tag` meets its contract: three pieces.
use Rattle.spec.specs.Bytes.{ascii}
use Rattle.spec.specs.XmlLiteral.{end_tag_xml}
use Rattle.writer.specs.Put.{puts}
use Rattle.xmltext.proofs.end_tag.Goals as goal

pub returns : goal.returns
unfolding end_tag_xml ascii
returns c = puts c.bytes-to.ensures (puts c.bytes-to-2.ensures c.byte.ensures)
