-- `xmltext::attribute` meets its contract: five pieces.
use Rattle.spec.specs.Bytes.{ascii}
use Rattle.spec.specs.XmlLiteral.{attribute_xml}
use Rattle.writer.specs.Put.{puts}
use Rattle.xmltext.proofs.attribute.Goals as goal

pub returns : goal.returns
unfolding attribute_xml ascii
returns c = puts c.byte-to.ensures (puts c.bytes-to.ensures (puts c.bytes-to-2.ensures (puts c.write-to.ensures c.byte.ensures)))
