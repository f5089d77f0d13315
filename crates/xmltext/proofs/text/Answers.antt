-- `xmltext::text` meets its contract.
use Rattle.spec.specs.XmlLiteral.{text_xml}
use Rattle.xmltext.proofs.text.Goals as goal

pub returns : goal.returns
unfolding text_xml
returns c = c.write.ensures
