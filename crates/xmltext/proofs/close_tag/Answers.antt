-- `xmltext::close_tag` meets its contract.
use Rattle.spec.specs.Bytes.{ascii}
use Rattle.xmltext.specs.Tags.{close_xml}
use Rattle.xmltext.proofs.close_tag.Goals as goal

pub returns : goal.returns
unfolding close_xml ascii
returns c = c.byte.ensures
