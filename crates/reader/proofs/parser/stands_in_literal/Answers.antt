-- `parser::stands_in_literal` meets its contract by cases.
use Rattle.reader.specs.Tags.{told}
use Rattle.reader.proofs.parser.stands_in_literal.Goals as goal

pub returns-in-Outside : goal.returns-in-Outside
returns-in-Outside c = told c.place_at-place.ensures c.in-Outside.is

pub returns-in-Nodes : goal.returns-in-Nodes
returns-in-Nodes c = told c.place_at-place.ensures c.in-Nodes.is

pub returns-in-Properties : goal.returns-in-Properties
returns-in-Properties c = told c.place_at-place.ensures c.in-Properties.is

pub returns-in-NodesOrText : goal.returns-in-NodesOrText
returns-in-NodesOrText c = told c.place_at-place.ensures c.in-NodesOrText.is

pub returns-in-Xml : goal.returns-in-Xml
returns-in-Xml c = told c.place_at-place.ensures c.in-Xml.is
