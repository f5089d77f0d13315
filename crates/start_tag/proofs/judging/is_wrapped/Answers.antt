-- `judging::is_wrapped` meets its contract. By the place that the arm knows.
use Rattle.start_tag.specs.Places.{is_wrapped}
use Rattle.start_tag.proofs.judging.is_wrapped.Goals as goal

pub returns-in-Outside : goal.returns-in-Outside
unfolding is_wrapped
returns-in-Outside c = rw c.in-Outside.is

pub returns-in-Nodes : goal.returns-in-Nodes
unfolding is_wrapped
returns-in-Nodes c = rw c.in-Nodes.is

pub returns-in-Properties : goal.returns-in-Properties
unfolding is_wrapped
returns-in-Properties c = rw c.in-Properties.is

pub returns-in-NodesOrText : goal.returns-in-NodesOrText
unfolding is_wrapped
returns-in-NodesOrText c = rw c.in-NodesOrText.is

pub returns-in-Xml : goal.returns-in-Xml
unfolding is_wrapped
returns-in-Xml c = rw c.in-Xml.is
