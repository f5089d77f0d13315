-- `judging::opened_at` meets its contract, arm by arm.
use mathlib.Core.Path.{sym, ◌∙◌}
use Rattle.start_tag.specs.Places.{opens_at}
use Rattle.start_tag.proofs.judging.opened_at.Goals as goal

pub returns-then-is_rdf : goal.returns-then-is_rdf
unfolding opens_at
returns-then-is_rdf c = rw (c.in-Outside.is, sym c.is_rdf.ensures ∙ c.if-is_rdf.true)

pub returns-else-is_rdf : goal.returns-else-is_rdf
unfolding opens_at
returns-else-is_rdf c = rw (c.in-Outside.is, sym c.is_rdf.ensures ∙ c.if-is_rdf.false)

pub returns-in-Nodes : goal.returns-in-Nodes
unfolding opens_at
returns-in-Nodes c = rw c.in-Nodes.is

pub returns-in-Properties : goal.returns-in-Properties
unfolding opens_at
returns-in-Properties c = rw c.in-Properties.is

pub returns-in-NodesOrText : goal.returns-in-NodesOrText
unfolding opens_at
returns-in-NodesOrText c = rw c.in-NodesOrText.is

pub returns-in-Xml : goal.returns-in-Xml
unfolding opens_at
returns-in-Xml c = rw c.in-Xml.is
