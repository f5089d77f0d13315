-- `judging::make_node` meets its contract.
use Rattle.start_tag.specs.Nodes.{label_asks, node_made}
use Rattle.start_tag.proofs.judging.make_node.Goals as goal

pub make_label-behind-requires : goal.make_label-behind-requires
make_label-behind-requires c = label_asks c.requires.0 c.requires.2

pub shape_of-area : goal.shape_of-area
shape_of-area c = c.area-1.given

pub returns : goal.returns
returns c = node_made c.requires.1 c.build_node_elt-p.ensures c.make_label-behind.ensures c.start_by.ensures
