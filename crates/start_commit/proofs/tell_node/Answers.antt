-- `start_commit::tell_node` meets its contract. What is lent is what the plan says.
use Rattle.ntriples.specs.Terms.{lent_id}
use Rattle.start_commit.specs.Told.{node-told}
use Rattle.start_commit.proofs.tell_node.Goals as goal

pub shape_of-out : goal.shape_of-out
shape_of-out c = c.out-1.given

pub returns : goal.returns
returns c = node-told c.args.x _ _ _ _ _ _ _ _ c.tag_in_force-spoken.ensures c.is_there-typed.ensures c.text-own.ensures c.of-node.ensures c.text-subject.ensures c.text-name.ensures (rw (lent_id _ _ c.then_some-type_of.ensures, lent_id _ _ c.then_some-element.ensures) at c.node_lines.ensures)
