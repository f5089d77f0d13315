-- `start_commit::tell_object` meets its contract. What is lent is what the plan says.
use Rattle.ntriples.specs.Terms.{lent_id}
use Rattle.start_commit.specs.Told.{object-told}
use Rattle.start_commit.proofs.tell_object.Goals as goal

pub shape_of-out : goal.shape_of-out
shape_of-out c = c.out-1.given

pub returns : goal.returns
returns c = object-told c.args.x _ _ _ _ _ _ _ _ c.tag_in_force-spoken.ensures c.is_there-typed.ensures c.text-own.ensures (rw c.is_blank.ensures at c.of-node.ensures) c.text-subject.ensures (rw (lent_id _ _ c.then_some-type_of.ensures) at c.tag_lines.ensures)
