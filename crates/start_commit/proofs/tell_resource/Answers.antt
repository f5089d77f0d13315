-- `start_commit::tell_resource` meets its contract. What is lent is what the plan says.
use Rattle.ntriples.specs.Terms.{lent_property}
use Rattle.start_commit.specs.Told.{resource_told}
use Rattle.start_commit.proofs.tell_resource.Goals as goal

pub shape_of-out : goal.shape_of-out
shape_of-out c = c.out-1.given

pub returns : goal.returns
returns c = resource_told c.args.x c.args.around _ _ _ c.of-node.ensures c.main_of-subject.ensures c.is_there-has.ensures c.text-own.ensures c.text-name.ensures c.of.ensures c.from-term.ensures c.text-object.ensures (rw (lent_property _ _ _ _ c.then_some-stated.ensures) at c.statement.ensures)
