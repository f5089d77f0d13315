-- `start_commit::tell` meets its contract. By the plan.
use Rattle.start_commit.specs.Told.{told-nothing, told-node, told-object, told_resource}
use Rattle.start_commit.proofs.tell.Goals as goal

pub returns-in-Nothing : goal.returns-in-Nothing
returns-in-Nothing c = told-nothing _ _ _ _ _ _ _ _ _ _ c.in-Nothing.is

pub shape_of-out-in-Node : goal.shape_of-out-in-Node
shape_of-out-in-Node c = c.out-1.given

pub returns-in-Node : goal.returns-in-Node
returns-in-Node c = told-node _ _ _ _ _ _ _ _ _ _ c.in-Node.is c.tell_node.ensures

pub shape_of-out-in-Object : goal.shape_of-out-in-Object
shape_of-out-in-Object c = c.out-in-Object-1.given

pub returns-in-Object : goal.returns-in-Object
returns-in-Object c = told-object _ _ _ _ _ _ _ _ _ _ c.in-Object.is c.tell_object.ensures

pub shape_of-out-in-Resource : goal.shape_of-out-in-Resource
shape_of-out-in-Resource c = c.out-in-Resource-1.given

pub returns-in-Resource : goal.returns-in-Resource
returns-in-Resource c = told_resource _ _ _ _ _ _ _ _ _ _ c.in-Resource.is c.tell_resource.ensures
