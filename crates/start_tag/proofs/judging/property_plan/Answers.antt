-- `judging::property_plan` meets its contract.
use Rattle.start_tag.specs.Properties.{plan_absent, plan_collection, plan_resource, plan_literal, plan_other}
use Rattle.start_tag.proofs.judging.property_plan.Goals as goal

pub returns-in-Absent : goal.returns-in-Absent
returns-in-Absent c = plan_absent _ _ _ _ c.in-Absent.is c.default.ensures

pub returns-in-Collection : goal.returns-in-Collection
returns-in-Collection c = plan_collection _ _ _ _ c.in-Collection.is c.held.ensures

pub returns-in-Resource : goal.returns-in-Resource
returns-in-Resource c = plan_resource _ _ _ _ c.in-Resource.is c.resource.ensures

pub returns-in-Literal : goal.returns-in-Literal
returns-in-Literal c = plan_literal _ _ _ _ c.in-Literal.is c.held-in-Literal.ensures

pub returns-in-Other : goal.returns-in-Other
returns-in-Other c = plan_other _ _ _ _ c.in-Other.is c.held-in-Other.ensures
