-- `start_references::resolve_references` meets its contract: the base is the value of the first xml:base, or what was found in force.
use Rattle.start_references.specs.References.{fresh_by, five_at, base_as}
use Rattle.start_references.specs.Values.{based}
use Rattle.start_references.proofs.resolve_references.Goals as goal

pub resolve_on-requires : goal.resolve_on-requires
resolve_on-requires c = (record { event = c.requires.0.event; room = c.requires.0.room }, c.requires.1)

pub shape_of-area : goal.shape_of-area
shape_of-area c = c.area-1.given

pub returns : goal.returns
returns c = base_as (fresh_by c.args.count c.args.starts.now c.args.sizes.now c.args.ids.now) (five_at c.args.scratch.now c.args.spans.now c.args.k c.args.roles.now) (based _ _ _ _ _ _ c.args.roles.now c.base_of-base.ensures c.first_in-j.ensures c.base_in_force-f.ensures) c.resolve_on.ensures
