-- `start_references::is_used` meets its contract.
use Rattle.start_references.specs.References.{used_none, used-made}
use Rattle.start_references.proofs.is_used.Goals as goal

pub returns-in-Missing : goal.returns-in-Missing
returns-in-Missing c = used_none c.args.count c.args.starts.now c.args.sizes.now c.args.ids.now c.args.area.now c.in-Missing.is

pub returns-in-Made : goal.returns-in-Made
returns-in-Made c = used-made c.args.count c.args.starts.now c.args.sizes.now c.args.ids.now c.args.area.now c.in-Made.is c.piece.ensures c.find.ensures
