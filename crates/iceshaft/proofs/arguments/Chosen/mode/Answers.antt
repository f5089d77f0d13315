-- `Chosen::mode` meets its contract: by what was chosen.
use Rattle.iceshaft.specs.Arguments.{packets_chosen, base_chosen}
use Rattle.iceshaft.proofs.arguments.Chosen.mode.Goals as goal

pub returns-then-self : goal.returns-then-self
returns-then-self c = packets_chosen c.args.self c.if-self.true c.xmp.ensures

pub returns-else-self : goal.returns-else-self
returns-else-self c = base_chosen c.args.self c.if-self.false c.base.ensures
