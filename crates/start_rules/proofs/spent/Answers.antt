-- `start_rules::spent` meets its contract.
use Rattle.start_rules.specs.Judged.{spent_by}
use Rattle.start_rules.proofs.spent.Goals as goal

pub returns-then-asked : goal.returns-then-asked
returns-then-asked c = spent_by c.args.n c.if-asked.true
