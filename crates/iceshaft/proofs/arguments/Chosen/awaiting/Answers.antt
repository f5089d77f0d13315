-- `Chosen::awaiting` meets its contract.
use Rattle.std.proofs.Common.{sym, ◌∙◌}
use Rattle.iceshaft.specs.Arguments.{base_twice, base_once}
use Rattle.iceshaft.proofs.arguments.Chosen.awaiting.Goals as goal

pub returns-then-is_some : goal.returns-then-is_some
returns-then-is_some c = base_twice c.args.self (sym c.is_some.ensures ∙ c.if-is_some.true)

pub returns : goal.returns
returns c = base_once c.args.self (sym c.is_some.ensures ∙ c.if-is_some.false)
