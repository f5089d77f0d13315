-- `convert::finish` meets its contract, by whether the document may be finished.
use mathlib.Core.Path.{sym, ◌∙◌}
use Rattle.convert.specs.Turning.{finish_done, finish_open}
use Rattle.convert.proofs.finish.Goals as goal

pub returns-then-may_finish : goal.returns-then-may_finish
returns-then-may_finish c = finish_done c.args.registers (sym c.may_finish.ensures ∙ c.if-may_finish.true)

pub returns : goal.returns
returns c = finish_open c.args.registers (sym c.may_finish.ensures ∙ c.if-may_finish.false)
