-- `Report::number` meets its contract by cases.
use mathlib.Core.Path.{◌∙◌}
use Rattle.reader_contract.proofs.Report.number.Goals as goal

pub returns-in-Err : goal.returns-in-Err
returns-in-Err c = c.from.ensures ∙ rw c.in-Err.is
