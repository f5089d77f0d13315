-- `reader_host::iceshaft_step` meets its contract.
use Rattle.reader_host.specs.Image.{decode-size}
use Rattle.reader_host.specs.Calling.{step_bad, step_good}
use Rattle.reader_host.proofs.iceshaft_step.Goals as goal

pub returns-in_default : goal.returns-in_default
returns-in_default c = rw c.from.ensures (step_bad (c.load.ensures.bad c.in_default.is))

pub save-requires : goal.save-requires
save-requires c = decode-size _ (c.load.ensures.good _ c.in-Some.is).read

pub returns : goal.returns
returns c = step_good (c.load.ensures.good _ c.in-Some.is) c.step-report.ensures c.number.ensures c.save.ensures
