-- `reader_host::iceshaft_finish` meets its contract.
use Rattle.reader_host.specs.Image.{decode-size}
use Rattle.reader_host.specs.Calling.{finish_bad, finish_good}
use Rattle.reader_host.proofs.iceshaft_finish.Goals as goal

pub returns-in_default : goal.returns-in_default
returns-in_default c = rw c.from.ensures (finish_bad (c.load.ensures.bad c.in_default.is))

pub save-requires : goal.save-requires
save-requires c = decode-size _ (c.load.ensures.good _ c.in-Some.is).read

pub returns : goal.returns
returns c = finish_good (c.load.ensures.good _ c.in-Some.is) c.finish-report.ensures c.number.ensures c.save.ensures
