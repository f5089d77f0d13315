-- `replay::advance` meets its contract: each field is the definition's.
use Rattle.test_reader.specs.Ways.{advance_is}
use Rattle.test_reader.proofs.replay.advance.Goals as goal

pub returns : goal.returns
returns c = advance_is c.args.way c.args.report c.args.most c.args.expected.now c.args.out.now c.part-left.ensures c.part.ensures c.begins-good.ensures c.ahead.ensures c.ahead-2.ensures
