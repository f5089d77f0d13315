-- `start_tag::reading::is_long_value` meets its contract.
use Rattle.start_tag.specs.Made.{no_value, value-length}
use Rattle.start_tag.proofs.reading.is_long_value.Goals as goal

pub returns-then-k-j : goal.returns-then-k-j
returns-then-k-j c = no_value c.args.scratch.now c.args.spans.now c.if-k-j.true

pub returns : goal.returns
returns c = value-length c.args.scratch.now c.args.spans.now c.if-k-j.false c.value_of.ensures
