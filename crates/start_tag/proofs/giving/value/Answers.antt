-- `giving::value` meets its contract.
use Rattle.start_tag.specs.Giving.{no_value, value_there}
use mathlib.Core.List.{[]}
use Rattle.start_tag.proofs.giving.value.Goals as goal

pub returns-then-k-j : goal.returns-then-k-j
returns-then-k-j c = no_value [] _ _ _ c.if-k-j.true

pub returns : goal.returns
returns c = value_there [] _ _ _ c.if-k-j.false c.wide.ensures.0 c.wide-2.ensures.0 c.wide-3.ensures.0
