-- `label::ends_in_stop` meets its contract: the last byte decides.
use mathlib.Core.Path.{◌∙◌}
use Rattle.label.specs.Label.{ends_with_stop}
use Rattle.label.proofs.ends_in_stop.Goals as goal

pub returns : goal.returns
returns c = c.ends_with.ensures.value ∙ ends_with_stop c.args.s.now
