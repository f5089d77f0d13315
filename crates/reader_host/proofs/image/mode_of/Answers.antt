-- `image::mode_of` meets its contract.
use Rattle.std.specs.Bool.{then_some}
use Rattle.std.specs.Prelude.{leb}
use mathlib.Core.Path.{ap, ◌∙◌}
use Rattle.reader_host.specs.Saving.{mode_is}
use Rattle.reader_host.proofs.image.mode_of.Goals as goal

pub returns : goal.returns
returns c = c.then_some.ensures ∙ ap (then_some (leb c.args.number 1)) (mode_is c.args.number)
