-- `langtag::fresh` is `fresh`, field by field.
use mathlib.Core.Path.{refl}
use Rattle.langtag.specs.Machine.{fresh}
use Rattle.langtag.proofs.Subtag.fresh.Goals as goal

pub returns : goal.returns
unfolding fresh
returns c = refl
