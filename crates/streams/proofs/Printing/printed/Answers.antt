-- `streams::Printing::printed` meets its contract.
use mathlib.Core.Path.{refl}
use Rattle.streams.proofs.Printing.printed.Goals as goal

pub returns : goal.returns
returns c = refl
