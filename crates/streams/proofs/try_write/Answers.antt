-- `streams::try_write` meets its contract, by what the call answered.
use mathlib.Core.Path.{refl}
use Rattle.streams.specs.Deciding.{at_most_lem}
use Rattle.streams.proofs.try_write.Goals as goal

pub returns-in-Ok : goal.returns-in-Ok
returns-in-Ok g c = at_most_lem _ _ c.of.ensures refl

pub returns-in-Err : goal.returns-in-Err
returns-in-Err g c = at_most_lem _ _ c.of-in-Err.ensures refl
