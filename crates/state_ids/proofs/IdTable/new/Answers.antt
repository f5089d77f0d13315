-- `state_ids::IdTable::new` meets its contract: its repeats are as long as `most_ids` says.
use mathlib.Core.Path.{refl}
use Rattle.spec.specs.Limits.{most_ids}
use Rattle.state_ids.proofs.IdTable.new.Goals as goal

pub returns : goal.returns
unfolding most_ids
returns c = record { count = refl; used = refl; places = refl; sizes = refl }
