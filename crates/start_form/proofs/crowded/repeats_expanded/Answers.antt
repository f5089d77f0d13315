-- `start_form::crowded::repeats_expanded` meets its contract, by how many they are.
use Rattle.start_form.specs.CrowdedForm.{finds_few}
use native.Mathlib.Omega.{arith}
use Rattle.start_form.proofs.crowded.repeats_expanded.Goals as goal

pub returns : goal.returns
returns c = finds_few c.classify.ensures (omega arith) c.repeated_expanded-2.ensures
