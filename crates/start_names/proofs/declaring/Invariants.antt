-- `start_names::declaring` meets its contract. The loop's invariant: what the first `j` attributes declare is all that is declared.
use mathlib.Core.Path.{◌≡◌}
use Rattle.spec.specs.Namespaces.{declared}
use Rattle.start_names.specs.Tag.{attributes_of}
use Rattle.start_names.proofs.declaring.Given as goal

abbrev pub invariant-loop-j : goal.invariant-loop-j
invariant-loop-j l = declared (attributes_of l.scratch l.spans l.j) ≡ declared (attributes_of l.scratch l.spans l.k)
