-- `convert_files` is safe. The loop's invariant: the name keeps its length.
use mathlib.Core.Path.{◌≡◌}
use lib.ListN.{length}
use Rattle.iceshaft.proofs.convert_files.Given as goal

abbrev pub invariant-loop-i : goal.invariant-loop-i
invariant-loop-i g l = length l.name ≡ 4_096
