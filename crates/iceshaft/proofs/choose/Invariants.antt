-- `choose` meets its contract. The loop's invariant: the word keeps its length.
use mathlib.Core.Path.{◌≡◌}
use lib.ListN.{length}
use Rattle.iceshaft.proofs.choose.Given as goal

abbrev pub invariant-loop-i : goal.invariant-loop-i
invariant-loop-i g l = length l.word ≡ 4_096
