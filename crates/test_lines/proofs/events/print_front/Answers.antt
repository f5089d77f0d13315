-- `events::print_front` meets its contract: the front has as many bytes as were asked for.
use mathlib.Core.Path.{sym}
use native.Mathlib.Omega.{arith}
use lib.Seq.{length-take-le}
use Rattle.test_lines.proofs.events.print_front.Goals as goal

pub slice_bounds-cut-end : goal.slice_bounds-cut-end
slice_bounds-cut-end c = sym (length-take-le _ _ (omega arith))
