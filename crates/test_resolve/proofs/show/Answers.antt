-- `show`: what is printed stands in the area.
use Rattle.std.proofs.Common.{sym, length-take-le}
use Rattle.resolve.specs.Resolve.{result_length}
use Rattle.test_resolve.proofs.show.Goals as goal

pub slice_bounds-print-end : goal.slice_bounds-print-end
slice_bounds-print-end c = (result_length c.resolve.ensures c.in-Ok.is).is.within

pub slice_bounds-print-end-in-Ok : goal.slice_bounds-print-end-in-Ok
slice_bounds-print-end-in-Ok c = sym (length-take-le _ _ (result_length c.resolve.ensures c.in-Ok.is).is.within)
