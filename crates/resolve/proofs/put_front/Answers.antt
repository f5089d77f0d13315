-- `resolve::put_front` meets its contract.
use mathlib.Core.Path.{sym, ◌∙◌}
use lib.Seq.{length-take-le}
use Rattle.spec.specs.Limits.{most_name_bytes}
use Rattle.resolve.specs.Resolve.{fronted_long, fronted_fits}
use native.Mathlib.Omega.{arith}
use Rattle.resolve.proofs.put_front.Goals as goal

pub returns-then-from-gt-MOST_BYTES : goal.returns-then-from-gt-MOST_BYTES
unfolding most_name_bytes
returns-then-from-gt-MOST_BYTES c = fronted_long c.requires.0 c.requires.1 c.if-from-gt-MOST_BYTES.true

pub slice_bounds-put-end : goal.slice_bounds-put-end
slice_bounds-put-end c = sym (length-take-le _ _ (omega (arith, c.requires.0.order, c.requires.0.lead)))

pub slice_bounds-put-end-2 : goal.slice_bounds-put-end-2
slice_bounds-put-end-2 c = sym (length-take-le _ _ (omega (arith, c.requires.0.own, c.requires.0.path)))

pub shape_of-area : goal.shape_of-area
shape_of-area c = c.area-2-1.given ∙ c.area-1.given

pub returns : goal.returns
unfolding most_name_bytes
returns c = fronted_fits c.requires.0 c.requires.1 c.if-from-gt-MOST_BYTES.false c.put.ensures c.put-2.ensures
